pub mod Definition
