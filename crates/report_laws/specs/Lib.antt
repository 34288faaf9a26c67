pub mod HasVerdict
