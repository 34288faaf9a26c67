pub mod Forms
pub mod Lines
pub mod Numerals
pub mod Views
