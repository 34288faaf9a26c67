pub mod Operators
pub mod Postulates
