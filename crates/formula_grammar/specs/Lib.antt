pub mod Grammar
pub mod Limits
pub mod Machine
pub mod Makers
pub mod Readings
pub mod Symbols
pub mod Turns
