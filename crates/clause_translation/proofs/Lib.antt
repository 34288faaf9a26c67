pub mod Parts
pub mod Defines
