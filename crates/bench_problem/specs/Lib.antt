pub mod Bench
pub mod Draws
pub mod Planted
