pub mod Steps
pub mod Truths
pub mod Copies
