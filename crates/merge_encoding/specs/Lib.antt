pub mod Limits
pub mod MainDues
pub mod Frames
pub mod Claims
pub mod Assumptions
pub mod Named
