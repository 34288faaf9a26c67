pub mod Analysis
pub mod Marked
pub mod Choices
pub mod Turns
pub mod Asking
pub mod Replies
pub mod State
