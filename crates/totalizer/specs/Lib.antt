pub mod Counter
pub mod Joined
pub mod Plus
pub mod Total
pub mod Either
