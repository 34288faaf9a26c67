pub mod Limits
pub mod Counter
pub mod Differences
pub mod CounterLaws
pub mod Copy
