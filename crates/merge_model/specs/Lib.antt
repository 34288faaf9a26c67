pub mod Answers
pub mod DistanceLaws
pub mod Distances
pub mod Limits
pub mod Merging
pub mod OperatorWords
pub mod Plain
pub mod Walks
