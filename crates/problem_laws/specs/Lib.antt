pub mod CanonicalOrder
pub mod HasEnding
pub mod HasOutcome
pub mod HasReading
pub mod Sameness
