pub mod Proofs
pub mod Found
pub mod Outcomes
pub mod BorneOut
pub mod Trimmed
