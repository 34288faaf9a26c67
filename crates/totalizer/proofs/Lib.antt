pub mod FreshVars
pub mod Steps
pub mod Law
pub mod Totals
pub mod Disjunctions
pub mod Sizes
pub mod Distinct
