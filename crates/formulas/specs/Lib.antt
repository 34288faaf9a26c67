pub mod Formulas
pub mod Limits
pub mod Names
pub mod WordLaws
pub mod Words
