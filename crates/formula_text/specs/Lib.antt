pub mod CanonicalText
pub mod ValuationWords
