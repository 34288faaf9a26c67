pub mod FirstWords
pub mod Numerals
pub mod Spelling
pub mod Growth
