pub mod Limits
pub mod LevelValues
pub mod Levels
pub mod LeximaxLevels
pub mod MaxLevel
pub mod SumLevel
pub mod LevelOutputs
pub mod Repeats
