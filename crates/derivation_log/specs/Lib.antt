pub mod Logs
pub mod Rows
pub mod StepLines
pub mod StepReading
pub mod LineLaws
pub mod Trimming
pub mod Marking
