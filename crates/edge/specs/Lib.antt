pub mod Faults
pub mod Held
pub mod Piped
pub mod Planned
pub mod Stored
pub mod Streams
