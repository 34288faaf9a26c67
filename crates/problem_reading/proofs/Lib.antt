pub mod NameLists
pub mod Fitted
pub mod Keeping
pub mod LineFaults
pub mod Progress
pub mod OneSaid
pub mod OneDraft
pub mod ReadingSteps
