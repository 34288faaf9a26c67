pub mod Choices
pub mod Dues
pub mod LineVerdicts
pub mod EachReport
