pub mod Narrow
pub mod News
pub mod Included
pub mod Indexed
