pub mod Taking
pub mod Spending
pub mod Indexes
