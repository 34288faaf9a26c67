pub mod Equations
pub mod NameViews
pub mod WordOrder
