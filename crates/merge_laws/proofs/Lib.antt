pub mod Distances
pub mod Laws
pub mod Members
pub mod Postulates
