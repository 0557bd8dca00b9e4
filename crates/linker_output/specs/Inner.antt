pub mod Placement
pub mod Properties
pub mod Relr
