pub mod Packing
pub mod Shrinking
