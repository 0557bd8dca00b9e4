pub mod Listed
pub mod Packing
pub mod Search
