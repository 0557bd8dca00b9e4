pub mod Encodings
pub mod Equality
pub mod Found
pub mod Laws
pub mod Masks
pub mod Words
