pub mod Calls
pub mod RelocationTypes
pub mod Passed
pub mod Places
