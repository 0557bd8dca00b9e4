pub mod CallSites
pub mod Imports
pub mod Jumps
pub mod Packed
pub mod Shrunk
