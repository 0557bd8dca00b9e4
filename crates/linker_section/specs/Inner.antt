pub mod Claims
pub mod Facts
pub mod Order
pub mod Quick
pub mod Saved
pub mod Steps
pub mod Tables
pub mod Values
