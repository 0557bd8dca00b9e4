pub mod Ahead
pub mod Listed
pub mod LoongArch
pub mod Packing
pub mod Pieces
pub mod Relaxing
pub mod Validity
