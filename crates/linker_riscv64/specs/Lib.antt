pub mod Inner
pub mod Packing
pub mod RiscVCalls
pub mod RiscVFields
pub mod Shrinking
