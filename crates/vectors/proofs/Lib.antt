pub mod PokedSection
pub mod WriteBack
