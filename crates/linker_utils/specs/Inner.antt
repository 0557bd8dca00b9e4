pub mod AArch64Choices
pub mod LoongArchPattern
pub mod NoOps
pub mod Ppc64Choices
pub mod RewriteRows
pub mod RiscVChoices
pub mod X86Tables
