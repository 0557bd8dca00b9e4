mod CallLemmas
mod Determined
mod Digits
pub mod Imports
mod LineLemmas
mod Execution
mod Rejected
mod WordLemmas
