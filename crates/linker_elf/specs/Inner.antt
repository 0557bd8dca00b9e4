pub mod ChoiceTables
pub mod FormLaws
pub mod RowTables
pub mod Runs
