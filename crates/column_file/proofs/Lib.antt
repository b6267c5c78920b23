pub mod ColumnTies
pub mod FileTie
pub mod LentColumns
pub mod Rows
pub mod TextTies
