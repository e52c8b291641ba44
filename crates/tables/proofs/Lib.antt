pub mod Shift
pub mod Rows
