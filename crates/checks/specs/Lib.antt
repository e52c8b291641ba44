pub mod Rows
pub mod Breaks
pub mod Addresses
