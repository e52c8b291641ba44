pub mod Order
pub mod Rows
pub mod Memory
pub mod Picture
