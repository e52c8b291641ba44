pub mod Order
pub mod Lent
pub mod Tries
