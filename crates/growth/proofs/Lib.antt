pub mod Growing
pub mod Attaching
pub mod Giving
