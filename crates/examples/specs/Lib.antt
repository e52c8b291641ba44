pub mod Examples
pub mod Samples
pub mod Flag
