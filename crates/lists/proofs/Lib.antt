pub mod Bounds
pub mod Between
pub mod Laid
