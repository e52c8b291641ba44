pub mod Attached
pub mod Blocks
