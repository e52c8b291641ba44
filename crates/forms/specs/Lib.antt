pub mod Range
pub mod Prefix
pub mod FirstBits
