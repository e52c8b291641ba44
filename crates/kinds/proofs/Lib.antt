pub mod Sharing
pub mod Provided
pub mod Bits
pub mod Relations
pub mod Sides
