pub mod Rules
pub mod Lengths
pub mod Layout
pub mod Laws
