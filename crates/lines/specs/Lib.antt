pub mod Kinds
pub mod Wholes
pub mod Serve
pub mod Intake
