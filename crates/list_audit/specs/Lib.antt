pub mod Actions
pub mod Asked
