pub mod Listing
pub mod Again
