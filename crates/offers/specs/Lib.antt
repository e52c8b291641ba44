pub mod Asked
pub mod Offers
