pub mod Rows
pub mod Links
pub mod Tables
pub mod Climbs
pub mod Paths
pub mod Sides
