pub mod Served
pub mod Requests
pub mod Records
pub mod Stepping
pub mod Wholes
pub mod Speakable
pub mod Whole
