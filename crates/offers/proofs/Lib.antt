pub mod Offering
pub mod Asking
pub mod Standing
pub mod Sending
