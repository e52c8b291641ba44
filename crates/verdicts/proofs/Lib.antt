pub mod Along
pub mod Shared
pub mod Strays
pub mod Hops
pub mod Edits
pub mod Breaking
pub mod Sending
