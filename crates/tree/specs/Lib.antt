pub mod Path
pub mod Refusals
pub mod Rules
pub mod Table
pub mod Toward
