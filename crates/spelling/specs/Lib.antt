pub mod Misfit
pub mod Faults
pub mod Numbers
pub mod Forms
pub mod Meanings
pub mod Reads
pub mod Letters
pub mod Writes
