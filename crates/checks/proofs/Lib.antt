pub mod Lists
pub mod Broken
pub mod Owners
pub mod PropertyRows
pub mod Fronts
