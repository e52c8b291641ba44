pub mod Overlap
pub mod Misplaced
pub mod Edited
pub mod Asked
pub mod Passage
pub mod Network
