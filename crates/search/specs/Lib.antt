pub mod First
pub mod List
pub mod Question
pub mod Cut
pub mod Frames
pub mod View
pub mod Look
pub mod Answer
