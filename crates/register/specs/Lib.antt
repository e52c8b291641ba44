pub mod Answers
pub mod Promise
pub use Rattle.state.specs.Memory
pub use Rattle.state.specs.Rows
pub use Rattle.state.specs.Picture
