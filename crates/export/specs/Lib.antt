-- What the exported functions give.
pub mod Exported
pub mod Reading
pub mod Writing
pub mod Typing
pub mod Stepping
pub mod Kept
