-- What the functions that take steps give.
pub mod Taken
pub mod Run
