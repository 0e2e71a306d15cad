-- What the functions before the run give.
pub mod Begun
-- What comes back for what was read.
pub mod Answered
