-- What `read_typed` gives.
pub mod Request
-- For the contracts within this crate: names by their places.
pub mod Names
-- What the code keeps of what a line has said.
pub mod Notes
-- The number of the refusal that fits a token.
pub mod Told
