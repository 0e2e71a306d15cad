-- What a state holds.
pub mod Held
