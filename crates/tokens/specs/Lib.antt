-- The definitions of tokens stand in `plan`; here is where a part of a line stands.
pub mod Stands
