-- The sheet that any fields say.
pub mod Said
-- What is promised of it.
pub mod Promise
-- For the contracts within this crate: bits put behind those that are there.
pub mod Puts
