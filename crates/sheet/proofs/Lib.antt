-- Laws for the proofs of this crate and of those above.
-- What an answer says of a reading, and what a fault stops.
pub mod Readers
-- What a call on the reader says, and calls one behind the other.
pub mod ReadsLaws
-- Packed bits, and rules as numbers.
pub mod Packed
-- Lists padded to arrays, and the pattern of the reading loops.
pub mod Arrays
-- The stages of reading: given variables, the sheet's parts, what is asked behind the look-ups, the whole.
pub mod Marked
pub mod Stages
pub mod Used
pub mod Whole
-- For those above: a sheet that was read is fine, and what its struct holds.
pub mod Fine
pub mod Shown
pub mod Small
pub mod Held
pub mod Filled
