-- Laws for the proofs of this crate.
-- Bits as bytes, bit by bit.
pub mod OctetLaws
-- Bits put behind those that are there, one item, and loops.
pub mod PutsLaws
pub mod ItemLaws
pub mod LoopLaws
pub mod ClosingLaws
-- The lent buffer.
pub mod StoreLaws
-- The sheet that fields say: its form, and that of a sheet that was read.
pub mod SaidLaws
-- What comes back of fields that were written.
pub mod Kept
-- Each item of a sheet that keeps the rules is sound.
pub mod Sounds
-- Fields that are the same in each field of a sheet are written or refused alike.
pub mod Alike
-- What is promised of fields that are written.
pub mod Promise
-- What the contract gives.
pub mod Public
