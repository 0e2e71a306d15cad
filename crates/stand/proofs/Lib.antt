-- Laws that the proofs of this crate and of those above cite.
pub mod StandLaws
-- Laws for the proofs of this crate's functions.
pub mod AsksLaws
pub mod DoneLaws
pub mod RowsLaws
