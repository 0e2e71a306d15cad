-- Laws that the proofs of this crate cite.
pub mod OpenLaws
pub mod Walk
pub mod WithinLaws
pub mod Never
pub mod FieldsLaws
pub mod Whole
pub mod TypedLaws
pub mod Public
