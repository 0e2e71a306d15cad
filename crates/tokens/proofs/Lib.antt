-- Laws for the proofs of this crate.
pub mod DigitsLaws
pub mod TokenLaws
