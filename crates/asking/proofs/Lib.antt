-- Laws that the proofs of this crate and of those above cite.
pub mod PlacesLaws
pub mod CopiedLaws
pub mod AskedLaws
