-- Rows sent: what the proofs of this crate and of those above need.
pub mod MustLaws
pub mod GivenLaws
pub mod SentLaws
