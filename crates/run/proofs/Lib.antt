-- Laws that the proofs of this crate and of those above cite.
pub mod TakeLaws
pub mod ListAfter
pub mod Rest
pub mod RunLaws
pub mod RanLaws
