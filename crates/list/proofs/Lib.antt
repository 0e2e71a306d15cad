-- Laws for the proofs of this crate and of those above: tables of words, and the order of their rows.
pub mod TablesLaws
pub mod OrderLaws
