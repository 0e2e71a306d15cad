-- Laws that the proofs of this crate cite.
-- Starting; the list of a state, and choosing on it; what is told before a state is looked at.
pub mod StartLaws
pub mod MustLaws
pub mod HereLaws
pub mod ChoosingLaws
pub mod NextLaws
-- The step chosen, the joined list, the delivery, and what is taken.
pub mod TakingLaws
pub mod DeliveryLaws
pub mod HandedLaws
-- One result for each input.
pub mod Public
