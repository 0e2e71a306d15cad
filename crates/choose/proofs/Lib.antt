-- Laws that the proofs of this crate and of those above cite.
pub mod GivesLaws
pub mod ChooseLaws
pub mod CostingLaws
pub mod ChargeLaws
pub mod StepLaws
pub mod Scan
pub mod Tells
pub mod HeldLaws
pub mod States
pub mod KnownLaws
pub mod SheetLaws
