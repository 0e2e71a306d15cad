-- The laws that the functions' proofs cite.
pub mod ExportLaws
pub mod ReadingLaws
pub mod PlacesLaws
pub mod MadeLaws
pub mod WritingLaws
pub mod SteppingLaws
pub mod KeptLaws
