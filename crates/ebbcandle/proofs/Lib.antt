-- The laws that the functions' proofs cite.
pub mod MoveLaws
pub mod ByteLaws
pub mod LineLaws
pub mod WordLaws
pub mod FileLaws
pub mod CutLaws
-- The depot case.
pub mod Cases
