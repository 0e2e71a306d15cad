-- Laws for the proofs of this crate.
-- The stages and the tokens that a test leaves.
pub mod Others
-- Names that are held by their places, and the second line read name by name.
pub mod HeldNames
pub mod ReadingLaws
-- The line, token by token.
pub mod LineLaws
-- What is kept of a line with one token more.
pub mod NoteLaws
-- The request that a line has said, as fields.
pub mod RequestLaws
-- The sheet, the second line and the line.
pub mod TypedLaws
-- What `read_typed` gives, for those above.
pub mod Shown
