-- How an answer tells of a reading, what `read_sheet` gives, and the sheet that its fields hold: all that a reader of its
-- contract needs of this crate.
pub mod Answers
pub mod Fields
-- What is known of a sheet that was read, and of its fields.
pub mod Fine
-- For the contracts within this crate: what a call on the reader reads, how far a reading may go, its stages, and what is shown
-- of each.
pub mod Reads
pub mod Bounds
pub mod Stages
pub mod Parts
