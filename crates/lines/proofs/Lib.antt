-- Laws and theorems about typed requests, whose definitions stand in `plan`.
-- Typed requests: bytes and single tokens, names and pieces of a line, the tokens of a line and the walk over them.
pub mod Cuts
pub mod NameLaws
pub mod TypedWalk
-- What a line that is read says; the sheet that is written for it; the first faulty token.
pub mod TypedSaid
pub mod TypedSheet
pub mod FirstFaulty
-- The tokens of a line by its bytes, the lines that are read, digits; the line that is written for a request reads as it and
-- as no other, and a line that reads as a request is the one that is written for it.
pub mod LineCuts
pub mod LineReads
pub mod LineDigits
pub mod LineBack
pub mod LineForth
-- The tokens cover the line; the part that is handed back; what a sheet says is typed; what comes back for a refusal.
pub mod Covered
pub mod Parts
pub mod SheetLines
pub mod Refused
-- What is claimed of them.
pub mod TypedClaims
