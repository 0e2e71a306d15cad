-- What the program's functions give (docs/RULES.md, section 6).
-- Quoted text as bytes.
pub mod Ascii
-- What is read of the two files, and written of the output.
pub mod Moving
-- The words of the row data.
pub mod Words
-- The lines that are printed, and what is printed for the two files.
pub mod Lines
pub mod Files
-- The depot case.
pub mod Cases
