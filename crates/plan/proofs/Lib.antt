-- Laws about the definitions, for the proofs of this crate and of those above.
-- Lists: standing in one, arrays, different values, ascending rows, numbers, bits, tables of words.
pub mod Lists
pub mod Padded
pub mod Different
pub mod Order
pub mod Numbers
pub mod Told
pub mod Bits
pub mod Sets
pub mod Table
pub mod Rising
-- Words that only theorems need.
pub mod Words
-- Code 0 means not known.
pub mod Zero
-- The join and the list, the calls, the picks, and CHAIN over any charge.
pub mod Rows
pub mod Listed
pub mod Calls
pub mod Picks
pub mod Greedy
pub mod Routes
pub mod Charges
pub mod Steps
pub mod Outcomes
-- The faults of a sheet; readers, and what they see.
pub mod Faults
pub mod Readers
pub mod Marks
pub mod Seen
pub mod First
-- Writing a sheet: its items, bits as bytes, given variables as marks; what was written is read back, what was read is
-- written as the same bytes, and the first broken item.
pub mod Items
pub mod Octets
pub mod Given
pub mod ReadBack
pub mod Back
pub mod WriteAgain
pub mod Forth
pub mod Broken
-- The demands.
pub mod NotKnown
pub mod Demands
pub mod Counts
pub mod Check
pub mod Fixed
pub mod Tight
-- The cases.
pub mod Cases
pub mod PlayCases
-- The depot case, worked through the definitions.
pub mod Worked
-- Refusals and their numbers.
pub mod Refusals
