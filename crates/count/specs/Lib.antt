-- What the count of combinations asks of its caller, and the chains of the rows counted.
pub mod Calls
pub mod Listed
