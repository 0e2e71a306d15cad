-- What the functions that find the rows sent ask for and give.
pub mod Sent
