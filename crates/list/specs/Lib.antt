-- What the functions on tables give.
pub mod Order
pub mod Settled
