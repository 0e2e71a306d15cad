-- What the functions that choose a step give.
pub mod Sets
pub mod Choose
pub mod Held
