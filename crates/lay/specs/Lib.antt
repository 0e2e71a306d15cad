-- Items put into a lent buffer.
pub mod Put
