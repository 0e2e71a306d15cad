-- Variables in columns, and places that are left.
pub mod Columns
pub mod Left
