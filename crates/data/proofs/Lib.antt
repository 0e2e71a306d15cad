-- The registers' parts of the row data.
pub mod PartsLaws
