-- The count of combinations.
pub mod CallsLaws
