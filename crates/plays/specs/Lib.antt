-- The definitions stand in `plan`. What is claimed beside `plan`'s demands: what choosing and taking come to, case by case.
pub mod Refuses
