-- Theorems about choosing and taking, apart, whose definitions stand in `plan`.
-- Tables that hold rows; the request that a state asks, the look-ups answered in it, the calls on its list; choosing and taking by
-- cases.
pub mod Tables
pub mod Bounds
pub mod Done
pub mod Called
pub mod Turns
-- What holds of every state and all tables.
pub mod Steady
-- A register's rows, CHAIN's choice in a state, a right delivery, a list read back from its table.
pub mod Stored
pub mod Choice
pub mod Right
pub mod Held
-- The states of CHAIN's route, one step of it, step by step, and the whole play.
pub mod AtStep
pub mod Step
pub mod StepByStep
pub mod Start
pub mod Whole
pub mod Play
-- What choosing and taking come to, case by case; right deliveries.
pub mod Refuses
