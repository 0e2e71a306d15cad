-- The struct that says where each register's rows stand.
pub mod Parts
