-- Laws of variables in columns, and of places that are left.
pub mod ColumnsLaws
pub mod LeftLaws
