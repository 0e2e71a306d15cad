-- Laws of what is put into a lent buffer.
pub mod PutLaws
-- Items of one width, joined.
pub mod JoinedLaws
