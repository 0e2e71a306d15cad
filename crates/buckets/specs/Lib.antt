-- What rows show, their buckets, and the rows of a bucket.
pub mod Buckets
