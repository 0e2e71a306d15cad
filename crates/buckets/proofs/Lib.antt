-- Rows found through buckets.
pub mod LinkLaws
pub mod BucketLaws
