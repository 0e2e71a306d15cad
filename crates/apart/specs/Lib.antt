-- Where the list of a state stands.
pub mod Here
