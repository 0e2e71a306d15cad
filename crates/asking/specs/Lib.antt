-- What the places of calls are.
pub mod Places
