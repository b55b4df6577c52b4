-- The definitions that the contract of a walk cites.
pub mod Walks
