-- The definitions that the contracts of the least fixpoint cite: Assignments for a reader; Waiting serves the private functions.
pub mod Assignments
pub mod Waiting
