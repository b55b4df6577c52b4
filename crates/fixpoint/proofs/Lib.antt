-- The lemmas that several proofs share.
pub mod AssignmentLemmas
pub mod NoteLemmas
mod WaitLemmas
mod ReachLemmas
