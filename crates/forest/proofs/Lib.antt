-- The lemmas that several proofs share; those who walk cite `next_step`.
pub mod WalkLemmas
