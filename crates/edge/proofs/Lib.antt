-- The lemmas that several proofs share.
mod PieceLemmas
mod FileLemmas
mod ReadingLemmas
-- Lemmas on statuses.
pub mod Statuses
