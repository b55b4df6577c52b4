-- Lemmas on basics, known by their ranks (Ranks) and in sequence (Sequences), on sets of held paths (Sets),
-- and on tables (Halves).
pub mod Ranks
pub mod Sequences
pub mod Sets
pub mod Halves
