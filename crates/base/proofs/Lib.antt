-- General lemmas, which crates above cite.
pub mod Lists
pub mod Options
pub mod NumberLemmas
pub mod Digits
pub mod Texts
-- Lemmas on going up.
pub mod Going
