-- Public lemmas, for the crates above: what right refusals exclude (Apart).
pub mod Apart
pub mod TokenCounts
pub mod Told
pub mod Trees
pub mod Refusing
pub mod Verdicts
pub mod Exact
-- Refusals and answers of the commands on a source.
pub mod SourceRows
