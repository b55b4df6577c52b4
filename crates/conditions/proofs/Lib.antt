-- Lemmas on conditional atomicities.
pub mod PathLemmas
pub mod CondLemmas
pub mod SameValues
pub mod NodeLemmas
pub mod LeafLemmas
pub mod HoldLemmas
pub mod RenameLemmas
pub mod SyncLemmas
pub mod BelowLemmas
pub mod AlgebraLemmas
-- Lemmas on numbered and shared nodes.
pub mod Tables
mod Decisions
mod Apart
mod Memo
mod Renaming
mod Steps
mod Values
pub mod ShownLemmas
