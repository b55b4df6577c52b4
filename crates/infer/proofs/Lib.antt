-- Lemmas on inference.
pub mod Calls
pub mod Locals
pub mod Walks
pub mod TableParts
pub mod RunLemmas
pub mod KnownLemmas
pub mod ChainLemmas
pub mod CellLemmas
pub mod EqualTables
pub mod LeastLemmas
pub mod RowLemmas
pub mod Lookups
pub mod RiseLemmas
pub mod ValueLemmas
pub mod StartLemmas
pub mod VerdictLemmas
pub mod OtherLemmas
