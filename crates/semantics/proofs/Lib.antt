-- Lemmas on the machine, and on the written order.
pub mod Insertions
pub mod Blocks
pub mod Written
pub mod StepCases
pub mod RunLemmas
pub mod MoreEntries
pub mod WordLemmas
pub mod PlainRuns
pub mod UnitLemmas
pub mod KeptLemmas
pub mod Looks
pub mod Changed
