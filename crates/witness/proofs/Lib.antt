-- Lemmas on runs that interrupt nobody, and on sets that these don't leave.
pub mod WalkLemmas
pub mod ClosedSets
-- Lemmas on steps that nobody else sees, and on what is passed by them.
pub mod UnseenSteps
pub mod UnseenWalks
pub mod ReachLemmas
-- An accepted program has no witness.
pub mod Theorem
-- Lemmas on tables of counts, on ends, on nodes, on the search, on verdicts, and on what they tell.
pub mod GoalLemmas
pub mod NodeLemmas
pub mod PassedLemmas
pub mod WalkedLemmas
pub mod ScheduleLemmas
pub mod SearchLemmas
pub mod TableLemmas
pub mod VerdictLemmas
pub mod SenseLemmas
