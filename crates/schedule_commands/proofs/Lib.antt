-- Refusals and answers of the commands on a schedule (ScheduleRows, OpenRows, GenerateRows), and that each ending has its fact, and one alone
-- (ScheduleEndings, OpenEndings, GenerateEndings).
pub mod ScheduleRows
mod OpenRows
mod GenerateRows
pub mod ScheduleEndings
pub mod OpenEndings
pub mod GenerateEndings
pub mod Counts
-- Public lemma, for the crates above: each ending of `replay` has its fact, and one alone (ReplayEndings).
pub mod ReplayEndings
mod Evaluating
mod ReplayRows
