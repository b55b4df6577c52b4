-- Lemmas on evaluation beside the steps of a thread.
pub mod Comes
pub mod Leaves
pub mod Neat
pub mod Calling
pub mod Expressions
pub mod Statements
pub mod Joined
pub mod Opens
pub mod Whole
pub mod MadeObjects
pub mod Runs
pub mod Schedules
pub mod Endings
pub mod Scan
pub mod ScanEnds
pub mod Scanned
pub mod Giving
pub mod Instance
-- Lemmas on evaluation in code.
pub mod EndLemmas
pub mod Sizes
pub mod Steps
pub mod Arguments
pub mod Numbers
pub mod Statuses
-- Lemmas on going through a schedule.
pub mod Seen
pub mod Replaying
