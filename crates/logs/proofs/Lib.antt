-- Public lemma, for the crates above: the system of logs has movers (Moves).
pub mod Cells
pub mod Sorts
pub mod Apart
pub mod Moves
pub mod Judged
pub mod LogsLines
mod Cuts
mod Spelled
mod Numbered
mod Lookups
mod Putting
mod Noted
mod Noting
mod Turned
mod Closed
pub mod Walking
pub mod Serials
mod Rows
