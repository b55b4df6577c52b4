-- The machine over code steps as the definition does (Simulation, Runs); lemmas on operands and on kinds.
pub mod Simulation
pub mod Runs
pub mod KindLemmas
mod Operands
-- Lemmas on what is done: frames, operands and rooms after it, and numbers that stay at most the number of steps; then on
-- the machine along a schedule.
mod Lists
mod Threads
mod TurnLemmas
mod Taking
mod Cells
pub mod RoomLemmas
pub mod Following
pub mod Counting
pub mod EqualMaps
mod KindOf
mod KindTurns
mod Turned
mod Insides
pub mod Schedules
mod Reaching
mod Starting
-- Looks up a line of classes (Enough, Passing), and what is kept of them.
mod Enough
mod Passing
mod Keeping
