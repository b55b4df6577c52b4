-- Lemmas on phases and on lists that fit, on a thread's turn, and on typed bodies.
pub mod Typing
pub mod Scopes
pub mod Roots
pub mod Admissible
pub mod FrameLemmas
pub mod Accesses
pub mod Actions
pub mod LockActions
pub mod Calls
pub mod Counting
pub mod ThreadTurn
pub mod PhaseLemmas
pub mod LeadLemmas
pub mod FitLemmas
pub mod SetLemmas
pub mod PushedPaths
pub mod Unfolding
pub mod Frames
-- Public lemmas, for the crates above: the written order of a schedule (Whole), reducible words from phases (Phases).
pub mod Shape
pub mod Ordering
pub mod Slides
pub mod Sorting
pub mod Whole
pub mod Phases
-- Lemmas on safe states, runs and words.
pub mod SafeSteps
pub mod SafeRuns
pub mod Theorem
-- Public lemmas, for the crates above: the exchange and movers (Moving), soundness (SoundRuns), and that a thread stays as it is
-- while others step (Swap).
pub mod Dids
pub mod Commute
pub mod Chains
pub mod Stable
pub mod Conflicts
pub mod Swap
pub mod Opened
pub mod SoundSteps
pub mod SoundRuns
pub mod Moving
-- Public lemmas, for the crates above: the machine as a system with movers (MachineSystem), the written order of a schedule (WrittenOrder).
pub mod MachineSystem
pub mod WrittenOrder
-- Public lemmas, for the crates above: units in the open order (KeptUnits, ThreadOrder, LastUnits, OpenMoves), and its theorem
-- (Gathered).
pub mod KeptUnits
pub mod ThreadOrder
pub mod LastUnits
pub mod OpenMoves
mod Together
mod UnitNeighbours
pub mod Gathered
