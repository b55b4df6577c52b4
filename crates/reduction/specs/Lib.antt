-- What the contracts of safe states cite, in this order: the phases of a thread (Phases), where paths lead (Leads), when work fits a
-- phase (Fits), safe states (Safe), and what a thread's turn needs and gives (Turn).
pub mod Turn
pub mod Phases
pub mod Leads
pub mod Fits
pub mod Safe
-- Systems and Movers say what is assumed, Serial what comes out; Runs serves the proofs.
pub mod Systems
pub mod Movers
pub mod Serial
pub mod Runs
-- For a reader of the laws, in this order: which two steps change places and what that means (Swapped), movers (Neighbours), the
-- invariant of runs that it rests on (Orderly, Addresses). Changes, Parts and Guards serve the proofs.
pub mod Changes
pub mod Guards
pub mod Orderly
pub mod Parts
pub mod Addresses
pub mod Swapped
pub mod Neighbours
-- SerialSchedules is for a reader of the laws; MachineSystem serves the proofs.
pub mod SerialSchedules
pub mod MachineSystem
-- The open order, for a reader of the laws: the units of a run in it (Committing), and what it is to a schedule of any system (Gathering).
pub mod Committing
pub mod Gathering
