-- The machine over code as definitions: what a thread does next and what comes of it (CodeMachine), the same of a thread as it is kept
-- (Seen, Turns), and what it means that a state of this machine stands for one of the definition's (Likeness).
pub mod CodeMachine
pub mod Likeness
pub mod Seen
pub mod Turns
-- What is kept of calls, so that a method far up a line of classes is looked for once, and what a look up the line tells.
pub mod Targets
pub mod Upwards
-- What the contracts of the machine cite. A reader of the public calls needs Likeness of `machine`, MachineValue and Reasons, Standing,
-- and Lean, in this order. What is done to a thread's top frame and to what all threads share stands in Listed and Deeds, what a taken
-- turn is in Taken, when it takes no memory in Rooms, and numbers that are at most the number of steps in Counts; Reaching has what
-- holds of every machine, and Inside what the private functions say of who stands inside an atomic call.
pub mod Listed
pub mod Deeds
pub mod MachineValue
pub mod Reasons
pub mod Taken
pub mod Lean
pub mod Rooms
pub mod Counts
pub mod Inside
pub mod Reaching
pub mod Standing
