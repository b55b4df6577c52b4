-- What the contracts of greatest levels cite: Greatest for a reader; Rises serves the private functions.
pub mod Greatest
pub mod Rises
-- What the contracts of the walk in code cite: what a walk has seen, with what may run at each call.
pub mod Told
-- What the calls of methods that others override cite: methods that know paths which those that they override don't (Origins), and what held
-- paths are called in callees (Passed).
pub mod Origins
pub mod Passed
-- What the search for the first bad `synchronized` cites, in this order: what walks tell (Bodies), the cells that are reached over
-- calls (Cells), and which bad one comes first (Bad).
pub mod Bodies
pub mod Cells
pub mod Bad
-- The text of levels, in this order: how it is written (Texts), how the parts of a line are read (Reading), what its first fault is and
-- which levels it gives (Faults). Kept serves the code.
pub mod Texts
pub mod Reading
pub mod Faults
pub mod Kept
