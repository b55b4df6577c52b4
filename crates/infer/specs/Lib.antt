-- What the contracts of inference cite, in this order: the least closed assignment (Least), and the first method whose bound it breaks
-- (Verdicts). The others serve the private functions: Tables first, then Names, Bodies and Cells.
pub mod Tables
pub mod Names
pub mod Verdicts
pub mod Bodies
pub mod Least
pub mod Cells
