-- What the contracts of the lines cite: those of faults of a source (SourceFaults) and those of verdicts (Verdicts), which stand
-- apart.
pub mod SourceFaults
pub mod Verdicts
-- For a reader of the contracts, in this order: the text of a state (States), the line for a text that goes wrong at a byte (Refused),
-- and the lines for schedules that are no schedules, that stop, or that end inside an atomic call (Schedules). Entries serves the code.
pub mod States
pub mod Refused
pub mod Schedules
pub mod Entries
