-- What the contracts on units cite, in this order: tables of values by number (Tables), the entries that steps stand for (Entries),
-- and sizes and commit places of units (UnitMaps).
pub mod Tables
pub mod Entries
pub mod UnitMaps
-- What is noted of a run's steps: Made says that these are all steps of the schedule, NoRun when there are none; Calls serves
-- the private functions.
pub mod Made
pub mod NoRun
pub mod Calls
-- Whole, OpenOrder and Opened are for a reader of the laws and the public calls; Spreading serves the private functions.
pub mod Whole
pub mod OpenOrder
pub mod Opened
pub mod Spreading
-- What the contracts of rewriting cite.
pub mod Rewritten
