-- Lemmas on certificates: sets that cover others and joins (Sets), overriding methods (Over), lines and closed assignments (Below),
-- floors (FloorLaws), the cells of a program (Cells) and passes (PassLaws); of the calls, rows of overriding methods (RowLemmas), tables
-- (TableLemmas), methods that needn't be asked again (WaitLemmas), bodies (BodyLemmas) and tables of them (BodyTables), and which of
-- those that look at a method that rose (RiseLemmas), those that wait within a range (Ranges), the maker (MakerLemmas), lines that are
-- said already (Known) and the checker (CheckLemmas), with the work that it takes (Rooms, Cheap) and what a line reaches (Reached);
-- tables that are read along the relevant paths of another method (StepLemmas), of what is said of groups of methods (GroupTables), and
-- of all that override one (OverTables), and what is kept of these (KnownOver).
pub mod Sets
pub mod Over
pub mod Below
pub mod FloorLaws
pub mod Cells
pub mod PassLaws
pub mod RowLemmas
pub mod TableLemmas
pub mod WaitLemmas
pub mod Ranges
pub mod MakerLemmas
mod BodyLemmas
mod RiseLemmas
mod KnownOver
pub mod Known
pub mod CheckLemmas
mod Rooms
mod Cheap
mod Reached
mod StepLemmas
mod GroupTables
mod OverTables
mod BodyTables
-- Lemmas on texts of certificates: held paths (Held), lines (Lines), and whole texts (TextLaws).
pub mod Held
pub mod Lines
pub mod TextLaws
-- The first fault of a text: lines and whole texts (StopLines), where a rule is broken (BrokenRules), and the laws (FaultLaws).
mod StopLines
mod BrokenRules
mod FaultLaws
