-- For a reader of the contract, in this order: the names and members of a class (Names, Members), what it inherits (Lines), which
-- methods may override which (Overriding), its faults (Faults) with the limits (Limits), and which fault is the first (First).
-- Own has the names that a class table keeps; Noted, Alike, Finals, Climbs, Families, LineViews and Shows serve the code.
pub mod Shows
pub mod First
pub mod Limits
pub mod Names
pub mod Members
pub mod Own
pub mod Lines
pub mod Overriding
pub mod Faults
pub mod Noted
pub mod Alike
pub mod Finals
pub mod Climbs
pub mod Families
pub mod LineViews
-- For a reader of the contracts, in this order: the table of a tree (Table, Seen), what the code's table is as plain data (Views), and
-- where names are declared (Declarations). Building and Jumps serve the code.
pub mod Seen
pub mod Table
pub mod Views
pub mod Building
pub mod Jumps
pub mod Declarations
