-- For a reader of the rules, in this order: what a rule answers (Rulings), what is in scope (Scopes), the rules (Rules), expressions
-- (Exprs), locks (Locks), what can complete (Completion), statements (Stmts), the order of faults (Faults). Views, StmtViews, Names,
-- Fitting and Noted serve the code.
pub mod Locks
pub mod Completion
pub mod Stmts
pub mod StmtViews
pub mod Faults
pub mod Noted
pub mod Rulings
pub mod Scopes
pub mod Rules
pub mod Exprs
pub mod Fitting
pub mod Views
pub mod Names
-- For a reader of the contract, in this order: what a core class is made of (Classes), programs, whose rules go on from those of
-- `typing` (Programs), and programs in which no class extends another (Alone). The others serve the code: Order, Lineages, Kept
-- and Merged that of classes, Inside, Gathered, Making and BodyViews that of members.
pub mod Inside
pub mod Classes
pub mod Programs
pub mod Alone
pub mod Gathered
pub mod Entries
pub mod Making
pub mod Order
pub mod Kept
pub mod Merged
pub mod Lineages
pub mod BodyViews
