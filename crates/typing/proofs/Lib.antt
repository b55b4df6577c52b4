mod Steps
mod Fitting
mod Plain
pub mod Noting
-- Laws of elaboration.
pub mod Complete
pub mod FirstFaults
pub mod Inversions
pub mod TypedExprs
pub mod TypedLocks
pub mod Shapes
pub mod StmtSizes
pub mod EqualSignatures
pub mod SeenScopes
pub mod TypedStmts
pub mod Spelled
pub mod Parts
pub mod PathsInOrder
pub mod Places
pub mod Built
pub mod Ancestry
pub mod Lined
pub mod Pairs
pub mod Paired
mod Numbered
mod NameSets
pub mod TreeLines
pub mod Agreement
pub mod NamedFields
pub mod Meanings
pub mod Overridden
pub mod MemberFacts
pub mod TypedClasses
pub mod TypedPrograms
pub mod Alone
pub mod Gathering
pub mod Blocks
pub mod Called
pub mod Ordering
pub mod Filling
pub mod Inheriting
pub mod Counts
pub mod Climbs
pub mod Ascending
pub mod Adding
pub mod Answering
pub mod Bodies
pub mod TableEntries
pub mod Measures
