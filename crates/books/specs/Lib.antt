-- What a book and its text are, in this order: Derivations, Books, Texts, then Reading, which says production by production what a
-- text is read as, over Combine, and where its first fault stands (Faults). Fronts says what a book's text may begin with, for the
-- laws of the fault. Passing has the same as Reading seen by less, as the readers do that take no memory; Views says how a book's
-- parts are seen in place.
pub mod Views
pub mod Fronts
pub mod Derivations
pub mod Books
pub mod Texts
pub mod Combine
pub mod Reading
pub mod Faults
pub mod Passing
-- Rules that a book has beside its grammar, broken at a byte; and those on paths.
pub mod Broken
pub mod BrokenPaths
-- What derivations and books in memory are as plain data.
pub mod Memory
