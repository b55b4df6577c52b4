-- Lemmas on line feeds and on places.
pub mod LineFeeds
pub mod Putting
-- Nodes in step with what they were made of.
pub mod SlotsNamed
pub mod InStep
pub mod InStepStmts
pub mod AtNumbers
pub mod InPrograms
-- Numbers of the nodes of a book.
pub mod BookNumbers
