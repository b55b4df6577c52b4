-- What is said of texts that grow.
pub mod Texts
-- Ancestors, over any function that gives what stands above a number.
pub mod Ancestors
