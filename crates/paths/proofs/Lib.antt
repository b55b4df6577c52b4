-- Lemmas on the order of paths.
pub mod PathOrder
