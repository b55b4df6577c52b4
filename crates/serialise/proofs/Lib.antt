-- Public lemmas, for the crates above: sizes and commit places of units (Found), and units in order (Spread).
pub mod Found
pub mod Spread
-- Public lemmas, for the crates above: steps that have run (Running), and that a schedule runs or stops, once (Endings).
mod AtomicCalls
mod SeenFrames
pub mod Running
pub mod Endings
-- Lemmas on the open order.
mod Gathered
mod ToldUnits
mod Spreads
mod OpeningResults
-- Lemmas on rewriting.
mod RewritingResults
