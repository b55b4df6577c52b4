-- Lemmas on the machine's state.
pub mod Addresses
pub mod MemoryLemmas
pub mod Numbering
mod Grids
mod GridMaps
mod GridCounts
-- Lemmas on frames, threads and their operands.
mod Operands
mod FrameLemmas
pub mod EqualFrames
