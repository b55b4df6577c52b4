-- The contracts of the laws cite the definitions of the crates below alone; those of `Watched` cite Watching.
pub mod Watching
-- What the contract of `swap_at` cites (Exchanged); which steps may pass each other stands in reduction (Swapped). Seen serves
-- the proofs.
pub mod Exchanged
pub mod Seen
