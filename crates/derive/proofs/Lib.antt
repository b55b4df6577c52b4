-- The lemmas that several proofs share.
mod Tables
mod CalledLemmas
mod Rows
mod PoolLemmas
mod ConcludeLemmas
mod MoveLemmas
mod PartSizes
mod LineLemmas
mod Whole
mod NearLemmas
mod Shown
mod PremiseLemmas
