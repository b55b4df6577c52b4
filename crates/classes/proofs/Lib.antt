-- Lemmas on faults that are found one after the other, on sets of names, and on what a program without faults keeps (Faultless).
mod Sets
mod Fronts
mod Meanings
mod Places
mod Climbing
mod ClimbLemmas
mod FieldLines
mod Rows
pub mod Parted
mod Repeats
mod Wholes
mod Alone
mod Signatures
pub mod AlikeLemmas
mod ClashLemmas
pub mod OwnLemmas
pub mod Leasts
pub mod FirstFaults
pub mod Noting
pub mod Faultless
mod Adding
mod Counting
mod Going
mod Jumping
mod Tables
pub mod Higher
mod Titles
pub mod Declaring
pub mod Parts
