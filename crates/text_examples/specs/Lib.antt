-- What the examples speak of: a program that is refused (Twice), parts and values of derivations (Premises), small books (Small), walks (Walked), and
-- plain states (Plain).
pub mod Twice
pub mod Premises
pub mod Small
pub mod Walked
pub mod Plain
-- Texts that the examples speak of, and what they write.
pub mod Texts
-- A small table of names, which the lines are written by.
pub mod Names
