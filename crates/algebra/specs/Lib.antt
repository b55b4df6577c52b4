-- What the contracts of basics and of the algebra cite, in this order: the five basics and their operations (Basics), sets of held
-- paths (HeldPaths), and what the operations do to values at a set (Values); and tables of basics (Tables), for the crates above.
pub mod Basics
pub mod HeldPaths
pub mod Values
pub mod Tables
