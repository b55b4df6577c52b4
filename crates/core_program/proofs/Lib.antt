-- Lemmas on the core program.
pub mod ViewLemmas
pub mod ExampleProofs
pub mod LockLemmas
pub mod DispatchLemmas
pub mod Running
-- Going up from a class (Climbing), what is found there by a name (NamedPlaces, NamedParts), and what a method overrides (OverridesLemmas).
pub mod NamedPlaces
pub mod Climbing
pub mod NamedParts
pub mod OverridesLemmas
