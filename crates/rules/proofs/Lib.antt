-- Lemmas on the rules.
pub mod BasicLemmas
pub mod SetLemmas
pub mod Falling
pub mod EffectRises
pub mod NearOnly
pub mod EffectExamples
pub mod AcceptedExample
pub mod ClauseLemmas
pub mod Reaching
pub mod PathLists
pub mod SearchLemmas
pub mod OverridingLemmas
pub mod LimitLemmas
pub mod UniqueSets
pub mod Required
-- The rows of nearest methods lead to all that override (Leading).
pub mod Leading
-- A walk through the classes finds the nearest methods above (AboveLemmas).
mod AboveLemmas
-- Rows that are ranges of one list: what the next overridden methods lead to (Upwards), and what a walk lays (RangeLemmas).
mod Upwards
mod RangeLemmas
-- What those rows tell gives the near paths (PassingLemmas).
mod PassingLemmas
-- Lemmas on callers: measures of bodies (Weights, Blocks), methods in memory (CallerLookups), rows of callers (CalleeLemmas), and what the effect
-- of a body depends on (CallsSame).
pub mod Weights
pub mod Blocks
pub mod CallerLookups
pub mod CalleeLemmas
pub mod CallsSame
