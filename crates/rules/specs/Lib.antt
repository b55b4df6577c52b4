-- What the contracts of the rules cite, in this order: what a body mentions (Mentions), guards (Guards), relevant paths (Near), the
-- effect of a part (Effect), accepted programs (Rules), and the limit of relevant paths (Limits). Clauses, Search, Overriding and Passing
-- serve the search for relevant paths, and Examples has an assignment. Of proofs/ these files are public, crates above cite them:
-- BasicLemmas (the order of basics), SetLemmas, Falling, EffectRises, NearOnly, UniqueSets, LimitLemmas, AcceptedExample.
pub mod Mentions
pub mod Guards
pub mod Near
pub mod Effect
pub mod Rules
pub mod Examples
pub mod Clauses
pub mod Search
pub mod Overriding
-- Rows that are ranges of one list (Ranges).
pub mod Ranges
pub mod Limits
-- The rows of nearest methods that override (Nearest).
pub mod Nearest
-- What a walk through the classes knows of the nearest methods above (Above).
pub mod Above
pub mod Passing
-- Which methods a body calls, and the callers of each method (Called).
pub mod Called
