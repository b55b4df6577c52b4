-- The lemmas that several proofs share.
pub mod NameLemmas
pub mod BlockLemmas
pub mod PremiseLemmas
-- The lemmas that several proofs share.
mod SplitLemmas
mod PairLemmas
mod BranchLemmas
mod ChainLemmas
mod UnmovedLemmas
mod StepLemmas
-- The lemmas that several proofs share.
pub mod Lists
pub mod Above
mod Admissible
mod WalkLemmas
mod AskedLemmas
mod LineLemmas
mod WorkLemmas
mod VerdictLemmas
mod PassLemmas
mod OverLemmas
pub mod CanonicalLemmas
mod OneVerdict
mod TextVerdict
