-- The lemmas that several proofs share. UniqueLemmas and WrittenLemmas are public: crates above cite them.
mod NumberLemmas
mod FrontLemmas
mod ReadLemmas
pub mod UniqueLemmas
mod DigitLemmas
mod FormLemmas
pub mod WrittenLemmas
mod CommentLemmas
-- Lists that loops make longer; when workers rest, what two of them do side by side, and the rounds as they are made.
pub mod Growing
pub mod Counted
pub mod Resting
pub mod Pairs
pub mod Several
