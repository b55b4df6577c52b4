-- What the contracts of the rules cite. To read the contracts: Parts, Conclusions, Judges, Blocks, Charges; Works is about bounds.
pub mod Parts
pub mod Conclusions
pub mod Judges
pub mod Blocks
pub mod Charges
pub mod Works
-- The contract of a step cites Nearness, beside the rule of a part (Parts). The private functions cite Pairs first, then Merges
-- and Chains, which stand apart.
pub mod Nearness
pub mod Pairs
pub mod Merges
pub mod Chains
-- What the contracts of checking books cite. To read the contract: Parts, Rules and Conclusions of book_check, then Good, NearBooks, BookWork, Faults, Checks.
-- The others are what the private functions cite: Walks, Overs, Passes.
pub mod Good
pub mod NearBooks
pub mod Faults
pub mod BookWork
pub mod Checks
pub mod Walks
pub mod Overs
pub mod Passes
