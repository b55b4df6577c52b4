-- What the contracts of deriving books cite. To read the contract: Bases, then Derived. The others are what the private functions cite:
-- Named, Pools, Concluded, Moved, Lines.
pub mod Bases
pub mod Named
pub mod Derived
pub mod Pools
pub mod Concluded
pub mod Moved
pub mod Lines
