-- What the contracts of conditional atomicities cite, in this order: the trees and their values (Conditions), the operations on them
-- (Operations), and their texts (Texts). Calls serves the code of the operations.
pub mod Conditions
pub mod Operations
pub mod Calls
pub mod Texts
-- What the contracts of shared nodes cite: the tree that each number stands for (Nodes), two trees by the smaller of the paths at their
-- roots (Halving), the calls that a table keeps (NodeCalls), and the value of each node (Shown).
pub mod Nodes
pub mod Halving
pub mod NodeCalls
pub mod Shown
