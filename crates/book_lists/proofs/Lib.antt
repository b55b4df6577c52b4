-- What lists of nodes have, and how they grow.
pub mod ListLaws
