-- Where the nodes of a method stand in its source: what of the tree each node was made of, and that thing's offset (Sources), and
-- the names of a method's slots (Slots). Feeds has the line feeds of a text.
pub mod Sources
pub mod Slots
pub mod Feeds
-- What the nodes of a method were made of: the law that the nodes that elaboration gives and the parts of the tree are in step (Making).
pub mod Making
