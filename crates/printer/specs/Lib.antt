-- For a reader of the contracts, in this order: the layout of a page (Layout), the tokens of a tree and its canonical text (Printing),
-- and what reads back (Reprinted, Unplaced).
pub mod Layout
pub mod Printing
pub mod Unplaced
pub mod Reprinted
