-- How books are judged: items, words and numbers of the table (RowStops), trees (TreeStops), nodes and lines (NodeStops), whole texts
-- (BookStops). Where a rule is broken reading stops (Breaking), where something is too deep a rule is broken (DeepStops), books that keep
-- the grammar are read (LooseTexts), and so the laws stand (PlaceLaws).
mod RowStops
mod TreeStops
mod NodeStops
mod BookStops
mod Breaking
mod DeepStops
mod LooseTexts
mod PlaceLaws
