-- Lemmas on levels that rise to what links ask.
pub mod Raising
pub mod Settled
-- Lemmas on what walks tell, and on the sizes of bodies.
pub mod ToldLemmas
pub mod Light
-- Lemmas on walks under other levels, on cells that are reached, and on the first of bad ones.
pub mod Shifts
pub mod Known
pub mod Named
pub mod Through
pub mod Tells
pub mod Beginnings
pub mod CellLemmas
pub mod Adding
pub mod FirstLemmas
pub mod Answering
-- Lemmas on texts of levels: the parts of a line (Parts), lines, of which a text has one list (Fronts), answers, of which a text has one
-- (Single), and what the code keeps (Keeping).
pub mod Parts
pub mod Fronts
pub mod Single
pub mod Keeping
