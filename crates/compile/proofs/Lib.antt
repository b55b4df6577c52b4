-- Lemmas on lines that are put down, the measures by which walks over expressions and statements end, and rooms of operands.
pub mod Measures
mod Blocks
mod Emitting
mod Fronts
pub mod Depth
mod Lengths
mod Standings
mod Operands
mod Fitting
mod Attaining
mod Methods
