-- Refusals and answers of the commands on books (BookRows), and that each ending has its fact, and one alone (BookEndings).
mod BookRows
pub mod BookEndings
-- Refusals and answers of `blame` and `verify-blame` (Rows), and that each ending has its fact, and one alone (Endings).
mod Rows
pub mod Endings
-- Refusals and answers of `levels` (LevelRows), and which ending comes when (LevelEndings).
pub mod LevelRows
pub mod LevelEndings
