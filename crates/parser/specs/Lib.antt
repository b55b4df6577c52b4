-- For a reader of the parser, in this order: reading from the front of a list (Combine), names and types (Words), expressions
-- (Expressions), plain statements (Statements), what the functions answer (Answer). Lexemes serves the code.
pub mod Statements
pub mod Answer
pub mod Lexemes
pub mod Combine
pub mod Words
pub mod Expressions
-- How blocks (Blocks), and then members and programs (Members) are read. The contract of `parse` cites the grammar of `syntax`
-- alone.
pub mod Blocks
pub mod Members
