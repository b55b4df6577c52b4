-- For a reader of the grammar, in this order: trees (Trees, Views), the tokens that they are written with (Tokens), the grammar
-- (Grammar) and heights (Heights, Limits), where a list of tokens goes wrong (Faults), the names in a tree (Names) and where its parts
-- begin (Offsets). Seen says what a name in memory is.
pub mod Limits
pub mod Faults
pub mod Grammar
pub mod Heights
pub mod Names
pub mod Offsets
pub mod Seen
pub mod Tokens
pub mod Trees
pub mod Views
