-- For a reader of the contracts, in this order: the pieces of a text (Pieces), its tokens and its first fault (Tokens), with the limits
-- (Limits) and the words that are no names (Reserved); lines and columns (Places); and for those who write sources, Written. Reading
-- and Seen serve the proofs.
pub mod Reserved
pub mod Limits
pub mod Pieces
pub mod Places
pub mod Reading
pub mod Seen
pub mod Tokens
pub mod Written
