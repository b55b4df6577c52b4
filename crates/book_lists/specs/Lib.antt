-- Books in lists.
pub mod Listed
