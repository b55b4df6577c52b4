-- What the examples speak of: a thread that sees one object everywhere (Seen), entries of runs (Entries), threads of the counter program
-- (Insides), small bodies (Bodies), four classes that extend each other (Family), a class with locks of every kind (Fields), states (Small),
-- and programs whose relevant sets are told and that are judged (Judged).
pub mod Seen
pub mod Entries
pub mod Insides
pub mod Bodies
pub mod Family
pub mod Fields
pub mod Small
pub mod Judged
