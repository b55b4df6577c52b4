-- For a reader of the contracts, in this order: how long the second file of a row may be (Limits), how commands end and how a
-- refusal is right (Refusals), what a program of the grammar is (Programs), what a well-formed source is (Checking), the least
-- closed assignment and the verdict (Verdicts), the facts that exit statuses stand for (Facts), and what every command says of
-- files and of what it writes (Files). Offsets and Judged serve the proofs.
pub mod Limits
pub mod Refusals
pub mod Programs
pub mod Checking
pub mod Offsets
pub mod Verdicts
pub mod Facts
pub mod Files
pub mod Judged
-- What each command on a source alone answers, and when it ends how: Check and Print stand apart.
pub mod Check
pub mod Print
