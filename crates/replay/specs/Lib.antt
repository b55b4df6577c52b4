-- What it means to evaluate a method by itself, in this order: plain states (Plain), what evaluation answers (Answers), evaluation
-- (Evaluation), the atomic calls of a schedule (Calls), what is told of them (Records), and that this is what evaluation gives
-- (Given). Scanning serves the proofs of the crates above, and Examples has programs.
pub mod Plain
pub mod Answers
pub mod Evaluation
pub mod Calls
pub mod Records
pub mod Given
pub mod Scanning
pub mod Examples
-- What the contracts of evaluation cite, in this order: why it gives nothing (Ends), and the answers for the parts of a program in
-- memory (Evaluating). Entries and Codes say how plain states are kept.
pub mod Codes
pub mod Entries
pub mod Ends
pub mod Evaluating
-- What the contracts of replay cite: Views for a reader, Sights for the private functions.
pub mod Views
pub mod Sights
