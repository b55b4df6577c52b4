-- For a reader of the top call, in this order: what the words ask for (Words), the lines that are written (Lines), which line and status belong
-- to a log (Answers), which status comes exactly where (Exact), and the sentence that the program is for (Sentence). Outcomes serves the proofs.
pub mod Words
pub mod Lines
pub mod NoteLines
pub mod Answers
pub mod Outcomes
pub mod Exact
pub mod Sentence
