-- For a reader of the top call, in this order: what the words ask for (Words), the lines (Lines), what is answered to the bytes of the
-- files (Answers), what is known of the files that were read (Reading), what is written and when it ends how (Written), and the sentence
-- that the program is for (Sentence). Outcomes serves the proofs.
pub mod Words
pub mod Lines
pub mod Answers
pub mod Reading
pub mod Written
pub mod Sentence
pub mod Outcomes
