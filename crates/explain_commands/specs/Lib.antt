-- For a reader of the top call, in this order: what the words ask for (Words), the line of a source that isn't
-- well-formed (Faults), the methods that break their bounds (Broken), which bounds and which explanations are asked for
-- (Orders), the lines of explanations, the listing of basics and the warnings (Explained, Listed, Warned), what is
-- answered to the bytes of a source and when it ends how (Answers), what is known of the file that was read (Reading),
-- which status is worse (Worse), what was found of each file (Outcomes), what is written (Written), where parts stand
-- (Placed), and the sentence that the program is for (Sentence). Least serves the proofs.
pub mod Words
pub mod Faults
pub mod Broken
pub mod Orders
pub mod Explained
pub mod Listed
pub mod Warned
pub mod Answers
pub mod Reading
pub mod Worse
pub mod Outcomes
pub mod Written
pub mod Placed
pub mod Sentence
pub mod Least
