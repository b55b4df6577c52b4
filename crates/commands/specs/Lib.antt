-- For a reader of the top call, in this order: what a call is, and the lines and texts that any program over a folder and a sink writes
-- (`edge`), the line for words that are no row (Lines), the rows of words and their files (Rows, Files), in which order these
-- are read (Reading), what each row answers and when it ends how, the same for all rows (Answers), what is written (Said), the sentence
-- that the program is for (Headline), what `serialise-open` is for (OpenCalls), what books are for (Books), what certificates of
-- refusal are for (Refutations), what lock levels are for (NoCircles), what `replay` is for (ReplayedCalls). Commands and Outcomes serve
-- the proofs.
-- What each row answers stands in crates of its own: Check and Print of `sources`; Run, Serialise, SerialiseOpen, Replay and
-- Generate of `schedule_commands`; Derive and Verify of `evidence_commands`; Blames and Verifying of `evidence_commands`; Levels of
-- `evidence_commands`.
pub mod Lines
pub mod Rows
pub mod Files
pub mod Reading
pub mod Answers
pub mod Said
pub mod Headline
pub mod Books
pub mod OpenCalls
pub mod Refutations
pub mod NoCircles
pub mod ReplayedCalls
pub mod Commands
pub mod Outcomes
