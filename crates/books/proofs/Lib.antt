-- What is read of a text is its text (Sound, SoundTrees), and of each part's text the part is read (Complete); lemmas on digits, on
-- words and names at the front of a text, and on items side by side; books read in place, and their laws.
pub mod PassBooks
pub mod BookLaws
pub mod CursorLaws
pub mod TableLaws
pub mod BeforeFaults
mod Digits
mod Fronts
pub mod Sound
pub mod SoundTrees
pub mod Several
pub mod PassLemmas
pub mod Complete
-- What is read depends on nothing behind the next byte (Locals, Numbers, Words, Trees), so a fault is the same in each text that has the
-- bytes up to it (There).
pub mod Locals
pub mod NumberFaults
mod WordFaults
mod TreeFaults
pub mod There
-- How a part of a text is judged, and parts together (Stops), numbers, paths and names (StopParts), and where a number of a path is out
-- of range (PathFaults). Certificates are judged so too.
pub mod Stops
pub mod StopParts
pub mod PathFaults
-- The lemmas that several proofs share.
mod Built
mod MemoryLemmas
