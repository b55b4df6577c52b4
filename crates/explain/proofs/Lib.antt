-- Lemmas on steps, errors, places and locks that would help.
pub mod Weights
pub mod Totals
pub mod Heavy
pub mod Readings
pub mod WhyErrors
pub mod AllVisits
pub mod Numbering
pub mod Helping
-- Lemmas on walks, on names, on which methods are told, on reasons, and on what is told where all methods count as `atomic`.
pub mod Walking
pub mod Measures
pub mod NameLemmas
pub mod Untold
pub mod Telling
mod FollowedEntries
pub mod HoldLemmas
pub mod Following
pub mod Stepping
pub mod WalkedStatements
pub mod Reasons
pub mod Taken
pub mod TakenLaws
pub mod Meant
pub mod Strictly
pub mod EntryMarks
pub mod Closing
-- Lemmas on ranks, by which explanations lead in no circle: one more is given (Ranked), before they are given and in a round (FirstRanks).
pub mod Ranked
pub mod FirstRanks
-- Writes of fields that nothing guards.
pub mod Writing
-- A body with a variable final.
pub mod FinalParts
-- What an effect asks of a program.
mod SameFields
-- A field made final, and marks.
mod OneFinal
