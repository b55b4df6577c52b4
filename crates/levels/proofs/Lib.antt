-- Lemmas on suited lists of work, typed heaps, steps, and the types of bodies.
pub mod ClassMarks
pub mod OpeningTypes
pub mod Heaps
pub mod TypedChanges
pub mod TypedSteps
pub mod Suiting
pub mod TypedRuns
-- Lemmas on walks of frames, steps and circles, and on walks under greater levels.
pub mod Ranked
pub mod Opening
pub mod RankedSteps
pub mod RankedLocks
pub mod RankedCalls
pub mod NoCircles
pub mod GreatestLevels
