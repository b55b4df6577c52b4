-- Why a method is refused, in this order: the parts of a body and what each does by itself (PartEffects), the walk that comes to them with
-- their numbers and held paths (Visits), the steps that can't be moved (Steps), what a list of visits says of the part that it was made
-- of (StepReadings), and which lock would help (Helping).
pub mod PartEffects
pub mod Visits
pub mod Steps
pub mod StepReadings
pub mod Helping
-- Explanations of refusals, in this order: the assignment that trees show (Shown), the basic of each part of a body (Basics),
-- explanations as plain data (Whys), why a method is more than it may be (Explaining) and
-- what that means (Meanings), names of locks (Names), which lock a call takes
-- (Takings), what a step does and which lock would help (Deeds), which lock would help around a whole method (Around), what is wrong
-- with an error (Causes), what becomes of a method where a variable is made final (Finalising) or a field (FinalFields), which one that is (Fitting), what a whole program's explanations are (Programs), what they are where all methods count as
-- `atomic` (Strict), and which fields are written though nothing guards them (Unguarded). Views and Walked have what the walk in code finds.
pub mod Shown
pub mod Basics
pub mod Whys
pub mod Views
pub mod Walked
pub mod Explaining
pub mod Meanings
pub mod Names
pub mod Takings
pub mod Deeds
pub mod Around
pub mod Causes
pub mod Finalising
pub mod FinalFields
pub mod OneFinal
pub mod Fitting
pub mod Grounds
pub mod Programs
pub mod Strict
pub mod Leads
pub mod Ranking
pub mod Unguarded
