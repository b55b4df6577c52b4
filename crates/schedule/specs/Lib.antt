-- The definitions that the contracts of reading and writing schedules cite, in this order: the text (Text), where it goes wrong first
-- (Faults), what it may begin with (Fronts), how a schedule is written (Written), and texts as comments (Comments).
pub mod Text
pub mod Faults
pub mod Fronts
pub mod Written
pub mod Comments
-- What `generate` gives, in this order: the source (Sources), and the schedule (Rounds), which the workers make round by round. Made
-- has the rounds as the code makes them.
pub mod Sources
pub mod Rounds
pub mod Made
