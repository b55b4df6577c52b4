-- Events and Memory say what a log is about, Turns what each event does; Logs is the system in which threads do what a log says,
-- Judging how a log is judged line by line, Serial what it means that a log is serial. Examples are logs of a counter.
pub mod Events
pub mod Memory
pub mod Turns
pub mod Logs
pub mod Judging
pub mod Serial
pub mod Examples
-- Words says what a word is and how bytes are cut at spaces; Said what a line says, how it is spelled and how it is read; Numbers gives
-- each word a number.
pub mod Words
pub mod Said
-- Numbers gives each word a number; Tables says what a table holds at the number of a word.
pub mod Numbers
pub mod Tables
-- Views says what events, guards and contents the code's values stand for; State what a judge knows; Noting how one line is judged once
-- its thread is there.
pub mod LogJudgeEvents
pub mod Views
pub mod State
pub mod Noting
-- Walks says how a judge goes through the bytes of a log, Spelling what the text of a log is; Stops says where the code's walk stands and how it ends.
pub mod Walks
pub mod Stops
pub mod Spelling
