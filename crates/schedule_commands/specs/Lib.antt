-- What each command on a schedule answers, and when it ends how, in this order: what the commands share (Schedules), and then each of
-- them (Run, Serialise, SerialiseOpen, Generate).
pub mod Schedules
pub mod Run
pub mod Serialise
pub mod SerialiseOpen
pub mod Generate
-- What `replay` answers, and when it ends how, in this order: what a call gives by itself (Evaluated), the lines (Lines), the answer (Replay).
pub mod Evaluated
pub mod Lines
pub mod Replay
