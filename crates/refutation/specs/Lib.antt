-- What the contracts of certificates cite, in this order: lines and their floor (Lines), certificates (Certificates), the work of
-- judging lines (Works), why lines are no certificate (Wrongs), the passes that write one (Passes), and why there is none (Ends).
-- Tables, Steps, Overs, Waiting, Bodies and ShortPaths serve the private functions.
pub mod Lines
pub mod Certificates
pub mod Passes
pub mod Tables
pub mod Works
pub mod Wrongs
pub mod Ends
pub mod Steps
pub mod Overs
pub mod Waiting
pub mod Bodies
pub mod ShortPaths
-- The text of a certificate of refusal, in this order: how it is written (Texts), how a text is read and where its first fault stands
-- (Reading), and where it stands by the texts alone (FirstFaults). Passing serves the reader that takes no memory.
pub mod Texts
pub mod Reading
pub mod FirstFaults
pub mod Passing
