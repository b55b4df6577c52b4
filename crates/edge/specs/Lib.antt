-- The definitions that the contracts of reading and writing cite, in this order: counts of faults (Faults), what a read gives and a
-- write leaves (Pieces), a folder and a sink in memory (InMemory), and real files (RealFiles).
pub mod Faults
pub mod Pieces
pub mod InMemory
pub mod RealFiles
-- How a program over a folder and a sink ends: the lines on its files (Lines), what it said with which status (Said), and a whole call
-- (Calls).
pub mod Lines
pub mod Said
pub mod Calls
