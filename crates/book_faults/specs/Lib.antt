-- To read the law: Loose, Breaks, FirstFaults.
pub mod Loose
pub mod Breaks
pub mod FirstFaults
