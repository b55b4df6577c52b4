-- Explanations against the methods that break their bounds (Breaking), the least assignment that trees show (Leasts),
-- that told methods are there (There), how it ends and what is told by which bounds are asked for (Bounds), the lines of
-- methods (Writing), that writes that are warned of are by methods that are there (Warnings), what is answered to bytes
-- (Stages), when it ends how (Endings), which status is the worst (Worst), several files (Several), the clauses of the
-- top call (Runs), where named parts stand (Placing), and the sentence (Telling).
mod Breaking
mod Leasts
mod Bounds
mod There
mod Writing
mod Warnings
mod Stages
mod Endings
mod Worst
mod Several
mod Runs
mod Placing
mod Telling
