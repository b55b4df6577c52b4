-- Lemmas: a least closed assignment is at most what methods come to (LeastRuns); ranks of methods (Founding), reasons by them (Known) and chains of
-- explanations (Chains); causes of errors (Causing), locks that don't help (Helpless), and variables that help where they are final (Fitted); what is told (ToldAbove), and where all methods count as
-- `atomic` (Strictly).
pub mod LeastRuns
pub mod Causing
pub mod Helpless
pub mod Fitted
pub mod Founding
pub mod Known
pub mod Chains
pub mod ToldAbove
pub mod Strictly
