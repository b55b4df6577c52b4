-- What lines of explanations mean: what is wrong with an error (Causing), and that no lock helps where none is told (Helpless).
pub mod Causing
pub mod Helpless
