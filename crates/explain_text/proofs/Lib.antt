-- Laws on texts that are written one behind the other (Texts), and on explanations that are told or counted (Chosen).
mod Texts
pub mod Chosen
