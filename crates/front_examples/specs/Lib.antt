-- What the examples speak of: names and trees as they are written (Written), classes above each other (Lined), a program with its class
-- table (Shop), locks and methods in classes (Overridden), programs with one fault or none (Faulty), lock expressions (Knots), what
-- stands in a method of the shop (Typing), whole programs (Whole), tokens that spell
-- trees (Spelled), and tokens of texts (Cut).
pub mod Written
pub mod Lined
pub mod Shop
pub mod Overridden
pub mod Faulty
pub mod Knots
pub mod Typing
pub mod Whole
pub mod Spelled
pub mod Cut
