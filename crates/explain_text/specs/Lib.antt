-- The texts of explanations, in this order: the codes of lines (Codes), what a text is written with (Pages), names in it (Words), what is wrong (CauseTexts), what
-- a step does and which lock would help (DeedTexts), the lines of a method (Blocks), which methods are told in which order (Arrangements),
-- the basics of a method's parts (Listings), and the warning of a field that nothing guards (Warnings). Views and ArrangementViews say what a page and what is told are in memory.
pub mod Codes
pub mod Pages
pub mod Words
pub mod CauseTexts
pub mod DeedTexts
pub mod Blocks
pub mod Arrangements
pub mod Listings
pub mod Warnings
pub mod Views
pub mod ArrangementViews
