-- The program whose explanations are computed (Shelf), parts and steps of every kind (Bodies), what of explanations is
-- compared (Outlines), what lines are written with: names, slots and places (Page), and methods that are errors (Errors), and methods that call each other (Circles).
pub mod Shelf
pub mod Outlines
pub mod Bodies
pub mod Page
pub mod Errors
pub mod Circles
-- Writes of fields that nothing guards (Writes), variables that aren't final (Finals), and a scope (Scopes).
pub mod Writes
pub mod Finals
pub mod Scopes
