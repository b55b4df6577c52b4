-- What the contracts of held lists cite: the parts of a renaming whose names are held, and a local's names of held paths.
pub mod HeldLists
-- What the rule of a part cites. To read its contract: Parts, Bodies, Rules; Accesses is about fields, Effects about whole parts.
pub mod Parts
pub mod Bodies
pub mod Rules
pub mod Accesses
pub mod Effects
