-- What lists of held paths are as sets.
pub mod ListedSets
-- PartsAtSet in memory and their effects.
pub mod PartsAtSet
-- Lemmas on the rules: blocks from a place on (Blocks), values of a list (Values), a part's effect by its rule (Effects), and the
-- sizes of parts (Sizes).
pub mod Blocks
pub mod Values
pub mod Effects
pub mod Sizes
