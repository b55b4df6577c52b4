-- The text of levels: a line for each class, with its name and its level.
use Rattle.std.specs.Prelude.{◌≡◌, ◌<◌, ◌^◌, ℕ, true, List, [], ◌∷◌, ◌++◌, decimal}
use Rattle.lexer.specs.Pieces.{is_word}

-- a name and a level
pub record LevelLine : Type 0 where
  pub name : List ℕ
  pub level : ℕ

-- the bytes of a line: the name, a blank, the level, LF
abbrev pub level_line_text : LevelLine → List ℕ
level_line_text l = l.name ++ (32 ∷ (decimal l.level ++ (10 ∷ [])))

-- lines one after another
abbrev pub level_lines_text : List LevelLine → List ℕ
level_lines_text [] = []
level_lines_text (l ∷ ls) = level_line_text l ++ level_lines_text ls

-- the name is a letter or `_` with letters, digits and `_` behind it; the level is from 1 on and fits 32 bits
pub record IsLevelLine (l : LevelLine) : Type 0 where
  pub name : is_word l.name ≡ true
  pub positive : 0 < l.level
  pub fits : l.level < 2 ^ 32
