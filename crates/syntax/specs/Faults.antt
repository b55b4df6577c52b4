-- Where a list of tokens stops being the beginning of a program.
use Rattle.std.specs.Prelude.{◌≡◌, ℕ, zero, suc, ◌<◌, ◌≤◌, List, [], ◌∷◌, ◌++◌, length, take}
use Rattle.lexer.specs.declared.tokens.Token.{Token}
use Rattle.syntax.specs.Grammar.{Wide}
use Rattle.syntax.specs.Heights.{highest_body}
use Rattle.syntax.specs.Limits.{most_height}
use Rattle.syntax.specs.Trees.{ProgramTree}

-- the tokens 0 to k of ts begin w, where the end of ts counts as its last token
abbrev pub Through : ℕ → List Token → List Token → Type 0
Through zero [] w = w ≡ []
Through zero (x ∷ ts) [] = ⊥
Through zero (x ∷ ts) (y ∷ w) = x ≡ y
Through (suc k) [] w = ⊥
Through (suc k) (x ∷ ts) [] = ⊥
Through (suc k) (x ∷ ts) (y ∷ w) = (x ≡ y) × Through k ts w

-- the tokens 0 to k begin no program, and the k tokens before begin one
pub record IsUnexpected (ts : List Token) (k : ℕ) : Type 0 where
  pub within : k ≤ length ts
  pub more : List Token
  pub tree : ProgramTree
  pub before : Wide (take k ts ++ more) tree
  pub none : (w : List Token) (t : ProgramTree) → Wide w t → Through k ts w → ⊥

-- the tokens 0 to k begin some program, and every one that they begin has a body that is too high
pub record IsTooDeep (ts : List Token) (k : ℕ) : Type 0 where
  pub program : List Token
  pub tree : ProgramTree
  pub spelled : Wide program tree
  pub through : Through k ts program
  pub each : (w : List Token) (t : ProgramTree) → Wide w t → Through k ts w → most_height < highest_body t
