-- What a method's body comes to, kept in one table.
use Rattle.std.specs.Prelude.{◌≡◌, ℕ, ◌++◌, Bool, true, false, List, [], slice_get}
use Rattle.std.specs.List.{AllByRecursion}
use Rattle.paths.specs.Paths.{PathData}
use Rattle.algebra.specs.declared.basic.Basic.{Basic}
use Rattle.algebra.specs.HeldPaths.{Held, has_path}
use Rattle.core_program.specs.Core.{Program}
use Rattle.rules.specs.Called.{method_calls}
use Rattle.rules.specs.Effect.{Assignment}
use Rattle.rules.specs.Rules.{IsSubset, AtMost}
use Rattle.refutation.specs.Ends.{cells_at}
use Rattle.refutation.specs.Lines.{LineData, floor, body_effect}
use Rattle.refutation.specs.Tables.{table_entry}
use Rattle.refutation.specs.Waiting.{AreBodiesSaid}

module _ (P : Program) (rel : ℕ → List PathData) (A : Assignment) (m : ℕ) where
  -- what the body of a method comes to under an assignment
  abbrev pub body_under : Held → Basic
  body_under H = body_effect P rel A (slice_get P.methods m) H

  -- with more held paths it comes to no more
  abbrev pub BodyFalls : Type 0
  BodyFalls = (H K : Held) → IsSubset H K → AtMost (body_under K) (body_under H)

  -- a table of some paths tells what it comes to at each set that has the held paths, and beside them only some of the others
  abbrev pub TellsBetween : (others held : List PathData) → (table : List Basic) → Type 0
  TellsBetween others held table = (H : Held) → IsSubset (has_path held) H → IsSubset H (has_path (others ++ held)) → table_entry others table H ≡ body_under H

-- what is known of a method's body at these sets: the table tells what it comes to, or that is said; and neither changes while lines of the
-- method are added, since it doesn't call itself
pub record IsBodyKnown (P : Program) (rel : ℕ → List PathData) (m : ℕ) (sets : List (List PathData)) (lines : List LineData) (table : List Basic) (is_told is_said : Bool) : Type 0 where
  pub told : is_told ≡ true → AllByRecursion (λ held. table_entry (rel m) table (has_path held) ≡ body_under P rel (floor rel lines) m (has_path held)) sets
  pub said : is_said ≡ true → AreBodiesSaid P rel (cells_at m sets) lines
  pub told_quiet : is_told ≡ true → method_calls (slice_get P.methods m) [] m ≡ false
  pub said_quiet : is_said ≡ true → method_calls (slice_get P.methods m) [] m ≡ false
