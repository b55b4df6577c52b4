-- What is said of all methods that override one, kept in one table.
use Rattle.std.specs.Prelude.{◌≡◌, ℕ, ◌&&◌, Bool, true, false, List, [], ◌∷◌, length, Some, slice_get}
use Rattle.paths.specs.Paths.{PathData}
use Rattle.algebra.specs.declared.basic.Basic.{Basic}
use Rattle.algebra.specs.declared.basic.Basic.TheVariants.{Const}
use Rattle.algebra.specs.Basics.{below_of, join_of}
use Rattle.algebra.specs.HeldPaths.{Held, has_path}
use Rattle.core_program.specs.Core.{Program}
use Rattle.rules.specs.Effect.{Assignment}
use Rattle.rules.specs.Rules.{IsSubset, AtMost, held_in}
use Rattle.rules.specs.Search.{row_at}
use Rattle.refutation.specs.Lines.{overriding, joined_over}
use Rattle.refutation.specs.Tables.{table_entry}
use Rattle.refutation.specs.Steps.{entry_along}
use Rattle.refutation.specs.declared.groups.Group.{Group}
use Rattle.refutation.specs.declared.steps.Step.{Step}

-- each basic of a table, joined with the one at its place in another
abbrev pub joined_each : List Basic → List Basic → List Basic
joined_each [] ys = []
joined_each (x ∷ xs) [] = x ∷ xs
joined_each (x ∷ xs) (y ∷ ys) = join_of x y ∷ joined_each xs ys

-- whether a table has as many basics as another, each at most the one at its place there
abbrev pub below_each : List Basic → List Basic → Bool
below_each [] [] = true
below_each [] (y ∷ ys) = false
below_each (x ∷ xs) [] = false
below_each (x ∷ xs) (y ∷ ys) = below_of x y && below_each xs ys

-- the greatest of what groups of methods say at a set of these paths, each along its steps
abbrev pub said_in_groups : (rel : List PathData) → List Group → Held → Basic
said_in_groups rel [] H = Const
said_in_groups rel (g ∷ gs) H = join_of (entry_along g.steps.items rel g.table H) (said_in_groups rel gs H)

-- a group has these steps, and so many basics
abbrev pub IsAlike : List Step → (count : ℕ) → Group → Type 0
IsAlike steps count g = (g.steps.items ≡ steps) × (length g.table ≡ count)

-- no more is said of a method than of another, where only relevant paths of that one are held
abbrev pub SaysNoMore : (rel : ℕ → List PathData) → Assignment → (m other : ℕ) → Type 0
SaysNoMore rel A m other = (H : Held) → IsSubset H (has_path (rel other)) → AtMost (A m (held_in (rel m) H)) (A other H)

-- where a table is whole, it tells of each part of a method's relevant paths what an assignment says of the methods that override it
abbrev pub TellsOver : Program → (rel : ℕ → List PathData) → Assignment → ℕ → (table : List Basic) → (whole : Bool) → Type 0
TellsOver P rel A m table whole = whole ≡ true → (H : Held) → IsSubset H (has_path (rel m)) → table_entry (rel m) table H ≡ joined_over rel A (overriding P m) H

-- what an assignment says of the methods that override one: the table tells it of each part of its relevant paths where it is whole; and it is at most a basic
pub record IsSaidOver (P : Program) (rel : ℕ → List PathData) (A : Assignment) (m : ℕ) (table : List Basic) (whole : Bool) (most : Basic) : Type 0 where
  pub each : TellsOver P rel A m table whole
  pub low : (H : Held) → AtMost (joined_over rel A (overriding P m) H) most

-- a table tells of each part of a method's relevant paths what an assignment says of these methods
abbrev pub TellsRow : (rel : ℕ → List PathData) → Assignment → ℕ → (methods : List ℕ) → (table : List Basic) → Type 0
TellsRow rel A m methods table = (H : Held) → IsSubset H (has_path (rel m)) → table_entry (rel m) table H ≡ joined_over rel A methods H

-- of each method that isn't unknown its table tells what an assignment says of those in its row
abbrev pub AreOversTold : (rows : List (List ℕ)) → (rel : ℕ → List PathData) → Assignment → (tables : List (List Basic)) → (unknown : List Bool) → Type 0
AreOversTold rows rel A tables unknown = (m : ℕ) → slice_get unknown m ≡ Some false → TellsRow rel A m (row_at rows m) (row_at tables m)
