-- The written certificate: passes over the methods, and for each over the sets of its relevant paths that have its required ones.
use Rattle.std.specs.Prelude.{◌≡◌, ℕ, ◌+◌, ◌<◌, Bool, true, false, List, [], ◌∷◌, ◌++◌, map, filter, length}
use Rattle.std.specs.List.{list_all}
use Rattle.paths.specs.Paths.{PathData}
use Rattle.algebra.specs.declared.basic.Basic.{Basic}
use Rattle.algebra.specs.Basics.{below_of}
use Rattle.algebra.specs.HeldPaths.{has_path}
use Rattle.core_program.specs.Core.{Program, Method}
use Rattle.refutation.specs.Lines.{LineData, floor, certified_up}
use Rattle.refutation.specs.Certificates.{keeps_bound}

-- each of these lists, followed by the same with one more path in front
abbrev pub with_and_without : PathData → List (List PathData) → List (List PathData)
with_and_without p [] = []
with_and_without p (ps ∷ rest) = ps ∷ (p ∷ ps) ∷ with_and_without p rest

-- the parts of a list, in ascending order of the number whose bit i stands for the i-th path
abbrev pub subsets_of : List PathData → List (List PathData)
subsets_of [] = [] ∷ []
subsets_of (p ∷ ps) = with_and_without p (subsets_of ps)

-- a method at a set of held paths
pub record MethodAtSet : Type 0 where
  pub method : ℕ
  pub held : List PathData

-- a method at those of these sets that have its required paths
abbrev pub cells_in : ℕ → (required : List PathData) → List (List PathData) → List MethodAtSet
cells_in m required sets = map (λ held. record { method = m; held = held }) (filter (λ held. list_all (has_path held) required) sets)

-- the methods from this number on, each at the parts of its relevant paths
abbrev pub cells_from : (rel : ℕ → List PathData) → ℕ → List Method → List MethodAtSet
cells_from rel m [] = []
cells_from rel m (method ∷ methods) = cells_in m method.requires_ (subsets_of (rel m)) ++ cells_from rel (m + 1) methods

-- the methods in source order, each at the parts of its relevant paths
abbrev pub cells_of : Program → (rel : ℕ → List PathData) → List MethodAtSet
cells_of P rel = cells_from rel 0 P.methods

-- the lines so far, and whether the last one broke the bound of its method
pub record LinesWritten : Type 0 where
  pub all : List LineData
  pub broken : Bool

-- by whether nothing new is to be said, and by whether what is said keeps the bound
abbrev pub by_tests : (known keeps : Bool) → (skipped added ended : LinesWritten) → LinesWritten
by_tests true keeps skipped added ended = skipped
by_tests false true skipped added ended = added
by_tests false false skipped added ended = ended

module _ (P : Program) (rel : ℕ → List PathData) where
  -- what the lines say of a method at a set
  abbrev pub floor_at : List LineData → MethodAtSet → Basic
  floor_at ls c = floor rel ls c.method (has_path c.held)

  -- what a call of the method there comes to at least
  abbrev pub up_at : List LineData → MethodAtSet → Basic
  up_at ls c = certified_up P rel ls c.method (has_path c.held)

  -- the line that says so
  abbrev pub line_for : List LineData → MethodAtSet → LineData
  line_for ls c = record { method = c.method; found = up_at ls c; held = c.held }

  -- one pass: at each cell the line is added where its basic isn't at most what the lines say already; the first line above its bound ends it
  abbrev pub pass : List MethodAtSet → List LineData → LinesWritten
  pass [] ls = record { all = ls; broken = false }
  pass (c ∷ cs) ls = by_tests (below_of (up_at ls c) (floor_at ls c)) (keeps_bound P c.method (up_at ls c))
      (pass cs ls) (pass cs (ls ++ line_for ls c ∷ [])) (record { all = ls ++ line_for ls c ∷ []; broken = true })

  -- passes after each other, from these lines on: up to a broken bound, or to a pass that adds nothing
  pub data Passes : List LineData → LinesWritten → Type 0 where
    broke : {ls : List LineData} {e : LinesWritten} → pass (cells_of P rel) ls ≡ e → e.broken ≡ true → Passes ls e
    still : {ls : List LineData} {e : LinesWritten} → pass (cells_of P rel) ls ≡ e → e.broken ≡ false → length e.all ≡ length ls → Passes ls e
    again : {ls : List LineData} {e : LinesWritten} (f : LinesWritten) → pass (cells_of P rel) ls ≡ f → f.broken ≡ false → length ls < length f.all → Passes f.all e → Passes ls e
