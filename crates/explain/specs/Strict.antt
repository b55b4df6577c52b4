-- A program whose methods all count as `atomic`, but those that threads begin with.
use Rattle.std.specs.Prelude.{◌≡◌, ◌==◌, ℕ, ◌+◌, Bool, true, false, not, ◌||◌, ◌&&◌, List, [], ◌∷◌, ◌++◌, length, Option, Some, None, slice_get, if◌then◌else◌}
use Rattle.std.specs.List.{list_any}
use Rattle.paths.specs.Paths.{PathData}
use Rattle.algebra.specs.declared.basic.Basic.{Basic}
use Rattle.algebra.specs.declared.basic.Basic.TheVariants.{Atomic}
use Rattle.algebra.specs.Basics.{below_of}
use Rattle.core_program.specs.Core.{Program, Method}
use Rattle.rules.specs.Effect.{Assignment}
use Rattle.rules.specs.Near.{AreFew, AreRelevant, MethodPaths, rel_of}
use Rattle.rules.specs.Rules.{IsAntitone, IsClosed, declared_bound}
use Rattle.explain.specs.declared.grounds.Ground.{Ground}
use Rattle.explain.specs.Programs.{explained, explained_methods, found_of, led, led_to, marked}
use Rattle.explain.specs.Whys.{ExplainedData}

-- whether this method runs for `run`
abbrev pub is_run : ℕ → (run : Option ℕ) → Bool
is_run m None = false
is_run m (Some k) = k == m

-- whether a thread begins with a method: it is `main` of the class `Main`, or it runs for `run` of a class that is `Runnable`
abbrev pub is_thread_entry : Program → ℕ → Bool
is_thread_entry P m = (m == P.main) || list_any (λ c. is_run m c.run) P.classes

-- marks of methods say of each whether a thread begins with it
abbrev pub AreEntryMarks : Program → (marks : List Bool) → Type 0
AreEntryMarks P marks = (m : ℕ) (mark : Bool) → slice_get marks m ≡ Some mark → mark ≡ is_thread_entry P m

-- one more method, which runs for `run`, may be marked: each mark is as it was, or the method is that one
abbrev pub AreMarkedFor : (run : Option ℕ) → (old now : List Bool) → Type 0
AreMarkedFor run old now = (m : ℕ) (mark : Bool) → slice_get now m ≡ Some mark → (was : Bool) × (slice_get old m ≡ Some was) × (mark ≡ (was || is_run m run))

-- the greatest basic that a method may have where each counts as `atomic`; one that a thread begins with may have what it declares
abbrev pub strict_bound : Program → ℕ → Method → Basic
strict_bound P m method = declared_bound (method.annotated || not (is_thread_entry P m))

-- whether a method keeps that bound
abbrev pub keeps_strictly : Program → Assignment → ℕ → Method → Bool
keeps_strictly P A m method = below_of (found_of A m method) (strict_bound P m method)

-- the greatest basic that a method may have without being told; of one that keeps that bound this is `atomic`, since it is told where one that
-- breaks its bound is compound by it
abbrev pub strict_limit : Program → Assignment → ℕ → Method → Basic
strict_limit P A m method = if keeps_strictly P A m method then Atomic else strict_bound P m method

-- whether each of these methods keeps it, where they are numbered from here on
abbrev pub keep_from : Program → Assignment → ℕ → List Method → Bool
keep_from P A m [] = true
keep_from P A m (method ∷ methods) = keeps_strictly P A m method && keep_from P A (m + 1) methods

-- whether each method of a program does
abbrev pub keep_all : Program → Assignment → Bool
keep_all P A = keep_from P A 0 P.methods

-- the numbers of those methods that don't, where they are numbered from here on
abbrev pub strictly_broken_from : Program → Assignment → ℕ → List Method → List ℕ
strictly_broken_from P A m [] = []
strictly_broken_from P A m (method ∷ methods) = if keeps_strictly P A m method then strictly_broken_from P A (m + 1) methods else m ∷ strictly_broken_from P A (m + 1) methods

-- the numbers of those methods of a program, in source order
abbrev pub strictly_broken : Program → Assignment → List ℕ
strictly_broken P A = strictly_broken_from P A 0 P.methods

-- whether a method needs no lines as a compound one that keeps the bound: it breaks the bound, and is told for that, or it is atomic
abbrev pub is_settled : Program → Assignment → ℕ → Method → Bool
is_settled P A m method = not (keeps_strictly P A m method) || below_of (found_of A m method) Atomic

-- the same of each of these methods, where they are numbered from here on
abbrev pub settled_from : Program → Assignment → ℕ → List Method → List Bool
settled_from P A m [] = []
settled_from P A m (method ∷ methods) = is_settled P A m method ∷ settled_from P A (m + 1) methods

module _ (P : Program) (rel : ℕ → List PathData) (A : Assignment) (overs : ℕ → List ℕ) (grounds : List Ground) where
  -- the explanation of a method that breaks the bound; none of one that keeps it
  abbrev pub strictly_told : ℕ → Method → List ExplainedData
  strictly_told m method = if keeps_strictly P A m method then [] else explained P rel A overs grounds true (strict_bound P m method) m method ∷ []

  -- those of methods that are numbered from here on
  abbrev pub strict_from : ℕ → List Method → List ExplainedData
  strict_from m [] = []
  strict_from m (method ∷ methods) = strictly_told m method ++ strict_from (m + 1) methods

  -- those of a program, in source order: a method to which one leads is told by itself, where it breaks the bound
  abbrev pub refused_strictly : List ExplainedData
  refused_strictly = strict_from 0 P.methods

  -- behind explanations, where these methods are settled or told: the compound methods that keep the bound to which the first one leads,
  -- each the next one's reason, then those to which the second one leads, and so on; each is told once
  abbrev pub entries_behind : (told : List Bool) → List ExplainedData → List ExplainedData
  entries_behind told [] = []
  entries_behind told (x ∷ xs) =
      let more = led P rel A overs grounds (length P.methods) told (led_to x.why) in
      more ++ entries_behind (marked told (explained_methods more)) xs

  -- the explanations of the methods that break the bound, and behind them those of the compound ones that threads begin with and to which one of
  -- these leads, or one that is led to
  abbrev pub strict_explanations : List ExplainedData
  strict_explanations = refused_strictly ++ entries_behind (settled_from P A 0 P.methods) refused_strictly

-- the program is accepted where each method counts as `atomic` but those that threads begin with: it is well-formed, and some falling and
-- closed assignment keeps these bounds
pub record IsStrictlyAccepted (P : Program) : Type 0 where
  pub sets : List MethodPaths
  pub relevant : AreRelevant P sets
  pub few : AreFew sets
  pub assignment : Assignment
  pub falling : IsAntitone (rel_of sets) assignment
  pub closed : IsClosed P (rel_of sets) assignment
  pub bounds : (m : ℕ) (method : Method) → slice_get P.methods m ≡ Some method → keeps_strictly P assignment m method ≡ true
