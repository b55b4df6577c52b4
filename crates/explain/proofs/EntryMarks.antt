-- Marks that say with which methods threads begin.
use Rattle.std.proofs.Common.{◌≡◌, ℕ, Bool, true, false, ◌||◌, List, [], ◌∷◌, Some, slice_get, refl, sym, ap, ◌∙◌}
use Rattle.std.specs.List.{list_any}
use Rattle.std.proofs.Math.Bool.{or-false}
use Rattle.std.proofs.lemmas.Option.{none-some}
use Rattle.core_program.specs.Core.{Class, Program}
use Rattle.explain.specs.Strict.{AreEntryMarks, AreMarkedFor, is_run, is_thread_entry}

-- what is marked so far, and what is to be marked for the classes that are left, is all
abbrev pub AreMarkedBefore : Program → (marks : List Bool) → (rest : List Class) → Type 0
AreMarkedBefore P marks rest = (m : ℕ) (mark : Bool) → slice_get marks m ≡ Some mark → (mark || list_any (λ c. is_run m c.run) rest) ≡ is_thread_entry P m

-- after one class more
pub marked_more : (P : Program) (old now : List Bool) (c : Class) (rest : List Class) → AreMarkedFor c.run old now → AreMarkedBefore P old (c ∷ rest) → AreMarkedBefore P now rest
marked_more P old now c rest marked before m mark is =
    let h = marked m mark is in
    ap (λ t. t || list_any (λ d. is_run m d.run) rest) h.2 ∙ parts h.0 (is_run m c.run) (list_any (λ d. is_run m d.run) rest) ∙ before m h.0 h.1
  where
    parts : (a b d : Bool) → ((a || b) || d) ≡ (a || (b || d))
    parts true b d = refl
    parts false b d = refl

-- at the end
pub marked_all : (P : Program) (marks : List Bool) → AreMarkedBefore P marks [] → AreEntryMarks P marks
marked_all P marks before m mark is = sym (or-false mark) ∙ before m mark is

-- no marks say nothing
pub no_marks : (P : Program) → AreEntryMarks P []
no_marks P m mark is = absurd (none-some mark is)
