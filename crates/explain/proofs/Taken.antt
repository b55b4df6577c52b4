-- The lock that a call takes: from a walk through the callee, and the search for it.
use Rattle.std.proofs.Common.{◌≡◌, ℕ, ◌+◌, ◌<◌, ◌≤◌, Bool, true, false, ◌&&◌, ◌||◌, List, [], ◌∷◌, length, get_or, drop, map, refl, sym, ap, ◌∙◌}
use Rattle.std.specs.Prelude.{not, Option, Some, None, if◌then◌else◌}
use Rattle.std.specs.List.{list_all}
use Rattle.std.proofs.lemmas.List.{drop_all}
use Rattle.paths.specs.Paths.{PathData}
use Rattle.paths.specs.Renamings.{under_call}
use Rattle.algebra.specs.declared.basic.Basic.TheVariants.{Mover}
use Rattle.algebra.specs.Basics.{below_of}
use Rattle.algebra.specs.HeldPaths.{Held}
use Rattle.core_program.specs.Core.{Program}
use Rattle.base.proofs.Lists.{next_drop}
use Rattle.rules.specs.Effect.{Assignment, held_under}
use Rattle.explain.specs.StepReadings.{own_at}
use Rattle.explain.specs.Visits.{Visit}
use Rattle.explain.specs.Takings.{first_taken, is_freed, is_taking, locks, takes_only}
use Rattle.explain.specs.Views.{heavy_in}

-- a part that can be moved needn't be asked
asked_or_not : (t : Bool) (test : Visit → Bool) (v : Visit) (vs : List Visit) (rest : Bool) → rest ≡ list_all test vs → ((t || test v) && rest) ≡ list_all test (if not t then v ∷ vs else vs)
asked_or_not true test v vs rest e = e
asked_or_not false test v vs rest e = ap (λ z. test v && z) e

module _ (P : Program) (rel : ℕ → List PathData) (A : Assignment) where
  pub only_heavy : (q : PathData) (vs : List Visit) → list_all (is_taking P rel A q) vs ≡ list_all (λ v. locks q v.part) (heavy_in P rel A vs)
  only_heavy q [] = refl
  only_heavy q (v ∷ vs) = asked_or_not (below_of (own_at P rel A v) Mover) (λ w. locks q w.part) v (heavy_in P rel A vs) (list_all (is_taking P rel A q) vs) (only_heavy q vs)

-- of some paths with their names the name of the first for which the test passes
abbrev pub first_named : (PathData × Option PathData → Bool) → List (PathData × Option PathData) → Option PathData
first_named test [] = None
first_named test (pair ∷ pairs) = if test pair then pair.1 else first_named test pairs

module _ (test : PathData × Option PathData → Bool) (items : List (PathData × Option PathData)) (i : ℕ) (pair : PathData × Option PathData)
    (below : i < length items) (at : pair ≡ get_or items i pair) (before : first_named test (drop i items) ≡ first_named test items) where
  pub named_here : (name : PathData) → pair.1 ≡ Some name → test pair ≡ true → Some name ≡ first_named test items
  named_here name named passes =
      sym named ∙ sym (ap (λ (b : Bool). if b then pair.1 else first_named test (drop (i + 1) items)) passes)
      ∙ sym (ap (first_named test) (next_drop items i pair below at)) ∙ before

  pub named_later : test pair ≡ false → first_named test (drop (i + 1) items) ≡ first_named test items
  named_later fails =
      sym (ap (λ (b : Bool). if b then pair.1 else first_named test (drop (i + 1) items)) fails)
      ∙ sym (ap (first_named test) (next_drop items i pair below at)) ∙ before

pub named_nowhere : (test : PathData × Option PathData → Bool) (items : List (PathData × Option PathData)) (i : ℕ) → length items ≤ i → first_named test (drop i items) ≡ first_named test items → None ≡ first_named test items
named_nowhere test items i past before = sym (ap (first_named test) (drop_all i items past)) ∙ before

module _ (P : Program) (rel : ℕ → List PathData) (A : Assignment) (overs : List ℕ) (m : ℕ) (receiver : Option PathData) (args : List (Option PathData)) (H : Held) where
  -- whether with this name held the call can be moved, and the callee, begun with this set, takes only this lock
  abbrev pub is_named : Held → PathData × Option PathData → Bool
  is_named K pair = is_freed P rel A m receiver args H pair.1 && takes_only P rel A overs pair.0 m K

  -- a path without a name here isn't one
  pub nameless : (K : Held) (pair : PathData × Option PathData) → pair.1 ≡ None → is_named K pair ≡ false
  nameless K pair none = ap (λ o. is_freed P rel A m receiver args H o && takes_only P rel A overs pair.0 m K) none

  pub named : (K : Held) (pair : PathData × Option PathData) (name : PathData) (b : Bool) → pair.1 ≡ Some name
      → b ≡ (is_freed P rel A m receiver args H (Some name) && takes_only P rel A overs pair.0 m K) → is_named K pair ≡ b
  named K pair name b some is = ap (λ o. is_freed P rel A m receiver args H o && takes_only P rel A overs pair.0 m K) some ∙ sym is

  pub all_named : (K : Held) (qs : List PathData) → K ≡ held_under (rel m) receiver args H
      → first_named (is_named K) (map (λ q. (q, under_call receiver args q)) qs) ≡ first_taken P rel A overs m receiver args H qs
  all_named K [] same = refl
  all_named K (q ∷ qs) same = λ i. if is_freed P rel A m receiver args H (under_call receiver args q) && takes_only P rel A overs q m (same i) then under_call receiver args q else all_named K qs same i
