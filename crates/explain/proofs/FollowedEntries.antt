-- What follows behind explanations, each of which may lead to compound methods: they aren't told before, and none that is led to is left out.
use Rattle.std.proofs.Common.{◌≡◌, ℕ, ◌≤◌, Bool, true, List, [], ◌∷◌, ◌++◌, length, slice_get, Some, Contains, ap, ◌∙◌, arith, inl, inr}
use Rattle.std.specs.List.{AllByRecursion}
use Rattle.std.proofs.lemmas.List.Elements.{Contains-append_left, Contains-append_right, Contains-append_cases}
use Rattle.base.proofs.Lists.{contains_cases}
use Rattle.paths.specs.Paths.{PathData}
use Rattle.core_program.specs.Core.{Program, Method}
use Rattle.rules.specs.Effect.{Assignment}
use Rattle.explain.specs.declared.grounds.Ground.{Ground}
use Rattle.explain.specs.Programs.{compound, explained_methods, keeps, led, led_to, marked}
use Rattle.explain.specs.Strict.{entries_behind}
use Rattle.explain.specs.Whys.{ExplainedData}
use Rattle.explain.proofs.Telling.{among_told, contains_none, IsComplete, IsTold, led_complete, led_told}
use Rattle.explain.proofs.Untold.{all_append, left, left_marked, untold, were_untold}

module _ (P : Program) (rel : ℕ → List PathData) (A : Assignment) (overs : ℕ → List ℕ) (grounds : List Ground) where
  told_earlier : (told new : List Bool) → ((k : ℕ) → untold new k ≡ true → untold told k ≡ true) → (xs : List ExplainedData)
      → AllByRecursion (IsTold P rel A overs grounds new) xs → AllByRecursion (IsTold P rel A overs grounds told) xs
  told_earlier told new before [] h = tt
  told_earlier told new before (x ∷ xs) h =
      (record { method = h.0.method; there = h.0.there; new = before x.method h.0.new; kept = h.0.kept; is = h.0.is }, told_earlier told new before xs h.1)

  pub behind_told : (xs : List ExplainedData) (told : List Bool) → AllByRecursion (IsTold P rel A overs grounds told) (entries_behind P rel A overs grounds told xs)
  behind_told [] told = tt
  behind_told (x ∷ xs) told =
      let more = led P rel A overs grounds (length P.methods) told (led_to x.why) in
      let now = marked told (explained_methods more) in
      all_append (IsTold P rel A overs grounds told) more (entries_behind P rel A overs grounds now xs) (led_told P rel A overs grounds (length P.methods) told (led_to x.why))
      (told_earlier told now (were_untold (explained_methods more) told) (entries_behind P rel A overs grounds now xs) (behind_told xs now))

  -- none to which one of these leads is left out of what follows, and none to which one of those leads
  pub record AreFollowed (told : List Bool) (xs ys : List ExplainedData) : Type 0 where
    pub first : (x : ExplainedData) → Contains xs x → (k : ℕ) (method : Method) → led_to x.why ≡ Some k → slice_get P.methods k ≡ Some method → untold told k ≡ true → keeps A k method ≡ true
        → Contains ys (compound P rel A overs grounds k method)
    pub later : IsComplete P rel A overs grounds told ys

  pub behind_complete : (xs : List ExplainedData) (told : List Bool) → left told ≤ length P.methods → AreFollowed told xs (entries_behind P rel A overs grounds told xs)
  behind_complete [] told few = record {
    first = λ x c k method leads there new kept. contains_none P rel A overs grounds x c;
    later = λ x c k method leads there new kept. contains_none P rel A overs grounds x c;
  }
  behind_complete (y ∷ xs) told few =
      let more = led P rel A overs grounds (length P.methods) told (led_to y.why) in
      let now = marked told (explained_methods more) in
      let rest = entries_behind P rel A overs grounds now xs in
      let fewer = left_marked (explained_methods more) told in
      let one = led_complete P rel A overs grounds (length P.methods) told (led_to y.why) few in
      let others = behind_complete xs now (omega (arith, few, fewer)) in
      let either = among_told P rel A overs grounds told more (led_told P rel A overs grounds (length P.methods) told (led_to y.why)) told in
      record {
        first = λ x c k method leads there new kept. let goal = compound P rel A overs grounds k method in elim (contains_cases y x xs c) as (λ _. Contains (more ++ rest) goal) [
          | inl is ↦ Contains-append_left more rest goal (one.first k method (ap (λ (z : ExplainedData). led_to z.why) is ∙ leads) there new kept)
          | inr c2 ↦ elim (either k method there new) as (λ _. Contains (more ++ rest) goal) [
            | inl c3 ↦ Contains-append_left more rest goal c3
            | inr still ↦ Contains-append_right more rest goal (others.first x c2 k method leads there still kept)
          ]
        ];
        later = λ x c k method leads there new kept. let goal = compound P rel A overs grounds k method in elim (Contains-append_cases more rest x c) as (λ _. Contains (more ++ rest) goal) [
          | inl c2 ↦ Contains-append_left more rest goal (one.later x c2 k method leads there new kept)
          | inr c2 ↦ elim (either k method there new) as (λ _. Contains (more ++ rest) goal) [
            | inl c3 ↦ Contains-append_left more rest goal c3
            | inr still ↦ Contains-append_right more rest goal (others.later x c2 k method leads there still kept)
          ]
        ];
      }
