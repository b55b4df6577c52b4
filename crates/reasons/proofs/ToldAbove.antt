-- Each method that is told is more than it may be.
use Rattle.std.proofs.Common.{◌≡◌, ℕ, zero, suc, Bool, true, false, not, ◌||◌, List, [], ◌∷◌, Some, None, slice_get, slice_set, length, refl, sym, ap, ◌∙◌, if◌then◌else◌}
use Rattle.std.specs.Prelude.{Option, Contains, unwrap_or, replicate}
use Rattle.std.specs.List.{AllByRecursion}
use Rattle.paths.specs.Paths.{PathData}
use Rattle.algebra.specs.declared.basic.Basic.TheVariants.{Atomic}
use Rattle.algebra.specs.Basics.{below_of}
use Rattle.core_program.specs.Core.{Program, Method}
use Rattle.core_program.specs.Typed.{IsTyped}
use Rattle.infer.specs.Least.{IsLeast}
use Rattle.rules.specs.Effect.{Assignment}
use Rattle.rules.specs.Near.{AreRelevant, MethodPaths, rel_of}
use Rattle.rules.specs.Overriding.{AreOverriders}
use Rattle.rules.specs.Rules.{declared_bound}
use Rattle.rules.specs.Search.{row_at}
use Rattle.explain.specs.declared.grounds.Ground.{Ground}
use Rattle.explain.specs.declared.names.Alias.{Alias}
use Rattle.explain.specs.declared.ranking.Bounds.TheVariants.{Declared}
use Rattle.explain.specs.Causes.{cause_of}
use Rattle.explain.specs.Grounds.{level_at, why_by}
use Rattle.explain.specs.Leads.{AreGrounded, IsReasonChain, IsMoreThanLimit, IsReasonBy, limit_for}
use Rattle.explain.specs.Programs.{compound, explanations, explanations_from, found_of, if_untold, keeps, led, led_to, refused}
use Rattle.explain.specs.Visits.{Visit}
use Rattle.explain.specs.Whys.{ExplainedData, Wrong}
use Rattle.explain.proofs.Untold.{all_append}
use Rattle.explain.proofs.Telling.{all_contains, all_explained, all_from, IsRest, rest_first, rest_next, whole}
use Rattle.reasons.specs.Causing.{IsCause}
use Rattle.reasons.proofs.Chains.{IsToldMore, no_chain, told_above, told_cause, told_reason}
use Rattle.reasons.proofs.Known.{ground_above}

module _ (P : Program) (A : Assignment) (m : ℕ) (method : Method) (there : slice_get P.methods m ≡ Some method) where
  -- the limit of a method that keeps its bound, and of one that breaks it
  limit_kept : keeps A m method ≡ true → limit_for Declared P A m method ≡ Atomic
  limit_kept kept = ap (λ t. if t then Atomic else declared_bound method.annotated) kept

  limit_broken : keeps A m method ≡ false → limit_for Declared P A m method ≡ declared_bound method.annotated
  limit_broken broken = ap (λ t. if t then Atomic else declared_bound method.annotated) broken

  more_kept : keeps A m method ≡ true → below_of (found_of A m method) Atomic ≡ false → IsMoreThanLimit Declared P A m method
  more_kept kept above = record { there = there; above = ap (below_of (found_of A m method)) (limit_kept kept) ∙ above }

  more_broken : keeps A m method ≡ false → IsMoreThanLimit Declared P A m method
  more_broken broken = record { there = there; above = ap (below_of (found_of A m method)) (limit_broken broken) ∙ broken }

module _ (P : Program) (sets : List MethodPaths) (A : Assignment) (rows : List (List ℕ)) (typed : IsTyped P) (relevant : AreRelevant P sets) (least : IsLeast P (rel_of sets) A) (are : AreOverriders P rows)
    (grounds : List Ground) (grounded : AreGrounded Declared P (rel_of sets) A (row_at rows) grounds) where
  abbrev rel : ℕ → List PathData
  rel = rel_of sets

  abbrev overs : ℕ → List ℕ
  overs = row_at rows

  abbrev Above : ExplainedData → Type 0
  Above x = below_of x.found x.limit ≡ false

  abbrev IsAboveAtomic : ℕ → Type 0
  IsAboveAtomic k = (other : Method) → slice_get P.methods k ≡ Some other → below_of (found_of A k other) Atomic ≡ false

  -- the method to which an explanation leads, of one that keeps its bound and of one that breaks it
  led_kept : (m : ℕ) (method : Method) → slice_get P.methods m ≡ Some method → keeps A m method ≡ true → below_of (found_of A m method) Atomic ≡ false
      → (k : ℕ) → led_to (compound P rel A overs grounds m method).why ≡ Some k → IsAboveAtomic k
  led_kept m method there kept above k e other at =
      ground_above P sets A rows typed relevant least are Declared grounds grounded m method (more_kept P A m method there kept above) k other
      (ap (λ l. led_to (why_by P rel A overs grounds m method l)) (limit_kept P A m method there kept) ∙ e) at

  led_broken : (m : ℕ) (method : Method) → slice_get P.methods m ≡ Some method → keeps A m method ≡ false → (k : ℕ) → led_to (refused P rel A overs grounds m method).why ≡ Some k → IsAboveAtomic k
  led_broken m method there broken k e other at =
      ground_above P sets A rows typed relevant least are Declared grounds grounded m method (more_broken P A m method there broken) k other
      (ap (λ l. led_to (why_by P rel A overs grounds m method l)) (limit_broken P A m method there broken) ∙ e) at

  one_above : (told : List Bool) (m : ℕ) (rest : Method → List ExplainedData) → IsAboveAtomic m
      → ((method : Method) → slice_get P.methods m ≡ Some method → keeps A m method ≡ true → AllByRecursion Above (rest method))
      → (o : Option Method) → slice_get P.methods m ≡ o → AllByRecursion Above (if_untold A told m o (λ method. compound P rel A overs grounds m method ∷ rest method))
  one_above told m rest above later None is = tt
  one_above told m rest above later (Some method) is = by (unwrap_or (slice_get told m) true) (keeps A m method) refl
    where
      by : (t k : Bool) → keeps A m method ≡ k → AllByRecursion Above (if t || not k then [] else compound P rel A overs grounds m method ∷ rest method)
      by true k kept = tt
      by false false kept = tt
      by false true kept = (above method is, later method is kept)

  led_above : (fuel : ℕ) (told : List Bool) (next : Option ℕ) → ((k : ℕ) → next ≡ Some k → IsAboveAtomic k) → AllByRecursion Above (led P rel A overs grounds fuel told next)
  led_above zero told next above = tt
  led_above (suc fuel) told None above = tt
  led_above (suc fuel) told (Some m) above =
      one_above told m (λ method. led P rel A overs grounds fuel (slice_set told m true) (led_to (compound P rel A overs grounds m method).why)) (above m refl)
      (λ method there kept. led_above fuel (slice_set told m true) (led_to (compound P rel A overs grounds m method).why) (led_kept m method there kept (above m refl method there)))
      (slice_get P.methods m) refl

  above_from : (methods : List Method) (told : List Bool) (m : ℕ) → IsRest P rel A overs grounds m methods → AllByRecursion Above (explanations_from P rel A overs grounds told m methods)
  above_from = all_from P rel A overs grounds (λ told m methods xs. IsRest P rel A overs grounds m methods → AllByRecursion Above xs) (λ told m r. tt)
      (λ told m method methods xs kept h r. h (rest_next P rel A overs grounds m method methods r))
      (λ told m method methods xs broken h r. (
        broken,
        all_append Above (led P rel A overs grounds (length P.methods) told (led_to (refused P rel A overs grounds m method).why)) xs
            (led_above (length P.methods) told (led_to (refused P rel A overs grounds m method).why)
            (led_broken m method (rest_first P rel A overs grounds m method methods r) broken))
            (h (rest_next P rel A overs grounds m method methods r)),
      ))

  -- each explanation is told of a method that is more than it may be
  all_told : (x : ExplainedData) → Contains (explanations P rel A overs grounds) x → IsToldMore Declared P rel A overs grounds x
  all_told x c =
      let found = all_explained P rel A overs grounds x c in
      by (keeps A x.method found.method) refl found.is (all_contains P rel A overs grounds Above (explanations P rel A overs grounds) x (above_from P.methods (replicate (length P.methods) false) 0 (whole P rel A overs grounds)) c)
    where
      its : Method
      its = (all_explained P rel A overs grounds x c).method

      there : slice_get P.methods x.method ≡ Some its
      there = (all_explained P rel A overs grounds x c).there

      by : (b : Bool) → keeps A x.method its ≡ b → x ≡ (if b then compound P rel A overs grounds x.method its else refused P rel A overs grounds x.method its) → Above x → IsToldMore Declared P rel A overs grounds x
      by true kept is above =
          let limit = limit_kept P A x.method its there kept in
          record {
            method = its;
            more = more_kept P A x.method its there kept (sym (ap (λ (y : ExplainedData). below_of y.found y.limit) is) ∙ above);
            limit_is = ap (λ (y : ExplainedData). y.limit) is ∙ sym limit;
            found_is = ap (λ (y : ExplainedData). y.found) is;
            why_is = ap (λ (y : ExplainedData). y.why) is ∙ ap (why_by P rel A overs grounds x.method its) (sym limit);
          }
      by false broken is above =
          let limit = limit_broken P A x.method its there broken in
          record {
            method = its;
            more = more_broken P A x.method its there broken;
            limit_is = ap (λ (y : ExplainedData). y.limit) is ∙ sym limit;
            found_is = ap (λ (y : ExplainedData). y.found) is;
            why_is = ap (λ (y : ExplainedData). y.why) is ∙ ap (why_by P rel A overs grounds x.method its) (sym limit);
          }

  pub all_above : (x : ExplainedData) → Contains (explanations P rel A overs grounds) x → below_of x.found x.limit ≡ false
  all_above x c = told_above P sets A rows typed relevant least are Declared grounds grounded x (all_told x c)

  pub all_reasons : (x : ExplainedData) → Contains (explanations P rel A overs grounds) x → (method : Method) → slice_get P.methods x.method ≡ Some method
      → IsReasonBy P rel A (overs x.method) method (level_at grounds x.method) x.limit x.why
  all_reasons x c method there = told_reason P sets A rows typed relevant least are Declared grounds grounded x (all_told x c) method there

  pub all_causes : (x : ExplainedData) → Contains (explanations P rel A overs grounds) x → (v : Visit) → x.why ≡ Wrong v → (aliases : List Alias) → IsCause P rel A v.held v.part (cause_of P rel aliases v.held v.part)
  all_causes x c v why aliases = told_cause P sets A rows typed relevant least are Declared grounds grounded x (all_told x c) v why aliases

  pub all_end : (x : ExplainedData) → IsReasonChain P rel (explanations P rel A overs grounds) x x → ⊥
  all_end = no_chain P sets A rows typed relevant least are Declared grounds grounded (explanations P rel A overs grounds) all_told
