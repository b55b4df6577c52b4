-- What is kept of calls stays right when more is kept.
use Rattle.std.proofs.Common.{◌≡◌, ◌==◌, cond, ℕ, Bool, true, false, Option, Some, refl, sym, ◌∙◌, subst, eqb-true}
use Rattle.std.specs.Cmp.{first_so, second_so}
use Rattle.std.specs.Map.{lookup}
use Rattle.std.specs.Prelude.{Result, Ok, Err, OnOk, OnErr}
use Rattle.indexmap.specs.IndexMap.{IndexMap, Updates, IsUnchanged}
use Rattle.core_program.specs.Core.{Program}
use Rattle.core_program.specs.Dispatch.{target_of}
use Rattle.machine.specs.Targets.{same_asked, AreFound}

module _ {S : Type 0} (P : Program) (old new : IndexMap (ℕ × ℕ) ℕ S) (class method runs : ℕ) where
  found_by : AreFound P old.entries → target_of P class method ≡ Some runs → (c m r : ℕ) (same : Bool) → same_asked (class, method) (c, m) ≡ same
      → cond same (Some runs) (lookup (same_asked (c, m)) old.entries) ≡ Some r → target_of P c m ≡ Some r
  found_by are is c m r true told kept =
      let first = eqb-true class c (first_so (class == c) (method == m) told) in
      let second = eqb-true method m (second_so (class == c) (method == m) told) in
      sym (λ j. target_of P (first j) (second j)) ∙ is ∙ kept
  found_by are is c m r false told kept = are c m r kept

  -- what is put beside the others is what was found, and without memory they stay as they are
  pub found_more : {E : Type 0} (put : Result (Option ℕ) E) → OnOk put (Updates same_asked old new (class, method) (Some runs)) → OnErr put (IsUnchanged old new)
      → AreFound P old.entries → target_of P class method ≡ Some runs → AreFound P new.entries
  found_more (Ok before) updates kept are is c m r told = found_by are is c m r (same_asked (class, method) (c, m)) refl (sym (updates.0 (c, m)) ∙ told)
  found_more (Err refused) updates kept are is c m r told = are c m r (subst (λ es. lookup (same_asked (c, m)) es ≡ Some r) kept told)
