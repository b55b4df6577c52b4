-- What is in step has the same numbers.
use Rattle.std.proofs.Common.{◌≡◌, ℕ, zero, suc, List, ◌++◌, length, Option, Some, slice_get, refl, ap, subst}
use Rattle.std.proofs.lemmas.Option.{same_Some, none-some}
use Rattle.core_program.specs.declared.types.CoreType.{CoreType}
use Rattle.effects.specs.Parts.{Part}
use Rattle.classes.specs.Table.{TableData}
use Rattle.typing.specs.Scopes.{Scope}
use Rattle.places.specs.Sources.{Source}
use Rattle.places.specs.Making.{IsMadeFrom, AreMade, end, more, IsMadeAt}

module _ (t : TableData) (class : ℕ) (returns : Option CoreType) (first : ℕ) (Within : Scope → Type 0) where
  pub made_both : {xs ys : List Part} {us vs : List Source} → AreMade t class returns first Within xs us → AreMade t class returns first Within ys vs
      → AreMade t class returns first Within (xs ++ ys) (us ++ vs)
  made_both end more_made = more_made
  made_both (more x u xs us is rest) more_made = more x u _ _ is (made_both rest more_made)

  pub made_count : {xs : List Part} {us : List Source} → AreMade t class returns first Within xs us → length xs ≡ length us
  made_count end = refl
  made_count (more x u xs us is rest) = ap suc (made_count rest)

  pub made_at : {xs : List Part} {us : List Source} → AreMade t class returns first Within xs us → (k : ℕ) (x : Part) → slice_get xs k ≡ Some x
      → IsMadeAt t class returns first Within us k x
  made_at end k x is = absurd (none-some x is)
  made_at (more y u xs us made rest) zero x is =
      record { source = u; is = refl; made = subst (λ z. IsMadeFrom t class returns first Within z u) (same_Some y x is) made }
  made_at (more y u xs us made rest) (suc k) x is = let its = made_at rest k x is in record { source = its.source; is = its.is; made = its.made }
