-- Nobody is inside a block where no word's thread is.
use Rattle.std.proofs.Common.{◌≡◌, ℕ, suc, true, false, ◌==◌, List, [], ◌∷◌, slice_get, Some, None, if◌then◌else◌, Vec, ap, sym, ◌∙◌, refl, ◌<◌, length}
use Rattle.std.specs.declared.alloc.Global.{Global}
use Rattle.std.proofs.lemmas.Bool.{eqb-true}
use Rattle.std.proofs.lemmas.Option.{none-some, slice_get_within}
use Rattle.logs.specs.declared.judge.Phase.{Phase}
use Rattle.logs.specs.State.{depth_of}
use Rattle.logs.specs.Numbers.{number_of_word}
use Rattle.logs.specs.Tables.{at_number}

module _ {V : Type 0} where
  -- what is found stands at the word of an entry
  pub record Stands (es : List (Vec ℕ Global × V)) (n : ℕ) : Type 0 where
    pub place : ℕ
    pub entry : Vec ℕ Global × V
    pub is : slice_get es place ≡ Some entry
    pub number : number_of_word entry.0.items ≡ n

  pub stands : (es : List (Vec ℕ Global × V)) (n : ℕ) (v : V) → at_number es n ≡ Some v → Stands es n
  stands [] n v = λ found. absurd (none-some v found)
  stands (e ∷ es) n v = elim (number_of_word e.0.items == n) as (λ b. (number_of_word e.0.items == n) ≡ b → (if b then Some e.1 else at_number es n) ≡ Some v → Stands (e ∷ es) n) [
    | true ↦ λ same found. record { place = 0; entry = e; is = refl; number = eqb-true (number_of_word e.0.items) n same }
    | false ↦ λ other found. let rest = stands es n v found in record { place = suc rest.place; entry = rest.entry; is = rest.is; number = rest.number }
  ] refl

-- nobody is inside a block where the thread of no entry is
pub closed : (es : List (Vec ℕ Global × Phase)) → ((i : ℕ) (e : Vec ℕ Global × Phase) → i < length es → slice_get es i ≡ Some e → depth_of (at_number es (number_of_word e.0.items)) ≡ 0)
    → (t : ℕ) → depth_of (at_number es t) ≡ 0
closed es none t = elim (at_number es t) as (λ o. at_number es t ≡ o → depth_of o ≡ 0) [
  | None ↦ λ is. refl
  | Some v ↦ λ is.
      let at = stands es t v is in
      let out = none at.place at.entry (slice_get_within es at.place at.entry at.is) at.is in
      ap depth_of (sym is ∙ ap (at_number es) (sym at.number)) ∙ out
] refl
