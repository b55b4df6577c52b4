-- What the entries of a map hold at numbers.
use Rattle.std.proofs.Common.{◌≡◌, ℕ, Bool, true, false, ◌==◌, List, [], ◌∷◌, Some, if◌then◌else◌, Vec, ap, sym, ◌∙◌, refl, subst}
use Rattle.std.specs.declared.alloc.Global.{Global}
use Rattle.std.specs.Str.{bytes_eq}
use Rattle.std.specs.Map.{lookup}
use Rattle.std.proofs.lemmas.Bool.{eqb-true}
use Rattle.std.proofs.lemmas.Slice.Eq.{bytes_eq-Decides}
use Rattle.indexmap.specs.IndexMap.{insert_entry}
use Rattle.logs.specs.Numbers.{number_of_word}
use Rattle.logs.specs.Tables.{at_number, values_with}
use Rattle.logs.proofs.Numbered.{same_other, number-inj}

module _ {X : Type 0} where
  twice : (x y z : X) (t : Bool) → (if t then x else z) ≡ (if t then x else (if t then y else z))
  twice x y z true = refl
  twice x y z false = refl

  swapped : (x y z : X) (s t : Bool) → (s ≡ true → t ≡ true → ⊥) → (if s then x else (if t then y else z)) ≡ (if t then y else (if s then x else z))
  swapped x y z true true apart = absurd (apart refl refl)
  swapped x y z true false apart = refl
  swapped x y z false true apart = refl
  swapped x y z false false apart = refl

-- different words don't both have one number
apart_at : (k w : List ℕ) (n : ℕ) → bytes_eq k w ≡ false → (number_of_word w == n) ≡ true → (number_of_word k == n) ≡ true → ⊥
apart_at k w n is s t =
    let same : number_of_word k ≡ number_of_word w = eqb-true (number_of_word k) n t ∙ sym (eqb-true (number_of_word w) n s) in
    let yes = (bytes_eq-Decides k w).1 (number-inj k w same) in
    let both : true ≡ false = sym yes ∙ is in cc

module _ {V : Type 0} where
  -- what is found by bytes stands at their number
  pub found_by : (bs : List ℕ) (es : List (Vec ℕ Global × V)) → lookup (λ k. bytes_eq bs k.items) es ≡ at_number es (number_of_word bs)
  found_by bs [] = refl
  found_by bs (e ∷ es) = let rest = found_by bs es in let same = same_other bs e.0.items in
      ap (λ r. if bytes_eq bs e.0.items then Some e.1 else r) rest ∙ sym (ap (λ b. if b then Some e.1 else at_number es (number_of_word bs)) same)

  -- the value at a number after a word has one
  pub after_insert : (es : List (Vec ℕ Global × V)) (k : Vec ℕ Global) (v : V) (n : ℕ)
      → at_number (insert_entry (λ x y. bytes_eq x.items y.items) es k v) n ≡ values_with (number_of_word k.items) v (at_number es) n
  after_insert [] k v n = refl
  after_insert (e ∷ es) k v n =
      elim (bytes_eq k.items e.0.items) as (λ b. bytes_eq k.items e.0.items ≡ b
      → at_number (if b then (e.0, v) ∷ es else e ∷ insert_entry (λ x y. bytes_eq x.items y.items) es k v) n ≡ values_with (number_of_word k.items) v (at_number (e ∷ es)) n) [
        | true ↦ λ is. let same : number_of_word k.items ≡ number_of_word e.0.items = ap number_of_word ((bytes_eq-Decides k.items e.0.items).0 is) in
            subst (λ m. (if number_of_word e.0.items == n then Some v else at_number es n) ≡ (if m == n then Some v else at_number (e ∷ es) n)) (sym same)
            (twice (Some v) (Some e.1) (at_number es n) (number_of_word e.0.items == n))
        | false ↦ λ is. let rest = after_insert es k v n in
            ap (λ r. if number_of_word e.0.items == n then Some e.1 else r) rest
            ∙ swapped (Some e.1) (Some v) (at_number es n) (number_of_word e.0.items == n) (number_of_word k.items == n) (apart_at k.items e.0.items n is)
      ] refl
