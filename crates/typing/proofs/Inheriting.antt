-- What a class has from above, from what the class above it has.
use Rattle.std.proofs.Common.{◌≡◌, ◌<◌, ◌+◌, ◌-◌, ℕ, suc, List, [], ◌∷◌, ◌++◌, length, map, Option, Some, None, refl, sym, ap, ap₂, ◌∙◌, arith, slice_get, option_map, option_and_then}
use Rattle.std.specs.Prelude.{codes}
use Rattle.std.specs.List.{range_with_len}
use Rattle.std.specs.Option.{option_or}
use Rattle.std.proofs.lemmas.List.{append_assoc, length-map}
use Rattle.std.proofs.lemmas.Option.{same_Some, slice_get-map}
use Rattle.core_program.specs.Pairs.{KeptClass}
use Rattle.classes.specs.Table.{TableData, ClassData, above_in_table, own_method, method_number}
use Rattle.classes.proofs.Parts.{mapped_at}
use Rattle.typing.specs.declared.lineage.Lineage.{Lineage}
use Rattle.typing.specs.Classes.{own_field_numbers, inherited_count}
use Rattle.typing.specs.Kept.{class_part, part_of_number, all_parts}
use Rattle.typing.specs.Lineages.{lineage_of}
use Rattle.typing.specs.Merged.{class_over}
use Rattle.typing.specs.Order.{IsLined}
use Rattle.typing.proofs.Filling.{same_lists}
use Rattle.typing.proofs.Lined.{count_on, count_top, named_on, named_top, class_on, class_top, part_there, parts_many}

module _ (t : TableData) (lined : IsLined t) where
  pub lineage_top : (k : ℕ) (l : Lineage) → above_in_table t k ≡ None → l.inherited ≡ 0 → l.run ≡ own_method t (codes "run") k → l ≡ lineage_of t k
  lineage_top k l none count run =
      let one : l.inherited ≡ inherited_count t k = count ∙ sym (count_top t lined k none) in
      let two : l.run ≡ method_number t k (codes "run") = run ∙ sym (named_top t lined (codes "run") k none) in
      λ i. record { inherited = one i; run = two i }

  pub lineage_on : (k d : ℕ) (l : Lineage) (from : Lineage) → above_in_table t k ≡ Some d → from ≡ lineage_of t d → l.inherited ≡ from.inherited + length (own_field_numbers (slice_get t.classes d))
      → l.run ≡ option_or (own_method t (codes "run") k) from.run → l ≡ lineage_of t k
  lineage_on k d l from above known count run =
      let one : l.inherited ≡ inherited_count t k =
      count ∙ ap (λ (z : Lineage). z.inherited + length (own_field_numbers (slice_get t.classes d))) known ∙ sym (count_on t lined k d above) in
      let two : l.run ≡ method_number t k (codes "run") =
      run ∙ ap (λ (z : Lineage). option_or (own_method t (codes "run") k) z.run) known ∙ sym (named_on t lined (codes "run") k d above) in
      λ i. record { inherited = one i; run = two i }

  -- what is kept of a class over the one above it is that of its number
  pub class_made_on : (k d : ℕ) (c : ClassData) (made above : KeptClass) (run : Option ℕ) → slice_get t.classes k ≡ Some c → above_in_table t k ≡ Some d
      → Some above ≡ part_of_number t d → run ≡ method_number t k (codes "run") → made ≡ class_over t c run above.fields → Some made ≡ part_of_number t k
  class_made_on k d c made above run at is known run_is made_is = by_class (slice_get t.classes d) refl known
    where
      by_class : (o : Option ClassData) → slice_get t.classes d ≡ o → Some above ≡ option_map (class_part t d) o → Some made ≡ part_of_number t k
      by_class None none h = absurd (let e : None ≡ Some above = sym h in cc)
      by_class (Some e) there h =
          let same : above ≡ class_part t d e = same_Some above (class_part t d e) h in
          ap Some (made_is ∙ ap₂ (λ r (x : KeptClass). class_over t c r x.fields) run_is same ∙ class_on t lined k d c at is) ∙ ap (option_map (class_part t k)) (sym at)

  pub class_made_top : (k : ℕ) (c : ClassData) (made : KeptClass) (run : Option ℕ) → slice_get t.classes k ≡ Some c → above_in_table t k ≡ None
      → run ≡ method_number t k (codes "run") → made ≡ class_over t c run [] → Some made ≡ part_of_number t k
  class_made_top k c made run at none run_is made_is =
      ap Some (made_is ∙ ap (λ r. class_over t c r []) run_is ∙ class_top t lined k c at none) ∙ ap (option_map (class_part t k)) (sym at)

-- an entry at its number, as plain data
pub entry_at : {A : Type 0} (seen : A → ClassData) (t : TableData) (entries : List A) (k : ℕ) (entry : A) → map seen entries ≡ t.classes → slice_get entries k ≡ Some entry → slice_get t.classes k ≡ Some (seen entry)
entry_at seen t entries k entry are at = ap (λ z. slice_get z k) (sym are) ∙ mapped_at seen entries k entry at

pub entry_above : (t : TableData) (k : ℕ) (c : ClassData) → slice_get t.classes k ≡ Some c → above_in_table t k ≡ c.above
entry_above t k c at = ap (option_and_then (λ x. x.above)) at

-- what is kept of all classes, where that of each stands at its number
pub all_made : {X : Type 0} (view : X → KeptClass) (t : TableData) (made : List X) → length made ≡ length t.classes
    → ((c : ℕ) → c < length t.classes → option_map view (slice_get made c) ≡ part_of_number t c) → map view made ≡ all_parts t 0 t.classes
all_made view t made long h =
    same_lists (map view made) (all_parts t 0 t.classes) (length-map made view ∙ long ∙ sym (parts_many t))
    (λ i low. slice_get-map view made i ∙ h i (let many = parts_many t in omega (arith, low, many)) ∙ sym (part_there t i))

-- ---- numbers that are added one after the other

-- one number of a range was added
pub own_step : (items more whole : List ℕ) (next after count done : ℕ) → items ++ range_with_len next (count - done) ≡ whole → done < count → more ≡ items ++ next ∷ [] → after ≡ next + 1
    → more ++ range_with_len after (count - (done + 1)) ≡ whole
own_step items more whole next after count done so within is counted =
    let left : count - done ≡ suc (count - (done + 1)) = omega (arith, within) in
    ap₂ (λ xs n. xs ++ range_with_len n (count - (done + 1))) is counted
    ∙ append_assoc items (next ∷ []) (range_with_len (next + 1) (count - (done + 1)))
    ∙ ap (λ n. items ++ range_with_len next n) (sym left)
    ∙ so
