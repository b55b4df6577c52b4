-- The pairs of a class of a table without circles are as a typed core program has them.
use Rattle.std.proofs.Common.{◌≡◌, ◌<◌, ◌+◌, ◌==◌, ◌||◌, inl, inr, ℕ, zero, suc, Bool, true, false, List, [], ◌∷◌, ◌++◌, length, map, Option, Some, None, refl, sym, ap, subst, ◌∙◌, arith, slice_get, position, bytes_eq, option_map, option_and_then, unwrap_or}
use Rattle.std.specs.Prelude.{IsSome, All}
use Rattle.std.specs.Option.{option_or, is_some}
use Rattle.std.specs.List.{AllByRecursion}
use Rattle.std.proofs.lemmas.Bool.{eqb-true, eq-eqb}
use Rattle.std.proofs.lemmas.Option.{none-some, same_Some, slice_get_within, get_or_from_slice_get}
use Rattle.std.proofs.lemmas.List.{length-map}
use Rattle.std.proofs.lemmas.List.Quantifiers.{position-Some}
use Rattle.std.proofs.lemmas.Slice.Eq.{bytes_eq-Decides}
use Rattle.base.proofs.Lists.{at_either, get_below, get_right, at_left}
use Rattle.base.proofs.Options.{some_there, then_parts}
use Rattle.core_program.specs.Core.{Program, Method}
use Rattle.core_program.specs.Dispatch.{partner, targets_in, target_of, inherited_target, IsOwn}
use Rattle.core_program.specs.Typed.{IsTarget, own, overridden, inherited, AreTargets}
use Rattle.classes.specs.Table.{TableData, ClassData, MethodData, above_in_table, is_of_kind, number_of_own_method, own_method, method_number}
use Rattle.classes.proofs.Parts.{mapped_at, before_mapped}
use Rattle.typing.specs.Classes.{runner, targets_from, class_core, class_of_number, all_classes}
use Rattle.typing.specs.Order.{IsLined}
use Rattle.typing.proofs.Ancestry.{kind_itself, kind_up, kind_on, kind_top, found_there}
use Rattle.typing.proofs.Lined.{class_there, found_first, named_on}
use Rattle.typing.proofs.Pairs.{paired, stands, ascending_pairs, pairs_within}

pub each_of : {A : Type 0} (P : A → Type 0) (xs : List A) (i : ℕ) (x : A) → AllByRecursion P xs → slice_get xs i ≡ Some x → P x
each_of P [] i x h at = absurd (none-some x at)
each_of P (y ∷ ys) zero x h at = subst P (same_Some y x at) h.0
each_of P (y ∷ ys) (suc i) x h at = each_of P ys i x h.1 at

module _ (t : TableData) (lined : IsLined t) where
  abbrev up_in : ℕ → Option ℕ
  up_in = above_in_table t

  -- ---- methods by their names

  -- what is found by name among the own methods of a class is a method of the class with that name
  pub record IsNamed (name : List ℕ) (k n : ℕ) : Type 0 where
    pub method : MethodData
    pub is : slice_get t.methods n ≡ Some method
    pub class : method.class ≡ k
    pub same : method.name ≡ name

  pub own_named : (name : List ℕ) (k n : ℕ) → own_method t name k ≡ Some n → IsNamed name k n
  own_named name k n h =
      let c = then_parts (number_of_own_method name) (slice_get t.classes k) n h in
      by_place c.0 c.1 (position (bytes_eq name) c.0.method_names) refl c.2
    where
      by_place : (c : ClassData) → slice_get t.classes k ≡ Some c → (o : Option ℕ) → position (bytes_eq name) c.method_names ≡ o → option_map (λ i. c.first_method + i) o ≡ Some n → IsNamed name k n
      by_place c at None found h = absurd (none-some n h)
      by_place c at (Some i) found h =
          let part = lined.methods k c at in
          let within : i < length c.method_names = (position-Some (bytes_eq name) c.method_names i name found).0 in
          let m = get_below part.own i (omega (arith, within, ap length part.names, length-map part.own (λ m. m.name))) in
          let name_at : slice_get c.method_names i ≡ Some m.0.name = ap (λ z. slice_get z i) (sym part.names) ∙ mapped_at (λ m. m.name) part.own i m.0 m.1 in
          let facts = position-Some (bytes_eq name) c.method_names i m.0.name found in
          let number : n ≡ length part.before + i = omega (arith, same_Some (c.first_method + i) n h, part.first) in
          record {
            method = m.0;
            is = ap (slice_get t.methods) number ∙ ap (λ z. slice_get z (length part.before + i)) part.whole ∙ get_right part.before (part.own ++ part.after) i ∙ at_left part.own part.after i m.0 m.1;
            class = each_of (λ m. m.class ≡ k) part.own i m.0 part.mine m.1;
            same = sym ((bytes_eq-Decides name m.0.name).0 (ap (bytes_eq name) (sym (get_or_from_slice_get c.method_names i m.0.name m.0.name name_at)) ∙ facts.1));
          }

  -- a method is the one of its name in its class
  pub named_itself : (n : ℕ) (m : MethodData) → slice_get t.methods n ≡ Some m → own_method t m.name m.class ≡ Some n
  named_itself n m at =
      let low = lined.owned n m at in
      let c = get_below t.classes m.class low in
      let part = lined.methods m.class c.0 c.1 in
      ap (option_and_then (number_of_own_method m.name)) c.1
      ∙ elim (at_either part.before (part.own ++ part.after) n m (ap (λ z. slice_get z n) (sym part.whole) ∙ at)) as (λ _. number_of_own_method m.name c.0 ≡ Some n) [
        | inl early ↦ absurd (other m.class (each_of (λ x. (m.class == x.class) ≡ false) part.before n m part.others_before early))
        | inr later ↦ elim (at_either part.own part.after later.0 m later.2) as (λ _. number_of_own_method m.name c.0 ≡ Some n) [
          | inl here ↦
              let number : c.0.first_method + later.0 ≡ n = omega (arith, part.first, later.1) in
              ap (option_map (λ i. c.0.first_method + i)) (part.once later.0 m here) ∙ ap Some number
          | inr late ↦ absurd (other m.class (each_of (λ x. (m.class == x.class) ≡ false) part.after late.0 m part.others_after late.2))
        ]
      ]
    where
      other : (k : ℕ) → (k == k) ≡ false → ⊥
      other k h = let e : true ≡ false = sym (eq-eqb k k refl) ∙ h in cc

  -- what is found along a line belongs to a class of it
  pub record IsFoundMethod (name : List ℕ) (k n : ℕ) : Type 0 where
    pub method : MethodData
    pub is : slice_get t.methods n ≡ Some method
    pub kind : is_of_kind t k method.class ≡ true
    pub same : method.name ≡ name

  pub line_named : (name : List ℕ) (k n : ℕ) → k < length t.classes → method_number t k name ≡ Some n → IsFoundMethod name k n
  line_named name k n low h =
      let f = found_there up_in (length t.classes) lined.below lined.apart (own_method t name) n k low h in
      let m = own_named name f.place n f.found in
      record { method = m.method; is = m.is; kind = ap (is_of_kind t k) m.class ∙ f.kind; same = m.same }

  -- ---- what runs

  -- the method that runs is there
  runner_low : (k n : ℕ) (m : MethodData) → k < length t.classes → slice_get t.methods n ≡ Some m → runner t k n m < length t.methods
  runner_low k n m low at = by_found (method_number t k m.name) refl
    where
      by_found : (o : Option ℕ) → method_number t k m.name ≡ o → unwrap_or o n < length t.methods
      by_found None none = slice_get_within t.methods n m at
      by_found (Some x) is = let f = line_named m.name k x low is in slice_get_within t.methods x f.method f.is

  -- an own method runs itself
  pub own_runs : (k n : ℕ) (m : MethodData) → k < length t.classes → slice_get t.methods n ≡ Some m → m.class ≡ k → runner t k n m ≡ n
  own_runs k n m low at mine =
      let c = get_below t.classes k low in
      let itself : own_method t m.name k ≡ Some n = ap (own_method t m.name) (sym mine) ∙ named_itself n m at in
      let here : number_of_own_method m.name c.0 ≡ Some n = sym (ap (option_and_then (number_of_own_method m.name)) c.1) ∙ itself in
      ap (λ o. unwrap_or o n) (found_first t lined k c.0 c.1 m.name n here)

  -- ---- the core program

  module _ (P : Program) (classes : P.classes ≡ all_classes t 0 t.classes) (methods : map (λ (m : Method). m.class) P.methods ≡ map (λ (m : MethodData). m.class) t.methods) where
    pub core_at : (k : ℕ) → slice_get P.classes k ≡ class_of_number t k
    core_at k = ap (λ z. slice_get z k) classes ∙ class_there t k

    pub methods_long : length P.methods ≡ length t.methods
    methods_long = sym (length-map P.methods (λ (m : Method). m.class)) ∙ ap length methods ∙ length-map t.methods (λ (m : MethodData). m.class)

    -- a method of the core has its entry, of the same class, and the other way round
    pub entry_of : (n : ℕ) (m : Method) → slice_get P.methods n ≡ Some m → (d : MethodData) × (slice_get t.methods n ≡ Some d) × (d.class ≡ m.class)
    entry_of n m at = before_mapped (λ (d : MethodData). d.class) t.methods n m.class (ap (λ z. slice_get z n) (sym methods) ∙ mapped_at (λ (m : Method). m.class) P.methods n m at)

    pub core_of_entry : (n : ℕ) (d : MethodData) → slice_get t.methods n ≡ Some d → (m : Method) × (slice_get P.methods n ≡ Some m) × (m.class ≡ d.class)
    core_of_entry n d at = before_mapped (λ (m : Method). m.class) P.methods n d.class (ap (λ z. slice_get z n) methods ∙ mapped_at (λ (d : MethodData). d.class) t.methods n d at)

    targets_at : (k : ℕ) → k < length t.classes → targets_in (slice_get P.classes k) ≡ targets_from t k 0 t.methods
    targets_at k low = let c = get_below t.classes k low in ap targets_in (core_at k ∙ ap (option_map (class_core t k)) c.1)

    -- a class pairs each method that it has with the one that runs for it
    pub target_is : (k n : ℕ) (d : MethodData) → k < length t.classes → slice_get t.methods n ≡ Some d → is_of_kind t k d.class ≡ true → target_of P k n ≡ Some (runner t k n d)
    target_is k n d low at kind = ap (λ z. partner z n) (targets_at k low) ∙ stands t k 0 t.methods n n d (omega arith) at kind

    -- and no others
    pub record IsPair (k n j : ℕ) : Type 0 where
      pub method : MethodData
      pub is : slice_get t.methods n ≡ Some method
      pub kind : is_of_kind t k method.class ≡ true
      pub runs : j ≡ runner t k n method

    pub pair_is : (k n j : ℕ) → k < length t.classes → target_of P k n ≡ Some j → IsPair k n j
    pair_is k n j low h =
        let p = paired t k 0 t.methods n j (sym (ap (λ z. partner z n) (targets_at k low)) ∙ h) in
        let same : p.place ≡ n = omega (arith, p.number) in
        record { method = p.method; is = ap (slice_get t.methods) (sym same) ∙ p.is; kind = p.kind; runs = p.runs }

    is_own : (k n : ℕ) (d : MethodData) → slice_get t.methods n ≡ Some d → d.class ≡ k → IsOwn P k n
    is_own k n d at mine = let m = core_of_entry n d at in (m.0, m.1, m.2 ∙ mine)

    none_there : IsSome {T = ℕ} None → ⊥
    none_there some = let e : false ≡ true = some in cc

    module _ (k : ℕ) (c : ClassData) (at : slice_get t.classes k ≡ Some c) (low : k < length t.classes) where
      above_is : above_in_table t k ≡ c.above
      above_is = ap (option_and_then (λ (x : ClassData). x.above)) at

      -- each pair is such a pair
      each_is : (n j : ℕ) (d : MethodData) → slice_get t.methods n ≡ Some d → is_of_kind t k d.class ≡ true → j ≡ runner t k n d → IsTarget P k c.above n j
      each_is n j d there kind runs = by_class (k == d.class) refl
        where
          by_class : (b : Bool) → (k == d.class) ≡ b → IsTarget P k c.above n j
          by_class true same =
              let mine : d.class ≡ k = sym (eqb-true k d.class same) in
              own (is_own k n d there mine) (runs ∙ own_runs k n d low there mine)
          by_class false other = by_above c.above refl
            where
              by_above : (a : Option ℕ) → c.above ≡ a → IsTarget P k a n j
              by_above None none = absurd (let e : true ≡ false = sym kind ∙ kind_top up_in (length t.classes) lined.below lined.apart k d.class low (above_is ∙ none) ∙ other in cc)
              by_above (Some e) is =
                  let above : above_in_table t k ≡ Some e = above_is ∙ is in
                  let below : e < length t.classes = lined.below k e above in
                  let further : is_of_kind t e d.class ≡ true = sym (kind_on up_in (length t.classes) lined.below lined.apart k e d.class low above ∙ ap (λ b. b || is_of_kind t e d.class) other) ∙ kind in
                  by_own below further (own_method t d.name k) refl (runs ∙ ap (λ o. unwrap_or o n) (named_on t lined d.name k e above))
                where
                  by_own : e < length t.classes → is_of_kind t e d.class ≡ true → (o : Option ℕ) → own_method t d.name k ≡ o → j ≡ unwrap_or (option_or o (method_number t e d.name)) n → IsTarget P k (Some e) n j
                  by_own below further None none runs = inherited (target_is e n d below there further ∙ ap Some (sym runs))
                  by_own below further (Some x) found runs =
                      let named = own_named d.name k x found in
                      overridden (ap is_some (target_is e n d below there further)) (subst (IsOwn P k) (sym runs) (is_own k x named.method named.is named.class))

      -- what the class above has, the class has
      inherited_kept : (a : Option ℕ) (n : ℕ) → c.above ≡ a → IsSome (inherited_target P a n) → IsSome (partner (targets_from t k 0 t.methods) n)
      inherited_kept None n is some = absurd (none_there some)
      inherited_kept (Some e) n is some =
          let above : above_in_table t k ≡ Some e = above_is ∙ is in
          let below : e < length t.classes = lined.below k e above in
          let j = some_there (target_of P e n) some in
          let p = pair_is e n j.0 below j.1 in
          ap is_some (stands t k 0 t.methods n n p.method (omega arith) p.is (kind_up up_in (length t.classes) lined.below lined.apart k e p.method.class low above p.kind))

      pub are_targets : AreTargets P k (class_core t k c)
      are_targets = record {
        ascend = ascending_pairs t k 0 t.methods;
        each = λ n j is.
            let p = paired t k 0 t.methods n j is in
            let same : p.place ≡ n = omega (arith, p.number) in
            each_is n j p.method (ap (slice_get t.methods) (sym same) ∙ p.is) p.kind p.runs;
        all_own = λ n (m, is, mine).
            let d = entry_of n m is in
            ap is_some (stands t k 0 t.methods n n d.0 (omega arith) d.1 (ap (is_of_kind t k) (d.2 ∙ mine) ∙ kind_itself up_in (length t.classes) lined.below lined.apart k low));
        all_inherited = λ n some. inherited_kept c.above n refl some;
        ids = subst (λ z. All (λ p. (p.0 < z) × (p.1 < z)) (targets_from t k 0 t.methods)) (sym methods_long)
            (pairs_within t k (length t.methods) 0 t.methods (omega arith) (λ i n d number is. runner_low k n d low (let same : n ≡ i = omega (arith, number) in ap (slice_get t.methods) same ∙ is)));
      }
