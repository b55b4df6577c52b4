-- How many objects a thread made, when objects are added and changed.
use Rattle.std.proofs.Common.{◌≡◌, ◌≢◌, ℕ, ◌+◌, Bool, true, false, List, [], ◌∷◌, Some, None, refl, sym, ap, subst, ◌∙◌, arith, ◌==◌, ◌&&◌}
use Rattle.std.specs.Prelude.{Option, map, count_by, is_some, nat_lt, cond, T}
use Rattle.std.specs.FinMap as M
use Rattle.std.specs.FinMap.{find, put, is_sorted, entries, entries_sorted, entries-insert, get-entries, get-insert}
use Rattle.std.specs.FinMap.Entries.{below_all}
use Rattle.std.specs.Ordering.{eq_by_cmp, is_eq, is_lt}
use Rattle.std.specs.declared.cmp.Ordering.{Ordering}
use Rattle.std.specs.declared.cmp.Ordering.TheVariants.{Less, Equal, Greater}
use Rattle.std.proofs.lemmas.List.Sums.{sum_by-cons}
use Rattle.std.proofs.lemmas.Bool.Decides.{nat_tests}
use Rattle.std.proofs.lemmas.Bool.{eqb-true, eqb-false}
use Rattle.state.specs.declared.value.Address.{Address}
use Rattle.state.specs.Memory.{Heap, Object, address_cmp, made_by, next_address, IsNumbered, with_object, with_field, with_value}
use Rattle.state.proofs.Addresses.{address_total, tied}
use Rattle.state.proofs.MemoryLemmas.{get-insert_other, get-insert_same}

module _ (p : Address → Bool) where
  -- how many entries have an address that passes
  abbrev count : List (Address × Object) → ℕ
  count es = count_by p (map (λ e. e.0) es)

  count-cons : (e : Address × Object) (es : List (Address × Object)) → count (e ∷ es) ≡ cond (p e.0) 1 0 + count es
  count-cons e es = sum_by-cons (λ x. cond (p x) 1 0) e.0 (map (λ e. e.0) es)

  by_order_new : (k : Address) (o : Object) (e : Address × Object) (es : List (Address × Object)) (r : Ordering) → is_eq r ≡ false → count (put address_cmp k o es) ≡ cond (p k) 1 0 + count es → count (Rattle.std.specs.FinMap.Entries.by_order r ((k, o) ∷ e ∷ es) ((e.0, o) ∷ es) (e ∷ put address_cmp k o es)) ≡ cond (p k) 1 0 + count (e ∷ es)
  by_order_new k o e es Less new rest = count-cons (k, o) (e ∷ es)
  by_order_new k o e es Equal new rest = absurd cc
  by_order_new k o e es Greater new rest = count-cons e (put address_cmp k o es) ∙ omega (arith, rest, count-cons e es)

  not_found : (b : Bool) (x : Object) (o : Option Object) → cond b (Some x) o ≡ None → (b ≡ false) × (o ≡ None)
  not_found true x o e = absurd cc
  not_found false x o e = (refl, e)

  count-put_new : (k : Address) (o : Object) (es : List (Address × Object)) → find address_cmp k es ≡ None → count (put address_cmp k o es) ≡ cond (p k) 1 0 + count es
  count-put_new k o [] none = count-cons (k, o) []
  count-put_new k o (e ∷ es) none =
      let parts = not_found (eq_by_cmp address_cmp k e.0) e.1 (find address_cmp k es) none in
      by_order_new k o e es (address_cmp k e.0) parts.0 (count-put_new k o es parts.1)

pub first_fact : (a b : Bool) → T (a && b) → a ≡ true
first_fact true b h = refl
first_fact false b h = absurd h

pub second_fact : (a b : Bool) → T (a && b) → T b
second_fact true b h = h
second_fact false b h = absurd h

pub less_is : (r : Ordering) → is_lt r ≡ true → r ≡ Less
less_is Less e = refl
less_is Equal e = absurd cc
less_is Greater e = absurd cc

-- below all entries an address isn't found
none_below : (k y : Address) (es : List (Address × Object)) → address_cmp k y ≡ Less → T (below_all address_cmp y es) → find address_cmp k es ≡ None
none_below k y [] less below = refl
none_below k y (e ∷ es) less below =
    let further = address_total.trans k y e.0 less (less_is _ (first_fact _ _ below)) in
    ap (λ r. cond (is_eq r) (Some e.1) (find address_cmp k es)) further ∙ none_below k y es less (second_fact (is_lt (address_cmp y e.0)) _ below)

addresses_kept : (k : Address) (o x : Object) (es : List (Address × Object)) → T (is_sorted address_cmp es) → find address_cmp k es ≡ Some x → map (λ e. e.0) (put address_cmp k o es) ≡ map (λ e. e.0) es
addresses_kept k o x [] sorted found = absurd cc
addresses_kept k o x (e ∷ es) sorted found =
    elim (address_cmp k e.0) as (λ r. address_cmp k e.0 ≡ r → map (λ e. e.0) (Rattle.std.specs.FinMap.Entries.by_order r ((k, o) ∷ e ∷ es) ((e.0, o) ∷ es) (e ∷ put address_cmp k o es)) ≡ e.0 ∷ map (λ e. e.0) es) [
      | Less ↦ λ less. absurd (let none = sym found ∙ ap (λ r. cond (is_eq r) (Some e.1) (find address_cmp k es)) less ∙ none_below k e.0 es less (subst T (sym (first_fact _ _ sorted)) tt) in cc)
      | Equal ↦ λ equal. refl
      | Greater ↦ λ greater. ap (λ xs. e.0 ∷ xs) (addresses_kept k o x es (second_fact (below_all address_cmp e.0 es) _ sorted) (sym (ap (λ r. cond (is_eq r) (Some e.1) (find address_cmp k es)) greater) ∙ found))
    ] refl

-- Maps.

made_by-insert_new : (t : ℕ) (heap : Heap) (k : Address) (o : Object) → M.get heap k ≡ None → made_by t (M.insert heap k o) ≡ cond (k.thread == t) 1 0 + made_by t heap
made_by-insert_new t heap k o none =
    ap (λ (es : List (Address × Object)). count_by (λ a. a.thread == t) (map (λ e. e.0) es)) (entries-insert address_total heap k o)
    ∙ count-put_new (λ a. a.thread == t) k o (entries heap) (sym (get-entries heap k) ∙ none)

made_by-insert_old : (t : ℕ) (heap : Heap) (k : Address) (o x : Object) → M.get heap k ≡ Some x → made_by t (M.insert heap k o) ≡ made_by t heap
made_by-insert_old t heap k o x found =
    ap (λ (es : List (Address × Object)). count_by (λ a. a.thread == t) (map (λ e. e.0) es)) (entries-insert address_total heap k o)
    ∙ ap (count_by (λ a. a.thread == t)) (addresses_kept k o x (entries heap) (entries_sorted heap) (sym (get-entries heap k) ∙ found))

none_is : (o : Option Object) → is_some o ≡ false → o ≡ None
none_is None e = refl
none_is (Some x) e = absurd cc

pub not_less : (n : ℕ) → nat_lt n n ≡ false
not_less n = grind (arith, nat_tests)

pub next_free : (heap : Heap) (t : ℕ) → IsNumbered heap → M.get heap (next_address t heap) ≡ None
next_free heap t numbered = none_is _ (numbered t (made_by t heap) ∙ not_less _)

less_more : (n m : ℕ) → n ≡ m → true ≡ nat_lt n (1 + m)
less_more n m e = grind (arith, nat_tests)

less_same : (n m : ℕ) → n ≢ m → nat_lt n m ≡ nat_lt n (1 + m)
less_same n m e = grind (arith, nat_tests)

module _ (heap : Heap) (t : ℕ) (o : Object) (numbered : IsNumbered heap) where
  made : (u : ℕ) → made_by u (M.insert heap (next_address t heap) o) ≡ cond (t == u) 1 0 + made_by u heap
  made u = made_by-insert_new u heap (next_address t heap) o (next_free heap t numbered)

  there : (u n : ℕ) → (b : Bool) → (t == u) ≡ b → (d : Bool) → (n == made_by t heap) ≡ d → is_some (M.get (M.insert heap (next_address t heap) o) (record { thread = u; count = n })) ≡ nat_lt n (cond b 1 0 + made_by u heap)
  there u n false other d e =
      ap is_some (get-insert_other heap (next_address t heap) _ o (λ same. eqb-false t u other (sym (ap (λ a. a.thread) same))))
      ∙ numbered u n ∙ ap (nat_lt n) (omega arith)
  there u n true same true next =
      let thread : t ≡ u = eqb-true t u same in
      let count : n ≡ made_by t heap = eqb-true n _ next in
      let address : next_address t heap ≡ record { thread = u; count = n } = λ i. record { thread = thread i; count = sym count i } in
      ap is_some (subst (λ a. M.get (M.insert heap (next_address t heap) o) a ≡ Some o) address (get-insert_same heap (next_address t heap) o))
      ∙ less_more n (made_by u heap) (count ∙ ap (λ x. made_by x heap) thread)
  there u n true same false another =
      let thread : t ≡ u = eqb-true t u same in
      let differs : n ≢ made_by t heap = eqb-false n _ another in
      ap is_some (get-insert_other heap (next_address t heap) _ o (λ at. differs (ap (λ a. a.count) at)))
      ∙ numbered u n ∙ less_same n (made_by u heap) (λ e. differs (e ∙ ap (λ x. made_by x heap) (sym thread)))

  pub numbered_new : IsNumbered (M.insert heap (next_address t heap) o)
  numbered_new u n = there u n _ refl _ refl ∙ ap (nat_lt n) (sym (made u))

module _ (heap : Heap) (a : Address) where
  there_as_before : (y x : Object) (b : Address) → M.get heap a ≡ Some x → is_some (M.get (M.insert heap a y) b) ≡ is_some (M.get heap b)
  there_as_before y x b found = ap is_some (get-insert address_total heap a y b)
      ∙ elim (eq_by_cmp address_cmp b a) as (λ s. eq_by_cmp address_cmp b a ≡ s → is_some (cond s (Some y) (M.get heap b)) ≡ is_some (M.get heap b)) [
        | true ↦ λ e. sym (ap is_some (ap (M.get heap) (tied b a e) ∙ found))
        | false ↦ λ e. refl
      ] refl

  numbered_object : (o : Option Object) → M.get heap a ≡ o → (change : Object → Object) → IsNumbered heap → IsNumbered (with_object a o change heap)
  numbered_object None found change numbered t n = numbered t n
  numbered_object (Some x) found change numbered t n = there_as_before (change x) x _ found ∙ numbered t n ∙ ap (nat_lt n) (sym (made_by-insert_old t heap a (change x) x found))

  pub numbered_written : (index : ℕ) (v : Rattle.state.specs.declared.value.Value.Value) → IsNumbered heap → IsNumbered (with_field a index v heap)
  numbered_written index v numbered = numbered_object _ refl (with_value index v) numbered
