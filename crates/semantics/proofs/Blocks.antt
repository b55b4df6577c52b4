-- Units in order are their entries sorted, where each entry's key is the commit place of its unit.
use Rattle.std.proofs.Common.{◌≡◌, ◌≢◌, ℕ, ◌≤◌, Bool, true, false, List, [], ◌∷◌, ◌++◌, refl, sym, ap, ◌∙◌, arith}
use Rattle.std.specs.Prelude.{nat_le, if◌then◌else◌}
use Rattle.std.proofs.lemmas.Bool.{leb-true, leb-false}
use Rattle.semantics.specs.Units.{Entry, added, is_of_thread, units, commit_place, placed, in_order}
use Rattle.semantics.specs.Sorted.{put_by, sort_by}
use Rattle.semantics.proofs.Insertions.{Each, each_more, each_left, each_right, each_both, puts, sort_append, puts_swap, Low, puts_low, puts_over}

-- the entries of units, one unit after the other
abbrev pub flat : List (List Entry) → List Entry
flat [] = []
flat (u ∷ us) = u ++ flat us

-- a unit has an entry
abbrev pub IsSome : List Entry → Type 0
IsSome [] = ⊥
IsSome (e ∷ u) = Unit {0}

module _ (key : Entry → ℕ) where
  -- a unit whose entries have its commit place for their key
  pub record Keyed (u : List Entry) : Type 0 where
    pub some : IsSome u
    pub keys : Each (λ e. key e ≡ commit_place u) u

  low_block : (c : ℕ) (v l : List Entry) → Keyed v → c ≤ commit_place v → Low key c (v ++ l)
  low_block c [] l k low = absurd k.some
  low_block c (e ∷ v) l k low = let h = k.keys in higher c (commit_place (e ∷ v)) (key e) low h.0
    where
      higher : (c d k : ℕ) → c ≤ d → k ≡ d → c ≤ k
      higher c d k low e = omega (arith, low, e)

  place_block : (u : List Entry) (vs : List (List Entry)) → Keyed u → Each Keyed vs → puts key u (flat vs) ≡ flat (placed u vs)
  place_block u [] k h = puts_low key (commit_place u) u [] k.keys tt
  place_block u (v ∷ vs) k h = by (nat_le (commit_place u) (commit_place v)) refl (place_block u vs k h.1)
    where
      by : (b : Bool) → nat_le (commit_place u) (commit_place v) ≡ b → puts key u (flat vs) ≡ flat (placed u vs) → puts key u (v ++ flat vs) ≡ flat (if b then u ∷ v ∷ vs else v ∷ placed u vs)
      by true e rest = puts_low key (commit_place u) u (v ++ flat vs) k.keys (low_block (commit_place u) v (flat vs) h.0 (leb-true (commit_place u) (commit_place v) e))
      by false e rest = puts_over key (commit_place u) (commit_place v) u v (flat vs) k.keys (h.0).keys (leb-false (commit_place u) (commit_place v) e) ∙ ap (λ l. v ++ l) rest

  each_placed : (u : List Entry) (vs : List (List Entry)) → Keyed u → Each Keyed vs → Each Keyed (placed u vs)
  each_placed u [] k h = (k, tt)
  each_placed u (v ∷ vs) k h = by (nat_le (commit_place u) (commit_place v)) (each_placed u vs k h.1)
    where
      by : (b : Bool) → Each Keyed (placed u vs) → Each Keyed (if b then u ∷ v ∷ vs else v ∷ placed u vs)
      by true rest = (k, h)
      by false rest = (h.0, rest)

  each_in_order : (us : List (List Entry)) → Each Keyed us → Each Keyed (in_order us)
  each_in_order [] h = tt
  each_in_order (u ∷ us) h = each_placed u (in_order us) h.0 (each_in_order us h.1)

  -- the entries of units sorted are those of the units in order
  pub order_flat : (us : List (List Entry)) → Each Keyed us → sort_by key (flat us) ≡ flat (in_order us)
  order_flat [] h = refl
  order_flat (u ∷ us) h = sort_append key u (flat us) ∙ ap (puts key u) (order_flat us h.1) ∙ place_block u (in_order us) h.0 (each_in_order us h.1)

  -- entries of different units have different keys
  abbrev pub Apart : List (List Entry) → Type 0
  Apart [] = Unit {0}
  Apart (u ∷ us) = Each (λ x. Each (λ y. key x ≢ key y) (flat us)) u × Apart us

  -- an entry of this list has this property too
  each_added : (Q : Entry → Type 0) (e : Entry) (us : List (List Entry)) → Each Q (flat (added e us)) → Q e × Each Q (flat us)
  each_added Q e [] h = (h.0, tt)
  each_added Q e (u ∷ us) h = by (is_of_thread e.thread u) h (λ g. each_added Q e us g)
    where
      by : (b : Bool) → Each Q (flat (if b then (e ∷ u) ∷ us else u ∷ added e us)) → (Each Q (flat (added e us)) → Q e × Each Q (flat us)) → Q e × Each Q (u ++ flat us)
      by true g rest = (g.0, g.1)
      by false g rest = let r = rest (each_right Q u (flat (added e us)) g) in (r.0, each_both Q u (flat us) (each_left Q u (flat (added e us)) g) r.1)

  -- an entry that goes on with a unit is sorted as if it came first
  added_sorted : (e : Entry) (us : List (List Entry)) → Apart (added e us) → Apart us × (sort_by key (flat (added e us)) ≡ put_by key e (sort_by key (flat us)))
  added_sorted e [] h = (tt, refl)
  added_sorted e (u ∷ us) h = by (is_of_thread e.thread u) h (λ g. added_sorted e us g)
    where
      by : (b : Bool) → Apart (if b then (e ∷ u) ∷ us else u ∷ added e us) → (Apart (added e us) → Apart us × (sort_by key (flat (added e us)) ≡ put_by key e (sort_by key (flat us))))
          → Apart (u ∷ us) × (sort_by key (flat (if b then (e ∷ u) ∷ us else u ∷ added e us)) ≡ put_by key e (sort_by key (u ++ flat us)))
      by true g rest = (((g.0).1, g.1), refl)
      by false g rest =
          let r = rest g.1 in
          let parts = each_more (λ x. Each (λ y. key x ≢ key y) (flat (added e us))) (λ x. (key x ≢ key e) × Each (λ y. key x ≢ key y) (flat us)) (λ x k. each_added (λ y. key x ≢ key y) e us k) u g.0 in (
            (each_more (λ x. (key x ≢ key e) × Each (λ y. key x ≢ key y) (flat us)) (λ x. Each (λ y. key x ≢ key y) (flat us)) (λ x k. k.1) u parts, r.0),
            sort_append key u (flat (added e us)) ∙ ap (puts key u) r.1
                ∙ puts_swap key u e (sort_by key (flat us)) (each_more (λ x. (key x ≢ key e) × Each (λ y. key x ≢ key y) (flat us)) (λ x. key x ≢ key e) (λ x k. k.0) u parts)
                ∙ ap (put_by key e) (sym (sort_append key u (flat us))),
          )

  -- the entries of a run's units, sorted, are the run's entries sorted
  pub units_sorted : (es : List Entry) → Apart (units es) → sort_by key (flat (units es)) ≡ sort_by key es
  units_sorted [] h = refl
  units_sorted (e ∷ es) h = by e.inside h (λ g. units_sorted es g)
    where
      by : (b : Bool) → Apart (if b then added e (units es) else (e ∷ []) ∷ units es) → (Apart (units es) → sort_by key (flat (units es)) ≡ sort_by key es)
          → sort_by key (flat (if b then added e (units es) else (e ∷ []) ∷ units es)) ≡ put_by key e (sort_by key es)
      by true g rest = let r = added_sorted e (units es) g in r.1 ∙ ap (put_by key e) (rest r.0)
      by false g rest = ap (put_by key e) (rest g.1)
