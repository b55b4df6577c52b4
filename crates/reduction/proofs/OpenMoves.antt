-- The run of units in order becomes that of the open order: what doesn't commit goes behind the rest, and into the order of
-- threads.
use Rattle.std.proofs.Common.{◌≡◌, ℕ, Bool, true, false, ◌||◌, inl, List, [], ◌∷◌, ◌++◌, refl, sym, ap, subst, ◌∙◌}
use Rattle.std.specs.Prelude.{nat_le, filter, cond}
use Rattle.std.specs.List.{list_any}
use Rattle.std.proofs.lemmas.Bool.{eq-eqb}
use Rattle.std.proofs.lemmas.List.{append_assoc}
use Rattle.semantics.specs.Units.{Entry, is_of_thread, is_commit}
use Rattle.reduction.specs.Movers.{HasMovers}
use Rattle.reduction.specs.Runs.{Run}
use Rattle.reduction.specs.Systems.{System}
use Rattle.reduction.proofs.Shape.{Each, each_both, flat, has, IsOf, IsFine}
use Rattle.reduction.proofs.Slides.{Passes, Becomes, becomes_behind, becomes_itself, becomes_then, slide_all}
use Rattle.reduction.proofs.Sorting.{NotBare, quiet_right, others}
use Rattle.reduction.specs.Committing.{commits, is_uncommitted, unit_thread, placed_by_thread, by_thread}
use Rattle.reduction.proofs.KeptUnits.{each_kept}
use Rattle.reduction.proofs.ThreadOrder.{put_by}
use Rattle.reduction.proofs.LastUnits.{NoneOf, AreLast, AreAlone, parted, parted_kept, parted_left, left_open, none_first, none_behind, none_kept, none_by_thread}

pub flat_both : (us vs : List (List Entry)) → flat (us ++ vs) ≡ flat us ++ flat vs
flat_both [] vs = refl
flat_both (u ∷ us) vs = ap (λ es. u ++ es) (flat_both us vs) ∙ sym (append_assoc u (flat us) (flat vs))

each_flat : (Q : Entry → Type 0) (us : List (List Entry)) → Each (Each Q) us → Each Q (flat us)
each_flat Q [] h = tt
each_flat Q (u ∷ us) h = each_both Q u (flat us) h.0 (each_flat Q us h.1)

-- no entry is of a thread that no unit is of
others_flat : (t n : ℕ) (us : List (List Entry)) → Each (IsFine n) us → has t us ≡ false → Each (λ x. x.thread ≡ t → ⊥) (flat us)
others_flat t n [] fine none = tt
others_flat t n (u ∷ us) fine none = let p = none_first t u us none in each_both (λ x. x.thread ≡ t → ⊥) u (flat us) (others t u n fine.0 p.0) (others_flat t n us fine.1 p.1)

-- entries of a call before its first Left or Other step may pass those of other threads
quiet_passes : {S O : Type 0} (M : System S O) (q : S) (t : ℕ) (u gs : List Entry) → Each (IsOf t) u → Each NotBare u → list_any (λ e. is_commit e.kind) u ≡ false → Each (λ x. x.thread ≡ t → ⊥) gs → Each NotBare gs → Each (λ y. Each (Passes M q y) gs) u
quiet_passes M q t [] gs own quiet none apart bares = tt
quiet_passes M q t (y ∷ u) gs own quiet none apart bares = let p = parts (is_commit y.kind) (list_any (λ e. is_commit e.kind) u) none in (each_one p.0 gs apart bares, quiet_passes M q t u gs own.1 quiet.1 p.1 apart bares)
  where
    parts : (b c : Bool) → (b || c) ≡ false → (b ≡ false) × (c ≡ false)
    parts true c e = absurd cc
    parts false c e = (refl, e)

    each_one : is_commit y.kind ≡ false → (xs : List Entry) → Each (λ x. x.thread ≡ t → ⊥) xs → Each NotBare xs → Each (Passes M q y) xs
    each_one calm [] apart bares = tt
    each_one calm (x ∷ xs) apart bares =
        let right = quiet_right y.kind calm quiet.0 in (
          record {
            apart = λ same. absurd (apart.0 (sym same ∙ own.0));
            kinds = inl (right, bares.0);
          },
          each_one calm xs apart.1 bares.1,
        )

-- what holds of each unit holds of those in order of threads
pub each_put : (Q : List Entry → Type 0) (u : List Entry) (us : List (List Entry)) → Q u → Each Q us → Each Q (placed_by_thread u us)
each_put Q u [] q h = (q, tt)
each_put Q u (v ∷ us) q h = by (nat_le (unit_thread u) (unit_thread v)) (each_put Q u us q h.1)
  where
    by : (b : Bool) → Each Q (placed_by_thread u us) → Each Q (cond b (u ∷ v ∷ us) (v ∷ placed_by_thread u us))
    by true rest = (q, h)
    by false rest = (h.0, rest)

pub each_by_thread : (Q : List Entry → Type 0) (us : List (List Entry)) → Each Q us → Each Q (by_thread us)
each_by_thread Q [] h = tt
each_by_thread Q (u ∷ us) h = each_put Q u (by_thread us) h.0 (each_by_thread Q us h.1)

module _ {S O : Type 0} {M : System S O} {IsSound : S → Type 0} (laws : HasMovers M IsSound) where
  -- a unit that doesn't commit goes behind units of other threads
  pass : (n : ℕ) (u : List Entry) (us : List (List Entry)) (more : List Entry) → IsFine n u → Each (IsFine n) us → Each NotBare u → Each (Each NotBare) us → commits u ≡ false → NoneOf u us → (q r : S) → IsSound q → Run M q (u ++ (flat us ++ more)) r
      → Becomes M q (u ++ (flat us ++ more)) (flat us ++ (u ++ more)) r
  pass n u us more fine fines quiet bares left none q r sound run =
      slide_all laws q r u (flat us) more sound
      (quiet_passes M q fine.first.thread u (flat us) fine.one quiet (left_open u left).1 (others_flat fine.first.thread n us fines (none fine.first.thread own)) (each_flat NotBare us bares)) run
    where
      own : is_of_thread fine.first.thread u ≡ true
      own = ap (is_of_thread fine.first.thread) fine.is ∙ eq-eqb fine.first.thread fine.first.thread refl

  -- all units that don't commit go behind those that do
  pub part : (n : ℕ) (us : List (List Entry)) → Each (IsFine n) us → Each (Each NotBare) us → AreLast us → (q r : S) → IsSound q → Run M q (flat us) r → Becomes M q (flat us) (flat (parted us)) r
  part n [] fine quiet last q r sound run = becomes_itself laws q r [] run
  part n (u ∷ us) fine quiet last q r sound run =
      becomes_then laws q r (u ++ flat us) (u ++ flat (parted us)) (flat (parted (u ∷ us)))
      (becomes_behind laws q r u (flat us) (flat (parted us)) sound run (λ mid s more later. part n us fine.1 quiet.1 last.1 mid r s later))
      (by (commits u) refl)
    where
      by : (b : Bool) → commits u ≡ b → Run M q (u ++ flat (parted us)) r → Becomes M q (u ++ flat (parted us)) (flat (parted (u ∷ us))) r
      by true is again = subst (λ z. Becomes M q (u ++ flat (parted us)) (flat z) r) (sym (parted_kept u us is)) (becomes_itself laws q r (u ++ flat (parted us)) again)
      by false is again =
          let apart = flat_both (filter commits us) (filter is_uncommitted us) in
          let joined = flat_both (filter commits us) (u ∷ filter is_uncommitted us) in
          subst (λ z. Becomes M q (u ++ flat (parted us)) (flat z) r) (sym (parted_left u us is))
          (subst (λ z. Becomes M q (u ++ flat (parted us)) z r) (sym joined)
          (subst (λ z. Becomes M q (u ++ z) (flat (filter commits us) ++ (u ++ flat (filter is_uncommitted us))) r) (sym apart)
          (pass n u (filter commits us) (flat (filter is_uncommitted us)) fine.0 (each_kept (IsFine n) commits us fine.1) quiet.0 (each_kept (Each NotBare) commits us quiet.1) is
          (λ t at. none_kept t commits us (none_behind u us is last.0 t at)) q r sound (subst (λ z. Run M q (u ++ z) r) apart again))))

  -- a unit that doesn't commit goes to its place among others such
  put_in : (n : ℕ) (u : List Entry) (us : List (List Entry)) → IsFine n u → Each (IsFine n) us → Each NotBare u → Each (Each NotBare) us → commits u ≡ false → NoneOf u us → (q r : S) → IsSound q → Run M q (u ++ flat us) r
      → Becomes M q (u ++ flat us) (flat (placed_by_thread u us)) r
  put_in n u [] fine fines quiet bares left none q r sound run = becomes_itself laws q r (u ++ []) run
  put_in n u (v ∷ us) fine fines quiet bares left none q r sound run = by (nat_le (unit_thread u) (unit_thread v)) refl (λ mid s later. put_in n u us fine fines.1 quiet bares.1 left (λ t at. (none_first t v us (none t at)).1) mid r s later)
    where
      single : flat (v ∷ []) ++ flat us ≡ v ++ flat us
      single = append_assoc v [] (flat us)

      one : NoneOf u (v ∷ [])
      one t at = let p = none_first t v us (none t at) in ap (λ b. cond b true false) p.0

      by : (b : Bool) → nat_le (unit_thread u) (unit_thread v) ≡ b → ((mid : S) → IsSound mid → Run M mid (u ++ flat us) r → Becomes M mid (u ++ flat us) (flat (placed_by_thread u us)) r)
          → Becomes M q (u ++ (v ++ flat us)) (flat (placed_by_thread u (v ∷ us))) r
      by true low rest = subst (λ z. Becomes M q (u ++ (v ++ flat us)) (flat z) r) (sym (put_by u v us true low)) (becomes_itself laws q r (u ++ (v ++ flat us)) run)
      by false high rest =
          subst (λ z. Becomes M q (u ++ (v ++ flat us)) (flat z) r) (sym (put_by u v us false high))
          (becomes_then laws q r (u ++ (v ++ flat us)) (v ++ (u ++ flat us)) (v ++ flat (placed_by_thread u us))
          (slide_all laws q r u v (flat us) sound
          (quiet_passes M q fine.first.thread u v fine.one quiet (left_open u left).1
          (others fine.first.thread v n fines.0 (none_first fine.first.thread v us (none fine.first.thread own)).0) bares.0) run)
          (λ again. becomes_behind laws q r v (u ++ flat us) (flat (placed_by_thread u us)) sound again (λ mid s more later. rest mid s later)))
        where
          own : is_of_thread fine.first.thread u ≡ true
          own = ap (is_of_thread fine.first.thread) fine.is ∙ eq-eqb fine.first.thread fine.first.thread refl

  pub put_all : (n : ℕ) (us : List (List Entry)) → Each (IsFine n) us → Each (Each NotBare) us → Each (λ u. commits u ≡ false) us → AreAlone us → (q r : S) → IsSound q → Run M q (flat us) r → Becomes M q (flat us) (flat (by_thread us)) r
  put_all n [] fine quiet left alone q r sound run = becomes_itself laws q r [] run
  put_all n (u ∷ us) fine quiet left alone q r sound run =
      becomes_then laws q r (u ++ flat us) (u ++ flat (by_thread us)) (flat (placed_by_thread u (by_thread us)))
      (becomes_behind laws q r u (flat us) (flat (by_thread us)) sound run (λ mid s more later. put_all n us fine.1 quiet.1 left.1 alone.1 mid r s later))
      (λ again. put_in n u (by_thread us) fine.0 (each_by_thread (IsFine n) us fine.1) quiet.0 (each_by_thread (Each NotBare) us quiet.1) left.0 (λ t at. none_by_thread t us (alone.0 t at)) q r sound again)
