-- The open order of a schedule of any system with movers.
use Rattle.std.proofs.Common.{◌≡◌, ℕ, ◌+◌, Bool, true, false, not, ◌||◌, List, [], ◌∷◌, ◌++◌, length, refl, sym, ap, subst, ◌∙◌, Some}
use Rattle.std.specs.Prelude.{map, filter, slice_get, is_some}
use Rattle.std.specs.List.{list_any}
use Rattle.std.proofs.lemmas.List.{append-nil}
use Rattle.semantics.specs.Units.{Entry, units, is_commit, word_of, in_order, schedule_of}
use Rattle.semantics.specs.Words.{IsReducible}
use Rattle.semantics.proofs.WordLemmas.{is_reducible_of}
use Rattle.reduction.specs.Systems.{System, system_run_from, system_entry_then, system_entries_from, written_from, owns_from}
use Rattle.reduction.specs.Movers.{HasMovers}
use Rattle.reduction.specs.Runs.{Run}
use Rattle.reduction.specs.Serial.{NobodyInside}
use Rattle.reduction.proofs.Shape.{Each, each_both, flat, IsFine, each_in_order}
use Rattle.reduction.proofs.Slides.{Becomes, becomes_then, becomes_behind}
use Rattle.reduction.proofs.Sorting.{Rises, NotBare, HasWord, fine_units, each_units, sorted}
use Rattle.reduction.proofs.Whole.{Whole, count_owns, entries_all, entries_rise, entries_run, run_entries, schedule_is, whole_units, each_from, none_bare}
use Rattle.reduction.specs.Committing.{commits, is_uncommitted, by_thread, open_units}
use Rattle.reduction.specs.Gathering.{open_from, AreBlocksWhole, IsGatheredOrder, AreUnitsTogether}
use Rattle.reduction.proofs.KeptUnits.{kept_by, each_kept, filter_in_order}
use Rattle.reduction.proofs.ThreadOrder.{by_thread_in_order}
use Rattle.reduction.proofs.LastUnits.{alone_left, alone_apart, last_units, last_ordered, last_opened}
use Rattle.reduction.proofs.OpenMoves.{flat_both, part, put_all, each_by_thread}
use Rattle.reduction.proofs.Together.{marks, AreTogether, flat_together, whole}
use Rattle.reduction.proofs.UnitNeighbours.{units_together}

-- the units that don't commit are those
left_ones : (us : List (List Entry)) → Each (λ u. commits u ≡ false) (filter is_uncommitted us)
left_ones [] = tt
left_ones (u ∷ us) = by (commits u) refl (left_ones us)
  where
    by : (b : Bool) → commits u ≡ b → Each (λ v. commits v ≡ false) (filter is_uncommitted us) → Each (λ v. commits v ≡ false) (filter is_uncommitted (u ∷ us))
    by true is rest = subst (Each (λ v. commits v ≡ false)) (sym (kept_by is_uncommitted u us false (ap not is))) rest
    by false is rest = subst (Each (λ v. commits v ≡ false)) (sym (kept_by is_uncommitted u us true (ap not is))) (is, rest)

-- the units of a run, taken apart after they were put in order of their commit places
opened_is : (es : List Entry) (n : ℕ) → Rises n es → filter commits (in_order (units es)) ++ by_thread (filter is_uncommitted (in_order (units es))) ≡ open_units (units es)
opened_is es n rises =
    let us = units es in
    let apart = alone_apart n (filter is_uncommitted us) (each_kept (IsFine n) is_uncommitted us (fine_units es n rises)) (alone_left us (last_units es n rises)) in
    λ i. filter_in_order commits us i ++ (ap by_thread (filter_in_order is_uncommitted us) ∙ by_thread_in_order (filter is_uncommitted us) apart) i

run_marks : {S O : Type 0} (M : System S O) (es : List Entry) (q r : S) (place : ℕ) → Run M q es r → marks (system_entries_from M q place (map (λ e. e.thread) es)) ≡ marks es
run_marks M [] q r place ran = refl
run_marks M (e ∷ es) q r place ran =
    ap (λ o. marks (system_entry_then M place e.thread o (λ next. system_entries_from M next (place + 1) (map (λ x. x.thread) es)))) ran.1.steps
    ∙ (λ i. (e.thread, ran.1.inside i) ∷ run_marks M es ran.0 r (place + 1) ran.2 i)

module _ {S O : Type 0} {M : System S O} {IsSound : S → Type 0} (laws : HasMovers M IsSound) (s : List ℕ) (q r : S) (first : IsSound q) (ran : system_run_from M q s ≡ Some r) where
  abbrev es : List Entry
  es = system_entries_from M q 0 s

  rises : Rises 0 es
  rises = entries_rise M s q 0

  fine : Each (IsFine 0) (in_order (units es))
  fine = each_in_order (IsFine 0) (units es) (fine_units es 0 rises)

  -- the units in the open order
  abbrev opened : List (List Entry)
  opened = filter commits (in_order (units es)) ++ by_thread (filter is_uncommitted (in_order (units es)))

  fine_opened : Each (IsFine 0) opened
  fine_opened = each_both (IsFine 0) (filter commits (in_order (units es))) (by_thread (filter is_uncommitted (in_order (units es))))
      (each_kept (IsFine 0) commits (in_order (units es)) fine)
      (each_by_thread (IsFine 0) (filter is_uncommitted (in_order (units es))) (each_kept (IsFine 0) is_uncommitted (in_order (units es)) fine))

  order_is : open_from M q s ≡ map (λ e. e.thread) (flat opened)
  order_is = ap schedule_of (sym (opened_is es 0 rises)) ∙ schedule_is opened

  module _ (words : (n : ℕ) (u : List Entry) → slice_get (units es) n ≡ Some u → IsReducible (word_of u)) where
    each_word : Each HasWord (units es)
    each_word = each_from HasWord (units es) (λ n u at. is_reducible_of (word_of u) (words n u at))

    becomes : Becomes M q es (flat opened) r
    becomes =
        let us = units es in
        let ws = in_order us in
        let bare = none_bare es each_word in
        let bares = each_in_order (Each NotBare) us (each_units NotBare es bare) in
        let last = last_ordered es 0 rises in
        let left = filter is_uncommitted ws in
        let kept = filter commits ws in
        becomes_then laws q r es (flat ws) (flat opened)
        (sorted laws es 0 rises bare each_word q r first (entries_run M s q r 0 ran))
        (λ again. becomes_then laws q r (flat ws) (flat (kept ++ left)) (flat opened)
        (part laws 0 ws fine bares last q r first again)
        (λ more. subst (λ z. Becomes M q z (flat opened) r) (sym (flat_both kept left))
        (subst (λ z. Becomes M q (flat kept ++ flat left) z r) (sym (flat_both kept (by_thread left)))
        (becomes_behind laws q r (flat kept) (flat left) (flat (by_thread left)) first (subst (λ z. Run M q z r) (flat_both kept left) more)
        (λ mid sound grown later. put_all laws 0 left (each_kept (IsFine 0) is_uncommitted ws fine) (each_kept (Each NotBare) is_uncommitted ws bares) (left_ones ws) (alone_left ws last) mid r sound later)))))

    runs : system_run_from M q (open_from M q s) ≡ Some r
    runs = ap (system_run_from M q) order_is ∙ run_entries M (flat opened) q r becomes.run

    gathers : AreTogether (marks (flat opened))
    gathers = flat_together 0 opened fine_opened (last_opened (in_order (units es)) (last_ordered es 0 rises))

    owns : (t : ℕ) → owns_from M q t s ≡ owns_from M q t (open_from M q s)
    owns t = ap (owns_from M q t) (sym (entries_all M s q 0 (ap is_some ran))) ∙ becomes.owns t ∙ ap (owns_from M q t) (sym order_is)

    pub gathered : IsGatheredOrder M q s (open_from M q s) r
    gathered = record {
      rearranges = λ t. sym (count_owns M t s q (ap is_some ran)) ∙ ap length (owns t) ∙ count_owns M t (open_from M q s) q (ap is_some runs);
      runs = runs;
      whole = subst (AreBlocksWhole M q) (sym order_is) (whole M (flat opened) q r becomes.run gathers);
      owns = owns;
    }

    pub units_gathered : AreUnitsTogether M q (open_from M q s)
    units_gathered = units_together M (open_from M q s) q
        (subst AreTogether (sym (ap (λ z. marks (system_entries_from M q 0 z)) order_is ∙ run_marks M (flat opened) q r 0 becomes.run)) gathers)

  -- Where nobody is inside a block, all units commit.

  all_commit : (us : List (List Entry)) → Each Whole us → open_units us ≡ in_order us
  all_commit us all = (λ i. in_order (keep us all i) ++ by_thread (none us all i)) ∙ append-nil (in_order us)
    where
      keep : (us : List (List Entry)) → Each Whole us → filter commits us ≡ us
      keep [] all = refl
      keep (u ∷ us) all = kept_by commits u us true (ap (λ b. b || list_any (λ e. is_commit e.kind) u) all.0) ∙ ap (λ vs. u ∷ vs) (keep us all.1)

      none : (us : List (List Entry)) → Each Whole us → filter is_uncommitted us ≡ []
      none [] all = refl
      none (u ∷ us) all = kept_by is_uncommitted u us false (ap (λ b. not (b || list_any (λ e. is_commit e.kind) u)) all.0) ∙ none us all.1

  pub closed_order : NobodyInside M r → open_from M q s ≡ written_from M q s
  closed_order nobody = ap schedule_of (all_commit (units es) (whole_units laws es 0 rises q r (entries_run M s q r 0 ran) nobody))
