-- Levels as assignments: they rise over the links of a cell, no higher than any closed assignment asks; and closed ones are greatest.
use Rattle.std.proofs.Common.{◌≡◌, inl, inr, ◌≤◌, ◌<◌, ◌≢◌, ℕ, zero, suc, Bool, true, false, not, ◌==◌, ◌||◌, List, [], ◌∷◌, ◌++◌, map, take, drop, length, get_or, Some, None, Result, Ok, Err, Contains, slice_get, refl, sym, ap, subst, ◌∙◌, arith}
use Rattle.std.specs.Prelude.{Option, OnOk, max, unwrap_or}
use Rattle.std.proofs.lemmas.Bool.{eqb-true, eqb-false, not-false}
use Rattle.std.proofs.lemmas.List.{length-map}
use Rattle.std.proofs.lemmas.Option.{none-some, same_Some, slice_get_within, slice_get-get_or}
use Rattle.std.proofs.Math.Nat.{le_trans}
use Rattle.base.proofs.Lists.{contains_later}
use Rattle.fixpoint.specs.Assignments.{CellNumbers, IsAbove, AreAllMet}
use Rattle.fixpoint.proofs.AssignmentLemmas.{length-above}
use Rattle.level_check.specs.declared.link.Link.{Link}
use Rattle.level_check.specs.Greatest.{links_at, ReachedUnder, over_link, AreGreatest}
use Rattle.level_check.specs.Rises.{are_met, are_met_from, all_raised, raised_from, marks_of, numbers_of, are_links_met, leads_to}
use Rattle.level_check.proofs.Raising.{all_length, all_cases, all_has, all_other, all_same, met_from, met_at, met_grows}

pub numbers_marks : (x : List ℕ) → numbers_of (marks_of x) ≡ x
numbers_marks [] = refl
numbers_marks (u ∷ us) = ap (λ k. u ∷ k) (numbers_marks us)

-- whether a cell's links are met, from the levels themselves
pub met_is : (rows : List (List Link)) (x : List ℕ) (c : ℕ) → are_links_met rows (marks_of x) c ≡ are_met_from x (slice_get x c) (links_at rows c)
met_is rows x c = ap (λ y. are_met_from y (slice_get y c) (links_at rows c)) (numbers_marks x)

-- an assignment above others, cell by cell

pub above_from : (x y : List ℕ) → length y ≡ length x → ((d u v : ℕ) → slice_get x d ≡ Some u → slice_get y d ≡ Some v → u ≤ v) → IsAbove (marks_of y) (marks_of x)
above_from [] [] count each = tt
above_from [] (v ∷ y) count each = absurd (omega (arith, count))
above_from (u ∷ x) [] count each = absurd (omega (arith, count))
above_from (u ∷ x) (v ∷ y) count each = ((each 0 u v refl refl, tt), above_from x y (omega (arith, count)) (λ d a b first second. each (suc d) a b first second))

pub above_at : (y : CellNumbers) (x : List ℕ) (d u : ℕ) → IsAbove y (marks_of x) → slice_get x d ≡ Some u → (v : ℕ) × (slice_get (numbers_of y) d ≡ Some v) × (u ≤ v)
above_at y [] d u above is = absurd (none-some u is)
above_at [] (w ∷ x) d u above is = absurd above
above_at ([] ∷ y) (w ∷ x) zero u above is = absurd above.0
above_at ((n ∷ ns) ∷ y) (w ∷ x) zero u above is = (n, refl, subst (λ k. k ≤ n) (same_Some w u is) above.0.0)
above_at (row ∷ y) (w ∷ x) (suc d) u above is = above_at y x d u above.1 is

pub above_new : (y : CellNumbers) (x z : List ℕ) → IsAbove y (marks_of x) → length z ≡ length x → ((d u v : ℕ) → slice_get z d ≡ Some u → slice_get (numbers_of y) d ≡ Some v → u ≤ v) → IsAbove y (marks_of z)
above_new [] [] [] above count each = tt
above_new [] [] (u ∷ z) above count each = absurd (omega (arith, count))
above_new [] (w ∷ x) z above count each = absurd above
above_new (row ∷ y) [] z above count each = absurd above
above_new (row ∷ y) (w ∷ x) [] above count each = absurd (omega (arith, count))
above_new ([] ∷ y) (w ∷ x) (u ∷ z) above count each = absurd above.0
above_new ((n ∷ []) ∷ y) (w ∷ x) (u ∷ z) above count each = ((each 0 u n refl refl, tt), above_new y x z above.1 (omega (arith, count)) (λ d a b first second. each (suc d) a b first second))
above_new ((n ∷ (m ∷ ns)) ∷ y) (w ∷ x) (u ∷ z) above count each = absurd above.0.1

rises_less : (from w n : ℕ) → from ≤ w → max from n ≤ max w n
rises_less from w n le = omega (arith, le)

-- the links of a cell with this level

module _ (rows : List (List Link)) (x : List ℕ) (c : ℕ) (from : ℕ) (is : slice_get x c ≡ Some from) where
  all_rise : IsAbove (marks_of (all_raised x from (links_at rows c))) (marks_of x)
  all_rise = above_from x (all_raised x from (links_at rows c)) (all_length x from (links_at rows c)) (λ d u v old new.
      let r = all_cases x from (links_at rows c) d v new in
      subst (λ k. k ≤ v) (same_Some r.0 u (sym r.1 ∙ old)) r.2)

  -- what a closed assignment that lies above has at the target of a link
  asked_under : (y : CellNumbers) → AreAllMet (are_links_met rows) y → IsAbove y (marks_of x) → (l : Link) (v : ℕ) → Contains (links_at rows c) l → slice_get (numbers_of y) l.to ≡ Some v → max from l.level ≤ v
  asked_under y closed above l v has at =
      let own = above_at y x c from above is in
      let inside = slice_get_within x c from is in
      let count = length-above y (marks_of x) above ∙ length-map x (λ (u : ℕ). u ∷ []) in
      let met : are_links_met rows y c ≡ true = closed c (subst (λ n. c < n) (sym count) inside) in
      let there : are_met (numbers_of y) own.0 (links_at rows c) ≡ true = sym (ap (λ o. are_met_from (numbers_of y) o (links_at rows c)) own.1) ∙ met in
      le_trans {n = max from l.level} {m = max own.0 l.level} {k = v} (rises_less from own.0 l.level own.2) (met_at (numbers_of y) own.0 (links_at rows c) l v there has at)

  all_under : (y : CellNumbers) → AreAllMet (are_links_met rows) y → IsAbove y (marks_of x) → IsAbove y (marks_of (all_raised x from (links_at rows c)))
  all_under y closed above = above_new y x (all_raised x from (links_at rows c)) above (all_length x from (links_at rows c)) (λ d u v new at.
      let r = all_cases x from (links_at rows c) d u new in
      elim r.3 as (λ _. u ≤ v) [
        | inl old ↦ let o = above_at y x d r.0 above r.1 in
            let le : r.0 ≤ v = subst (λ k. r.0 ≤ k) (same_Some o.0 v (sym o.1 ∙ at)) o.2 in
            subst (λ k. k ≤ v) (sym old) le
        | inr asked ↦ subst (λ k. k ≤ v) (sym asked.3) (asked_under y closed above asked.0 v asked.1 (ap (slice_get (numbers_of y)) asked.2 ∙ at))
      ])

  -- the demands of cells to which no link leads
  all_others : (other : ℕ) → leads_to (links_at rows c) other ≡ false → (other ≢ c → are_links_met rows (marks_of x) other ≡ true) → are_links_met rows (marks_of (all_raised x from (links_at rows c))) other ≡ true
  all_others other away before = met_is rows new other ∙ ap (λ o. are_met_from new o (links_at rows other)) (all_other x from (links_at rows c) other away) ∙ by_cell (other == c) refl
    where
      new : List ℕ
      new = all_raised x from (links_at rows c)

      still : (o : Option ℕ) → are_met_from x o (links_at rows other) ≡ true → are_met_from new o (links_at rows other) ≡ true
      still None met = refl
      still (Some u) met = met_grows x new u (links_at rows other) (λ d v at. let r = all_cases x from (links_at rows c) d v at in (r.0, r.1, r.2)) met

      by_cell : (b : Bool) → (other == c) ≡ b → are_met_from new (slice_get x other) (links_at rows other) ≡ true
      by_cell true e =
          let same = eqb-true other c e in
          let own : are_met_from new (slice_get x c) (links_at rows c) ≡ true = ap (λ o. are_met_from new o (links_at rows c)) is ∙ met_from new from (links_at rows c) (λ l v has at. all_has x from (links_at rows c) l v has at) in
          subst (λ k. are_met_from new (slice_get x k) (links_at rows k) ≡ true) (sym same) own
      by_cell false e = still (slice_get x other) (sym (met_is rows x other) ∙ before (eqb-false other c e))

  all_reached : (start : List ℕ) → ((d u : ℕ) → slice_get x d ≡ Some u → ReachedUnder rows start d u) → (d u : ℕ) → slice_get (all_raised x from (links_at rows c)) d ≡ Some u → ReachedUnder rows start d u
  all_reached start old d u new =
      let r = all_cases x from (links_at rows c) d u new in
      elim r.3 as (λ _. ReachedUnder rows start d u) [
        | inl kept ↦ subst (λ k. ReachedUnder rows start d k) (sym kept) (old d r.0 r.1)
        | inr asked ↦ subst (λ k. ReachedUnder rows start d k) (sym asked.3) (subst (λ k. ReachedUnder rows start k (max from asked.0.level)) asked.2 (over_link asked.0 (old c from is) asked.1))
      ]

-- the same of a cell that may not be there

-- what raising the links of a cell comes to
pub record Raised (rows : List (List Link)) (x : List ℕ) (c : ℕ) (new : List ℕ) : Type 0 where
  pub count : length new ≡ length x
  pub rises : IsAbove (marks_of new) (marks_of x)
  pub under : (y : CellNumbers) → AreAllMet (are_links_met rows) y → IsAbove y (marks_of x) → IsAbove y (marks_of new)
  pub others : (other : ℕ) → leads_to (links_at rows c) other ≡ false → (other ≢ c → are_links_met rows (marks_of x) other ≡ true) → are_links_met rows (marks_of new) other ≡ true
  pub reached : (start : List ℕ) → ((d u : ℕ) → slice_get x d ≡ Some u → ReachedUnder rows start d u) → (d u : ℕ) → slice_get new d ≡ Some u → ReachedUnder rows start d u

pub raised_is : (rows : List (List Link)) (x : List ℕ) (c : ℕ) → Raised rows x c (raised_from x (slice_get x c) (links_at rows c))
raised_is rows x c = by_level (slice_get x c) refl
  where
    no_more : (d u v : ℕ) → slice_get x d ≡ Some u → slice_get x d ≡ Some v → u ≤ v
    no_more d u v first second = let same : u ≡ v = same_Some u v (sym first ∙ second) in omega (arith, same)

    by_level : (o : Option ℕ) → slice_get x c ≡ o → Raised rows x c (raised_from x o (links_at rows c))
    by_level None e = record {
      count = refl;
      rises = above_from x x refl no_more;
      under = λ y closed above. above;
      others = λ other away before. by_cell other before (other == c) refl;
      reached = λ start old d u at. old d u at;
    }
      where
        by_cell : (other : ℕ) → (other ≢ c → are_links_met rows (marks_of x) other ≡ true) → (b : Bool) → (other == c) ≡ b → are_links_met rows (marks_of x) other ≡ true
        by_cell other before true k = met_is rows x other ∙ ap (λ o. are_met_from x o (links_at rows other)) (ap (slice_get x) (eqb-true other c k) ∙ e)
        by_cell other before false k = before (eqb-false other c k)
    by_level (Some from) e = record {
      count = all_length x from (links_at rows c);
      rises = all_rise rows x c from e;
      under = λ y closed above. all_under rows x c from e y closed above;
      others = λ other away before. all_others rows x c from e other away before;
      reached = λ start old d u at. all_reached rows x c from e start old d u at;
    }

pub same_unless : (x : List ℕ) (o : Option ℕ) (ls : List Link) → are_met_from x o ls ≡ true → raised_from x o ls ≡ x
same_unless x None ls met = refl
same_unless x (Some from) ls met = all_same x from ls met

-- a cell without links has its demand met
pub none_asks : (x : List ℕ) (o : Option ℕ) → are_met_from x o [] ≡ true
none_asks x None = refl
none_asks x (Some from) = refl

-- closed levels are greatest
pub closed_greatest : (rows : List (List Link)) (start x : List ℕ) → AreAllMet (are_links_met rows) (marks_of x) → length x ≡ length start → ((c u : ℕ) → slice_get x c ≡ Some u → ReachedUnder rows start c u) → AreGreatest rows start x
closed_greatest rows start x closed count reached = record {
  count = count;
  reached = reached;
  closed = λ c u v link own has at.
      let inside : c < length (marks_of x) = subst (λ n. c < n) (sym (length-map x (λ (k : ℕ). k ∷ []))) (slice_get_within x c u own) in
      let met : are_met_from x (slice_get x c) (links_at rows c) ≡ true = sym (met_is rows x c) ∙ closed c inside in
      met_at x u (links_at rows c) link v (sym (ap (λ o. are_met_from x o (links_at rows c)) own) ∙ met) has at;
}

pub settled : {E : Type 0} (r : Result Unit E) (rows : List (List Link)) (start x : List ℕ) → length x ≡ length start → ((c u : ℕ) → slice_get x c ≡ Some u → ReachedUnder rows start c u) → OnOk r (AreAllMet (are_links_met rows) (marks_of x)) → OnOk r (AreGreatest rows start x)
settled r rows start x count reached closed = on_ok r (λ h. closed_greatest rows start x h count reached) closed
  where
    on_ok : {A E F G : Type 0} (r : Result A E) → (F → G) → OnOk r F → OnOk r G
    on_ok (Ok y) f h = f h
    on_ok (Err e) f h = tt

-- the row of a cell that is there lists the cells that its links lead to

listed_by : (to reader : ℕ) (more : Bool) (targets : List ℕ) (b : Bool) → (to == reader) ≡ b → (b || more) ≡ true → (more ≡ true → Contains targets reader) → Contains (to ∷ targets) reader
listed_by to reader more targets true e told later = (0, omega arith, eqb-true to reader e)
listed_by to reader more targets false e told later = contains_later to reader targets (later told)

listed : (ls : List Link) (reader : ℕ) → leads_to ls reader ≡ true → Contains (map (λ (l : Link). l.to) ls) reader
listed [] reader leads = absurd (let e : false ≡ true = leads in cc)
listed (l ∷ ls) reader leads = listed_by l.to reader (leads_to ls reader) (map (λ (z : Link). z.to) ls) (l.to == reader) refl leads (λ more. listed ls reader more)

pub reading : (rows lent : List (List Link)) (c : ℕ) (row ls : List Link) (targets read : List ℕ) → lent ≡ rows → c < length lent → row ≡ get_or lent c row → ls ≡ row → targets ≡ map (λ (l : Link). l.to) ls → read ≡ targets
    → (reader : ℕ) → leads_to (links_at rows c) reader ≡ true → Contains read reader
reading rows lent c row ls targets read same below is view targets_are read_is reader leads =
    let at : slice_get rows c ≡ Some ls = ap (λ l. slice_get l c) (sym same) ∙ slice_get-get_or lent c row below ∙ ap Some (sym is) ∙ ap Some (sym view) in
    let here : leads_to ls reader ≡ true = sym (ap (λ o. leads_to (unwrap_or o []) reader) at) ∙ leads in
    subst (λ l. Contains l reader) (sym (read_is ∙ targets_are)) (listed ls reader here)

-- One turn.

-- what a cell that is asked comes to
pub record Turn (rows : List (List Link)) (x : List ℕ) (c : ℕ) (new : List ℕ) (rose : Bool) : Type 0 where
  pub exact : rose ≡ not (are_links_met rows (marks_of x) c)
  pub kept : rose ≡ false → new ≡ x
  pub raised : Raised rows x c new
  pub keeps : (other : List (List Link)) (start : List ℕ) → rows ≡ other → ((d u : ℕ) → slice_get x d ≡ Some u → ReachedUnder other start d u) → (d u : ℕ) → slice_get new d ≡ Some u → ReachedUnder other start d u

turn_is : (rows : List (List Link)) (x : List ℕ) (c : ℕ) (rose : Bool) → rose ≡ not (are_met_from x (slice_get x c) (links_at rows c)) → Turn rows x c (raised_from x (slice_get x c) (links_at rows c)) rose
turn_is rows x c rose told = record {
  exact = told ∙ ap not (sym (met_is rows x c));
  kept = λ calm. same_unless x (slice_get x c) (links_at rows c) (not-false (are_met_from x (slice_get x c) (links_at rows c)) (sym told ∙ calm));
  raised = raised_is rows x c;
  keeps = λ other start same old. subst (λ r. (d u : ℕ) → slice_get (raised_from x (slice_get x c) (links_at rows c)) d ≡ Some u → ReachedUnder r start d u) same
      ((raised_is rows x c).reached start (subst (λ r. (d u : ℕ) → slice_get x d ≡ Some u → ReachedUnder r start d u) (sym same) old));
}

-- what is written back whole
written : (new rest : List ℕ) (n : ℕ) → length new ≡ n → take n (new ++ rest) ≡ new
written [] rest zero size = refl
written [] rest (suc n) size = absurd (omega (arith, size))
written (a ∷ new) rest zero size = absurd (omega (arith, size))
written (a ∷ new) rest (suc n) size = ap (λ xs. a ∷ xs) (written new rest n (omega (arith, size)))

pub turn : (rows lent : List (List Link)) (c : ℕ) (row ls used : List Link) (x read after : List ℕ) (len : ℕ) (rose : Bool) → lent ≡ rows → c < length lent → row ≡ get_or lent c row → ls ≡ row → used ≡ ls → read ≡ x
    → rose ≡ not (are_met_from read (slice_get read c) used) → after ≡ raised_from read (slice_get read c) used → len ≡ length x → Turn rows x c (take len (after ++ drop (length after) x)) rose
turn rows lent c row ls used x read after len rose same below is view used_is read_is told after_is size =
    let at : slice_get rows c ≡ Some row = ap (λ l. slice_get l c) (sym same) ∙ slice_get-get_or lent c row below ∙ ap Some (sym is) in
    let links : used ≡ links_at rows c = used_is ∙ view ∙ sym (ap (λ o. unwrap_or o []) at) in
    let exact : rose ≡ not (are_met_from x (slice_get x c) (links_at rows c)) = told ∙ ap (λ y. not (are_met_from y (slice_get y c) used)) read_is ∙ ap (λ l. not (are_met_from x (slice_get x c) l)) links in
    let new : after ≡ raised_from x (slice_get x c) (links_at rows c) = after_is ∙ ap (λ y. raised_from y (slice_get y c) used) read_is ∙ ap (λ l. raised_from x (slice_get x c) l) links in
    let count : length after ≡ len = ap length new ∙ (raised_is rows x c).count ∙ sym size in
    subst (λ y. Turn rows x c y rose) (sym (written after (drop (length after) x) len count ∙ new)) (turn_is rows x c rose exact)

-- links that have got what they ask raise nothing
pub met_stays : (x : List ℕ) (c : ℕ) (ls : List Link) (o : Option ℕ) (from : ℕ) → o ≡ slice_get x c → o ≡ Some from → are_met x from ls ≡ true → x ≡ raised_from x (slice_get x c) ls
met_stays x c ls o from read is met = sym (ap (λ k. raised_from x k ls) (sym read ∙ is) ∙ all_same x from ls met)
