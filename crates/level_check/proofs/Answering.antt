-- The cells that are followed, with their greatest levels, tell whether a program is ordered, and the first bad one.
use Rattle.std.proofs.Common.{◌≡◌, ◌⊎◌, inl, inr, ◌<◌, ◌≤◌, ◌==◌, ℕ, zero, suc, Bool, true, false, List, [], ◌∷◌, length, map, Some, None, Result, Ok, Err, slice_get, refl, sym, ◌∙◌, ap, subst, arith, if◌then◌else◌}
use Rattle.std.specs.Prelude.{Option, Contains, max, IfOk, MatchOption}
use Rattle.std.proofs.lemmas.Bool.{eqb-true}
use Rattle.std.proofs.lemmas.Option.{none-some, same_Some, slice_get_within}
use Rattle.std.proofs.Math.Nat.{le_trans}
use Rattle.base.proofs.Lists.{get_below, contains_cases, contains_later}
use Rattle.paths.specs.Paths.{PathData}
use Rattle.algebra.specs.HeldPaths.{Held, has_path}
use Rattle.core_program.specs.Core.{Program, Method}
use Rattle.rules.specs.Nearest.{LeadTo, near, further, AreNearest}
use Rattle.rules.specs.Rules.{held_in}
use Rattle.rules.specs.Search.{row_at}
use Rattle.levels.specs.Walks.{Comes, Bad, body_visits}
use Rattle.levels.specs.Contexts.{MayRun, Context, at_main, at_start, at_call, IsBadAt, IsOrdered, IsFirstBad}
use Rattle.levels.proofs.GreatestLevels.{AreGreatest as AreAllGreatest, told_bad as bad_above, told_ordered}
use Rattle.level_check.specs.declared.told.Callee.{Callee}
use Rattle.level_check.specs.Told.{Calls, Wrong, itself, any_of, OriginOf, known_to, tell_call}
use Rattle.level_check.specs.Origins.{AreOrigins}
use Rattle.level_check.specs.declared.link.Link.{Link}
use Rattle.level_check.specs.Greatest.{links_at, ReachedUnder, at_start as from_start, over_link, AreGreatest}
use Rattle.level_check.specs.declared.cells.Cell.{Cell}
use Rattle.level_check.specs.declared.bad.Bad.{Bad as BadOne}
use Rattle.level_check.specs.declared.end.LevelEnd.{LevelEnd}
use Rattle.level_check.specs.declared.end.LevelEnd.TheVariants as ends
use Rattle.level_check.specs.Bodies.{body_told, spread_told, callee_told}
use Rattle.level_check.specs.Cells.{set_of, Queue, IsAt, HasCell, HasLevel, runs_of, AreFirstCells, Telling, IsCalled, called_first, called_next, AreAllFollowed}
use Rattle.level_check.specs.Bad.{firsts, all_bads}
use Rattle.level_check.proofs.Shifts.{body_shifts}
use Rattle.level_check.proofs.Named.{of_set, body_named, all_known, own_known, led_known}
use Rattle.level_check.proofs.Tells.{nothing_there, first_there, mapped_from, mapped_to, told_callee, told_set, told_level, told_is_call, told_call, visit_told, told_bad, told_body}
use Rattle.level_check.proofs.Adding.{runs_from, runs_to}
use Rattle.level_check.proofs.FirstLemmas.{firsts_none, firsts_some, bad_in_all, all_in_bad, method_later, place_later, level_lower}

-- a cell with a link is there
links_there : (rows : List (List Link)) (c : ℕ) (link : Link) → Contains (links_at rows c) link → c < length rows
links_there [] c link has = absurd (nothing_there link has)
links_there (row ∷ rows) zero link has = omega arith
links_there (row ∷ rows) (suc c) link has = let r = links_there rows c link has in omega (arith, r)

module _ (P : Program) (rel : ℕ → List PathData) (level : ℕ → ℕ) (rows : List (List ℕ)) (origin : OriginOf) (nearest : AreNearest P rows) (exact : AreOrigins rel (row_at rows) origin)
    (led : (m k : ℕ) → LeadTo rows m k → MayRun P k m) where
  -- what is told of callees
  abbrev pub tell : Telling
  tell = callee_told P rel level (row_at rows) origin

  -- the method itself, or one that the rows lead to
  abbrev IsUnder : ℕ → ℕ → Type 0
  IsUnder m k = (k ≡ m) ⊎ LeadTo rows m k

  may_run : (m k : ℕ) → IsUnder m k → MayRun P k m
  may_run m k (inl same) = inl same
  may_run m k (inr leads) = led m k leads

  is_under : (m k : ℕ) → MayRun P k m → IsUnder m k
  is_under m k (inl same) = inl same
  is_under m k (inr over) = inr (nearest.lead m k over)

  lead_on : (m k : ℕ) → Contains (row_at rows m) k → (j : ℕ) → LeadTo rows k j → LeadTo rows m j
  lead_on m k first j (near has) = further k (near first) has
  lead_on m k first j (further middle leads has) = further middle (lead_on m k first middle leads) has

  under_next : (m k : ℕ) → Contains (row_at rows m) k → (j : ℕ) → IsUnder k j → LeadTo rows m j
  under_next m k first j (inl same) = subst (λ z. LeadTo rows m z) (sym same) (near first)
  under_next m k first j (inr leads) = lead_on m k first j leads

  not_empty : (m k : ℕ) → LeadTo rows m k → (length (row_at rows m) == 0) ≡ true → ⊥
  not_empty m k (near (i, below, at)) none = let e = eqb-true (length (row_at rows m)) 0 none in omega (arith, below, e)
  not_empty m k (further middle leads has) none = not_empty m middle leads none

  -- what a callee and the origins know together is what each that may run knows
  known_under : (callee : ℕ) (known : ℕ → Held) → (S : Held) × (known ≡ of_set rel S) → (k : ℕ) → IsUnder callee k → held_in (rel k) (known_to callee origin known) ≡ known k
  known_under callee known (S, is) k run = subst (λ f. held_in (rel k) (known_to callee origin f) ≡ f k) (sym is) (all_known rel callee origin k S (by_run run))
    where
      by_run : IsUnder callee k → (p : PathData) → has_path (rel k) p ≡ true → known_to callee origin (λ j. has_path (rel j)) p ≡ true
      by_run (inl same) p own = own_known rel rows origin exact callee p (subst (λ z. has_path (rel z) p ≡ true) same own)
      by_run (inr leads) p own = led_known rel rows origin exact callee k leads p own

  -- the contexts of a callee: that of the method alone, or one of each that may run, with what it knows of the set
  abbrev AreContexts : Bool → ℕ → Held → ℕ → Type 0
  AreContexts true m H u = Context P rel level m H u
  AreContexts false m H u = (k : ℕ) → IsUnder m k → Context P rel level k (held_in (rel k) H) u

  abbrev HasContexts : Callee → Held → ℕ → Type 0
  HasContexts c H u = AreContexts c.alone c.method H u

  -- what the walk of a context calls has contexts
  arrives : (m : ℕ) (H : Held) (u : ℕ) (method : Method) (callee : ℕ) (known : ℕ → Held) (w : ℕ) (c : Callee) (K : Held) → Context P rel level m H u → slice_get P.methods m ≡ Some method
      → Contains (body_visits P rel level method H 0) (Comes callee known w) → tell_call (row_at rows) origin callee known w ≡ Calls c K w → HasContexts c K (max u w)
  arrives m H u method callee known w c K context is visit tells = by_row (length (row_at rows callee) == 0) tells
    where
      later : Contains (body_visits P rel level method H u) (Comes callee known (max u w))
      later = (body_shifts u P rel level method H).up callee known w visit

      each : (k : ℕ) → IsUnder callee k → Context P rel level k (held_in (rel k) (known_to callee origin known)) (max u w)
      each k run =
          subst (λ S. Context P rel level k S (max u w)) (sym (known_under callee known (body_named P rel level method H 0 callee known w visit) k run))
          (at_call method callee known (max u w) context is later (may_run callee k run))

      by_row : (b : Bool) → (if b then Calls (itself callee) (known callee) w else Calls (any_of callee) (known_to callee origin known) w) ≡ Calls c K w → HasContexts c K (max u w)
      by_row true same =
          subst (λ z. HasContexts z K (max u w)) (ap told_callee same) (subst (λ S. Context P rel level callee S (max u w)) (ap told_set same) (at_call method callee known (max u w) context is later (inl refl)))
      by_row false same = subst (λ z. HasContexts z K (max u w)) (ap told_callee same) (subst (λ S. AreContexts false callee S (max u w)) (ap told_set same) each)

  from_level : (u w : ℕ) → 0 ≡ w → u ≡ max u w
  from_level u w is = omega (arith, is)

  -- so has what is told of a callee that has contexts
  told_contexts : (b : Bool) (m : ℕ) (H : Held) (u : ℕ) (c : Callee) (K : Held) (w : ℕ) → AreContexts b m H u → Contains (tell (record { method = m; alone = b }) H 0) (Calls c K w) → HasContexts c K (max u w)
  told_contexts true m H u c K w context has =
      let body = told_body (row_at rows) origin P rel level (slice_get P.methods m) H 0 (Calls c K w) has in
      let call = told_call (row_at rows) origin (body_visits P rel level body.0 H 0) c K w body.2 in
      arrives m H u body.0 call.callee call.known w c K context body.1 call.visit call.tells
  told_contexts false m H u c K w each has = elim (contains_cases (Calls (itself m) (held_in (rel m) H) 0) (Calls c K w) (map (λ k. Calls (any_of k) H 0) (row_at rows m)) has) as (λ _. HasContexts c K (max u w)) [
    | inl same ↦
        subst (λ n. HasContexts c K n) (from_level u w (ap told_level same))
        (subst (λ z. HasContexts z K u) (ap told_callee same) (subst (λ S. Context P rel level m S u) (ap told_set same) (each m (inl refl))))
    | inr later ↦
        let r = mapped_from (λ k. Calls (any_of k) H 0) (row_at rows m) (Calls c K w) later in
        subst (λ n. HasContexts c K n) (from_level u w (ap told_level r.2))
        (subst (λ z. HasContexts z K u) (ap told_callee r.2) (subst (λ S. AreContexts false r.0 S u) (ap told_set r.2) (λ j run. each j (inr (under_next m r.0 r.1 j run)))))
  ]

  -- nothing bad is told of any that may run
  none_wrong : (m : ℕ) (H : Held) (p c u : ℕ) → Contains (spread_told rel (row_at rows) m H) (Wrong p c u) → ⊥
  none_wrong m H p c u has = elim (contains_cases (Calls (itself m) (held_in (rel m) H) 0) (Wrong p c u) (map (λ k. Calls (any_of k) H 0) (row_at rows m)) has) as (λ _. ⊥) [
    | inl same ↦ absurd (let e : true ≡ false = ap told_is_call same in cc)
    | inr later ↦ let r = mapped_from (λ k. Calls (any_of k) H 0) (row_at rows m) (Wrong p c u) later in absurd (let e : true ≡ false = ap told_is_call r.2 in cc)
  ]

  module _ (start : Queue) (begun : AreFirstCells (P.main ∷ runs_of P.classes) start) where
    first_contexts : (c u : ℕ) (cell : Cell) → HasLevel start c cell u → HasContexts cell.callee (set_of cell) u
    first_contexts c u cell has =
        let r = begun.only c u cell has in
        subst (λ z. HasContexts z (set_of cell) u) (sym r.2)
        (subst (λ n. Context P rel level r.0 (set_of cell) n) (sym r.4) (subst (λ S. Context P rel level r.0 S 0) (sym r.3) (by_method r.0 (contains_cases P.main r.0 (runs_of P.classes) r.1))))
      where
        by_method : (m : ℕ) → (P.main ≡ m) ⊎ Contains (runs_of P.classes) m → Context P rel level m (λ q. false) 0
        by_method m (inl same) = subst (λ n. Context P rel level n (λ q. false) 0) same at_main
        by_method m (inr run) = at_start (runs_from P.classes m run)

    -- what is called has contexts
    called_contexts : (c : Callee) (H : Held) (u : ℕ) → IsCalled tell start c H u → HasContexts c H u
    called_contexts c H u (called_first {c = n} {u = v} cell has) = first_contexts n v cell has
    called_contexts c H u (called_next {m = n} {u = v} {H = S} k K w before has) = told_contexts n.alone n.method S v k K w (called_contexts n S v before) has

    module _ (q : Queue) (rows_of_links : List (List Link)) (followed : AreAllFollowed tell start q rows_of_links) (x : List ℕ) (greatest : AreGreatest rows_of_links q.levels x) where
      -- a cell is called under each level that is reached over links
      reached_called : (c u : ℕ) (cell : Cell) → slice_get q.cells c ≡ Some cell → ReachedUnder rows_of_links q.levels c u → IsCalled tell start cell.callee (set_of cell) u
      reached_called c u cell is (from_start under) = followed.reached.levels c u cell (record { there = is; under = under })
      reached_called c u cell is (over_link {c = d} {u = v} link before has) =
          let inside = links_there rows_of_links d link has in
          let caller = get_below q.cells d (within d (length rows_of_links) (length q.levels) (length q.cells) inside followed.all followed.reached.even) in
          let own = reached_called d v caller.0 caller.1 before in
          let call = (followed.reached.links d caller.0 inside caller.1).only link has in
          let same : call.0 ≡ cell = same_Some call.0 cell (sym call.1 ∙ is) in
          subst (λ (z : Cell). IsCalled tell start z.callee (set_of z) (max v link.level)) same (called_next call.0.callee (set_of call.0) link.level own call.2)
        where
          within : (d r l k : ℕ) → d < r → r ≡ l → l ≡ k → d < k
          within d r l k one two three = omega (arith, one, two, three)

      -- a cell is of this callee with this set, and its greatest level is this one
      abbrev IsUp : Callee → Held → ℕ → Type 0
      IsUp n H u = (c : ℕ) × IsAt q.cells c n H × (slice_get x c ≡ Some u)

      abbrev G : ℕ → Held → ℕ → Type 0
      G m H u = IsUp (itself m) H u

      g_context : (m : ℕ) (H : Held) (u : ℕ) → G m H u → Context P rel level m H u
      g_context m H u (c, at, under) =
          subst (λ z. HasContexts z H u) at.of_callee (subst (λ S. HasContexts at.cell.callee S u) at.set
          (called_contexts at.cell.callee (set_of at.cell) u (reached_called c u at.cell at.there (greatest.reached c u under))))

      -- each cell has a greatest level
      levelled : (c : ℕ) (n : Callee) (H : Held) → IsAt q.cells c n H → (v : ℕ) × (slice_get x c ≡ Some v)
      levelled c n H at = get_below x c (within c (length q.cells) (length q.levels) (length x) (slice_get_within q.cells c at.cell at.there) followed.reached.even greatest.count)
        where
          within : (c k l n : ℕ) → c < k → l ≡ k → n ≡ l → c < n
          within c k l n one two three = omega (arith, one, two, three)

      g_cell : (m : ℕ) (H : Held) → HasCell q.cells (itself m) H → (v : ℕ) × G m H v
      g_cell m H (c, at) = let v = levelled c (itself m) H at in (v.0, (c, at, v.1))

      begun_cell : (m : ℕ) → Contains (P.main ∷ runs_of P.classes) m → HasCell q.cells (itself m) (λ p. false)
      begun_cell m has = let r = begun.each m has in (r.0, record { cell = r.1.cell; there = followed.reached.kept r.0 r.1.cell r.1.there; of_callee = r.1.of_callee; set = r.1.set })

      -- what is told of a cell is a cell, with a level that is high enough
      told_up : (n : Callee) (H : Held) (u : ℕ) → IsUp n H u → (k : Callee) (K : Held) (w : ℕ) → Contains (tell n H 0) (Calls k K w) → (v : ℕ) × (max u w ≤ v) × IsUp k K v
      told_up n H u (c, at, under) k K w has =
          let there = slice_get_within q.cells c at.cell at.there in
          let links = followed.reached.links c at.cell (within c (length q.cells) (length q.levels) (length rows_of_links) there followed.reached.even followed.all) at.there in
          let own : Contains (tell at.cell.callee (set_of at.cell) 0) (Calls k K w) =
          subst (λ S. Contains (tell at.cell.callee S 0) (Calls k K w)) (sym at.set) (subst (λ z. Contains (tell z H 0) (Calls k K w)) (sym at.of_callee) has) in
          let link = links.each k K w own in
          let target = levelled link.0.to k K link.3 in
          let high = greatest.closed c u target.0 link.0 under link.1 target.1 in
          (target.0, subst (λ l. max u l ≤ target.0) link.2 high, (link.0.to, link.3, target.1))
        where
          within : (c k l r : ℕ) → c < k → l ≡ k → r ≡ l → c < r
          within c k l r one two three = omega (arith, one, two, three)

      no_lower : (u v : ℕ) → max u 0 ≤ v → u ≤ v
      no_lower u v high = omega (arith, high)

      -- of any that may run: each that overrides next, each that the rows lead to, and each alone
      next_up : (m k : ℕ) (T : Held) (u : ℕ) → IsUp (any_of m) T u → Contains (row_at rows m) k → (v : ℕ) × (u ≤ v) × IsUp (any_of k) T v
      next_up m k T u up has =
          let told = contains_later (Calls (itself m) (held_in (rel m) T) 0) (Calls (any_of k) T 0) (map (λ j. Calls (any_of j) T 0) (row_at rows m)) (mapped_to (λ j. Calls (any_of j) T 0) (row_at rows m) k has) in
          let r = told_up (any_of m) T u up (any_of k) T 0 told in
          (r.0, no_lower u r.0 r.1, r.2)

      led_up : (m k : ℕ) (T : Held) (u : ℕ) → IsUp (any_of m) T u → LeadTo rows m k → (v : ℕ) × (u ≤ v) × IsUp (any_of k) T v
      led_up m k T u up (near has) = next_up m k T u up has
      led_up m k T u up (further middle leads has) =
          let r = led_up m middle T u up leads in
          let s = next_up middle k T r.0 r.2 has in
          (s.0, le_trans {n = u} {m = r.0} {k = s.0} r.1 s.1, s.2)

      itself_up : (m : ℕ) (T : Held) (u : ℕ) → IsUp (any_of m) T u → (v : ℕ) × (u ≤ v) × G m (held_in (rel m) T) v
      itself_up m T u up =
          let r = told_up (any_of m) T u up (itself m) (held_in (rel m) T) 0 (first_there (Calls (itself m) (held_in (rel m) T) 0) (map (λ j. Calls (any_of j) T 0) (row_at rows m))) in
          (r.0, no_lower u r.0 r.1, r.2)

      own_up : (m k : ℕ) (T : Held) (u : ℕ) → IsUp (any_of m) T u → IsUnder m k → (v : ℕ) × (u ≤ v) × G k (held_in (rel k) T) v
      own_up m k T u up (inl same) = subst (λ z. (v : ℕ) × (u ≤ v) × G z (held_in (rel z) T) v) (sym same) (itself_up m T u up)
      own_up m k T u up (inr leads) =
          let r = led_up m k T u up leads in
          let s = itself_up k T r.0 r.2 in
          (s.0, le_trans {n = u} {m = r.0} {k = s.0} r.1 s.1, s.2)

      g_call : (m : ℕ) (H : Held) (u : ℕ) (method : Method) → G m H u → slice_get P.methods m ≡ Some method → (callee : ℕ) (known : ℕ → Held) (later : ℕ) → Contains (body_visits P rel level method H u) (Comes callee known later)
          → (k : ℕ) → MayRun P k callee → (v : ℕ) × (later ≤ v) × G k (known k) v
      g_call m H u method up is callee known later has k run = by_row (length (row_at rows callee) == 0) refl told
        where
          low : (w : ℕ) × (later ≡ max u w) × Contains (body_visits P rel level method H 0) (Comes callee known w)
          low = (body_shifts u P rel level method H).down callee known later has

          told : Contains (tell (itself m) H 0) (tell_call (row_at rows) origin callee known low.0)
          told =
              subst (λ o. Contains (body_told P rel level (tell_call (row_at rows) origin) o H 0) (tell_call (row_at rows) origin callee known low.0)) (sym is)
              (visit_told (row_at rows) origin (body_visits P rel level method H 0) (Comes callee known low.0) low.2)

          high : (v : ℕ) → max u low.0 ≤ v → later ≤ v
          high v above = subst (λ n. n ≤ v) (sym low.1) above

          alone_runs : (length (row_at rows callee) == 0) ≡ true → IsUnder callee k → k ≡ callee
          alone_runs none (inl same) = same
          alone_runs none (inr leads) = absurd (not_empty callee k leads none)

          by_row : (b : Bool) → (length (row_at rows callee) == 0) ≡ b → Contains (tell (itself m) H 0) (if b then Calls (itself callee) (known callee) low.0 else Calls (any_of callee) (known_to callee origin known) low.0)
              → (v : ℕ) × (later ≤ v) × G k (known k) v
          by_row true none has =
              let r = told_up (itself m) H u up (itself callee) (known callee) low.0 has in
              subst (λ z. (v : ℕ) × (later ≤ v) × G z (known z) v) (sym (alone_runs none (is_under callee k run))) (r.0, high r.0 r.1, r.2)
          by_row false some has =
              let r = told_up (itself m) H u up (any_of callee) (known_to callee origin known) low.0 has in
              let s = own_up callee k (known_to callee origin known) r.0 r.2 (is_under callee k run) in
              subst (λ S. (v : ℕ) × (later ≤ v) × G k S v) (known_under callee known (body_named P rel level method H 0 callee known low.0 low.2) k (is_under callee k run))
              (s.0, le_trans {n = later} {m = r.0} {k = s.0} (high r.0 r.1) s.1, s.2)

      g_greatest : AreAllGreatest P rel level G
      g_greatest = record {
        contexts = λ m H u told. g_context m H u told;
        main = g_cell P.main (λ p. false) (begun_cell P.main (first_there P.main (runs_of P.classes)));
        start = λ m run. g_cell m (λ p. false) (begun_cell m (contains_later P.main m (runs_of P.classes) (runs_to P.classes m run.0 run.1 run.2 run.3)));
        calls = λ m H u method told is callee known later has k run. g_call m H u method told is callee known later has k run;
      }

      -- a bad one of a cell's walk is among all
      bad_among : (m : ℕ) (H : Held) (at : ℕ) (method : Method) (place class v : ℕ) → G m H at → slice_get P.methods m ≡ Some method → Contains (body_visits P rel level method H at) (Bad place class v)
          → Contains (all_bads tell q.cells x) (record { method = m; place = place; class = class; under = v })
      bad_among m H at method place class v (c, cell, under) is has =
          let wrong : Contains (tell (itself m) H at) (Wrong place class v) =
          subst (λ o. Contains (body_told P rel level (tell_call (row_at rows) origin) o H at) (Wrong place class v)) (sym is) (visit_told (row_at rows) origin (body_visits P rel level method H at) (Bad place class v) has) in
          let own : Contains (tell cell.cell.callee (set_of cell.cell) at) (Wrong place class v) =
          subst (λ S. Contains (tell cell.cell.callee S at) (Wrong place class v)) (sym cell.set) (subst (λ n. Contains (tell n H at) (Wrong place class v)) (sym cell.of_callee) wrong) in
          subst (λ n. Contains (all_bads tell q.cells x) (record { method = n.method; place = place; class = class; under = v })) cell.of_callee (bad_in_all tell q.cells x c at cell.cell place class v cell.there under own)

      -- where there is none the program is ordered
      none_ordered : firsts None (all_bads tell q.cells x) ≡ None → IsOrdered P rel level
      none_ordered none = told_ordered P rel level G g_greatest (λ m H at method place class v told is has. firsts_none (all_bads tell q.cells x) (record { method = m; place = place; class = class; under = v }) none (bad_among m H at method place class v told is has))

      -- the first is the first of all
      some_first : (b : BadOne) → firsts None (all_bads tell q.cells x) ≡ Some b → IsFirstBad P rel level b.method b.class b.under
      some_first b is = by_cell (all_in_bad tell q.cells x b (among b answer.one))
        where
          answer : Rattle.level_check.proofs.FirstLemmas.IsFirst None (all_bads tell q.cells x) b
          answer = firsts_some None (all_bads tell q.cells x) b is

          among : (c : BadOne) → (None ≡ Some c) ⊎ Contains (all_bads tell q.cells x) c → Contains (all_bads tell q.cells x) c
          among c (inl e) = absurd (none-some c e)
          among c (inr has) = has

          above : (k n c u : ℕ) → IsBadAt P rel level k n c u → (v : ℕ) × (u ≤ v) × Contains (all_bads tell q.cells x) (record { method = k; place = n; class = c; under = v })
          above k n c u bad =
              let r = bad_above P rel level G g_greatest k n c u bad in
              (r.3, r.7, bad_among k r.1 r.2 r.0 n c r.3 r.4 r.5 r.6)

          by_method : (m : ℕ) (H : Held) (from : ℕ) → b.method ≡ m → G m H from → Contains (tell (itself m) H from) (Wrong b.place b.class b.under) → IsFirstBad P rel level b.method b.class b.under
          by_method m H from of_method up told =
              let body = told_body (row_at rows) origin P rel level (slice_get P.methods m) H from (Wrong b.place b.class b.under) told in
              let visit = told_bad (row_at rows) origin (body_visits P rel level body.0 H from) b.place b.class b.under body.2 in
              record {
                place = b.place;
                bad = (body.0, H, from, subst (λ n. Context P rel level n H from) (sym of_method) (g_context m H from up), ap (slice_get P.methods) of_method ∙ body.1, visit);
                earlier = λ k n c u less bad. let r = above k n c u bad in method_later k n r.0 b.method b.place b.under (answer.before (record { method = k; place = n; class = c; under = r.0 }) (inr r.2)) less;
                first = λ n c u bad. let r = above b.method n c u bad in place_later b.method n r.0 b.method b.place b.under (answer.before (record { method = b.method; place = n; class = c; under = r.0 }) (inr r.2)) refl;
                greatest = λ c u bad. let r = above b.method b.place c u bad in le_trans {n = u} {m = r.0} {k = b.under} r.1 (level_lower b.method b.place r.0 b.method b.place b.under (answer.before (record { method = b.method; place = b.place; class = c; under = r.0 }) (inr r.2)) refl refl);
              }

          by_cell : Rattle.level_check.proofs.FirstLemmas.IsOfCell tell q.cells x b → IsFirstBad P rel level b.method b.class b.under
          by_cell found = by_callee found.cell.callee.alone refl
            where
              by_callee : (o : Bool) → found.cell.callee.alone ≡ o → IsFirstBad P rel level b.method b.class b.under
              by_callee true is =
                  let same : found.cell.callee ≡ itself found.cell.callee.method = λ i. record { method = found.cell.callee.method; alone = is i } in
                  by_method found.cell.callee.method (set_of found.cell) found.from found.of_method (found.at, record { cell = found.cell; there = found.there; of_callee = same; set = refl }, found.level)
                  (subst (λ z. Contains (tell z (set_of found.cell) found.from) (Wrong b.place b.class b.under)) same found.told)
              by_callee false is =
                  let same : found.cell.callee ≡ any_of found.cell.callee.method = λ i. record { method = found.cell.callee.method; alone = is i } in
                  absurd (none_wrong found.cell.callee.method (set_of found.cell) b.place b.class b.under (subst (λ z. Contains (tell z (set_of found.cell) found.from) (Wrong b.place b.class b.under)) same found.told))

      -- so the first of all tells which is the case
      pub answered : (o : Option BadOne) → o ≡ firsts None (all_bads tell q.cells x) → MatchOption o (IsOrdered P rel level) (λ b. IsFirstBad P rel level b.method b.class b.under)
      answered None is = none_ordered (sym is)
      answered (Some b) is = some_first b (sym is)

if_ok : {A E : Type 0} (F G : A → Type 0) (r : Result A E) → ((x : A) → F x → G x) → IfOk r F → IfOk r G
if_ok F G (Ok x) each fact = each x fact
if_ok F G (Err e) each fact = tt

pub answered_by : {E : Type 0} (P : Program) (rel : ℕ → List PathData) (level : ℕ → ℕ) (rows : List (List ℕ)) (origin : OriginOf) → AreNearest P rows → AreOrigins rel (row_at rows) origin → ((m k : ℕ) → LeadTo rows m k → MayRun P k m)
    → (start : Queue) → AreFirstCells (P.main ∷ runs_of P.classes) start → (q : Queue) (links : List (List Link)) → AreAllFollowed (callee_told P rel level (row_at rows) origin) start q links → (x : List ℕ) → AreGreatest links q.levels x
    → (read : List ℕ) → read ≡ x → (r : Result (Option BadOne) E)
    → IfOk r (λ o. o ≡ firsts None (all_bads (callee_told P rel level (row_at rows) origin) q.cells read)) → IfOk r (λ o. MatchOption o (IsOrdered P rel level) (λ b. IsFirstBad P rel level b.method b.class b.under))
answered_by P rel level rows origin nearest exact led start begun q links followed x greatest read same r told =
    if_ok (λ o. o ≡ firsts None (all_bads (callee_told P rel level (row_at rows) origin) q.cells read)) (λ o. MatchOption o (IsOrdered P rel level) (λ b. IsFirstBad P rel level b.method b.class b.under)) r
    (λ o is. answered P rel level rows origin nearest exact led start begun q links followed x greatest o (is ∙ ap (λ y. firsts None (all_bads (callee_told P rel level (row_at rows) origin) q.cells y)) same)) told

-- The end of the search.

pub is_ordered : (P : Program) (rel : ℕ → List PathData) (level : ℕ → ℕ) (o : Option BadOne) → o ≡ None → MatchOption o (IsOrdered P rel level) (λ b. IsFirstBad P rel level b.method b.class b.under) → IsOrdered P rel level
is_ordered P rel level o is fact = subst (λ k. MatchOption k (IsOrdered P rel level) (λ (b : BadOne). IsFirstBad P rel level b.method b.class b.under)) is fact

pub is_first : (P : Program) (rel : ℕ → List PathData) (level : ℕ → ℕ) (o : Option BadOne) (b : BadOne) → o ≡ Some b → MatchOption o (IsOrdered P rel level) (λ b. IsFirstBad P rel level b.method b.class b.under) → IsFirstBad P rel level b.method b.class b.under
is_first P rel level o b is fact = subst (λ k. MatchOption k (IsOrdered P rel level) (λ (b : BadOne). IsFirstBad P rel level b.method b.class b.under)) is fact

-- an ordered program has no first bad one
pub not_both : (P : Program) (rel : ℕ → List PathData) (level : ℕ → ℕ) → IsOrdered P rel level → (m c u : ℕ) → IsFirstBad P rel level m c u → ⊥
not_both P rel level ordered m c u first = ordered m first.place c u first.bad

-- the ends of two first bad ones are one
pub same_end : (m n c d u v : ℕ) (e : LevelEnd) → e ≡ ends.Order m c u → (m ≡ n) × (c ≡ d) × (u ≡ v) → e ≡ ends.Order n d v
same_end m n c d u v e is (method, class, level) = is ∙ (λ i. ends.Order (method i) (class i) (level i))
