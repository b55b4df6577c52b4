-- Cells that are added, and cells that are followed.
use Rattle.std.proofs.Common.{◌≡◌, ◌⊎◌, inl, inr, ◌<◌, ◌≤◌, ℕ, zero, suc, ◌+◌, true, false, List, [], ◌∷◌, ◌++◌, length, length-append, take, map, get_or, Some, None, slice_get, refl, sym, ◌∙◌, ap, subst, arith}
use Rattle.std.specs.Prelude.{Option, Contains, max, nat_lt, unwrap_or}
use Rattle.std.proofs.lemmas.Bool.{ltb-true, ltb-false}
use Rattle.std.proofs.lemmas.List.Elements.{Contains-append_left, Contains-append_right, Contains-append_cases}
use Rattle.std.proofs.lemmas.List.{take_all, map-append}
use Rattle.std.proofs.lemmas.Option.{none-some, same_Some, slice_get_within}
use Rattle.base.proofs.Lists.{at_left, at_either, get_last, get_left, get_below, contains_cases, next_take}
use Rattle.algebra.specs.HeldPaths.{Held, has_path}
use Rattle.core_program.specs.Core.{Class}
use Rattle.level_check.specs.declared.told.Callee.{Callee}
use Rattle.level_check.specs.declared.told.Seen.{Seen}
use Rattle.level_check.specs.Told.{ToldLevel, Calls, Wrong, itself, told_level_of}
use Rattle.level_check.specs.declared.link.Link.{Link}
use Rattle.level_check.specs.Greatest.{links_at}
use Rattle.level_check.specs.declared.cells.Cell.{Cell}
use Rattle.level_check.specs.Cells.{set_of, Queue, IsEven, IsAt, HasCell, HasLevel, IsAdded, run_in, runs_of, AreFirstCells, AreCellLinks, AreAdded, IsLinked, Telling, AreFollowed, IsCalled, called_first, called_next, AreCalledUnder}
use Rattle.level_check.proofs.Tells.{nothing_there, first_there, told_callee, told_set, told_level, told_is_call}

-- Both lists of a queue.

-- what stands at a place stands there in a longer list
abbrev pub Keeps : List Cell → List Cell → Type 0
Keeps old new = (c : ℕ) (cell : Cell) → slice_get old c ≡ Some cell → slice_get new c ≡ Some cell

at_kept : (old new : List Cell) → Keeps old new → (c : ℕ) (m : Callee) (H : Held) → IsAt old c m H → IsAt new c m H
at_kept old new kept c m H at = record { cell = at.cell; there = kept c at.cell at.there; of_callee = at.of_callee; set = at.set }

links_kept : (old new : List Cell) (told : List ToldLevel) (links : List Link) → Keeps old new → AreCellLinks old told links → AreCellLinks new told links
links_kept old new told links kept are = record {
  each = λ m H w has. let r = are.each m H w has in (r.0, r.1, r.2, at_kept old new kept r.0.to m H r.3);
  only = λ link has. let r = are.only link has in (r.0, kept link.to r.0 r.1, r.2);
}

-- what one more cell comes to
record Longer (old : Queue) (m : Callee) (H : Held) (level : ℕ) (new : Queue) : Type 0 where
  pub even : IsEven old → IsEven new
  pub kept : Keeps old.cells new.cells
  pub levels : IsEven old → (c u : ℕ) (cell : Cell) → HasLevel new c cell u → HasLevel old c cell u ⊎ ((cell.callee ≡ m) × (set_of cell ≡ H) × (u ≡ level))

longer : (old : Queue) (m : Callee) (H : Held) (level at : ℕ) (new : Queue) → IsAdded old m H level at new → Longer old m H level new
longer old m H level at new added = elim added.more as (λ _. Longer old m H level new) [
  | inl same ↦ subst (λ q. Longer old m H level q) (sym same) record { even = λ e. e; kept = λ c cell is. is; levels = λ e c u cell has. inl has }
  | inr more ↦ subst (λ q. Longer old m H level q) (sym more.3) (by_more more.0 more.1 more.2)
]
  where
    by_more : (cell : Cell) → cell.callee ≡ m → set_of cell ≡ H → Longer old m H level (record { cells = old.cells ++ cell ∷ []; levels = old.levels ++ level ∷ [] })
    by_more cell method set = record {
      even = λ e. counted (length old.levels) (length old.cells) (length (old.levels ++ level ∷ [])) (length (old.cells ++ cell ∷ [])) e (length-append old.levels (level ∷ [])) (length-append old.cells (cell ∷ []));
      kept = λ c x is. at_left old.cells (cell ∷ []) c x is;
      levels = λ e c u x has. by_place e c u x (at_either old.cells (cell ∷ []) c x has.there) (at_either old.levels (level ∷ []) c u has.under);
    }
      where
        counted : (a b c d : ℕ) → a ≡ b → c ≡ a + 1 → d ≡ b + 1 → c ≡ d
        counted a b c d e f g = omega (arith, e, f, g)

        one : {A : Type 0} (y x : A) (j : ℕ) → slice_get (y ∷ []) j ≡ Some x → y ≡ x
        one y x zero is = same_Some y x is
        one y x (suc j) is = absurd (none-some x is)

        past : (c n j : ℕ) (k : ℕ) → k ≡ n → c ≡ n + j → c < k → ⊥
        past c n j k same is below = omega (arith, same, is, below)

        by_place : IsEven old → (c u : ℕ) (x : Cell) → (slice_get old.cells c ≡ Some x) ⊎ ((j : ℕ) × (c ≡ length old.cells + j) × (slice_get (cell ∷ []) j ≡ Some x))
            → (slice_get old.levels c ≡ Some u) ⊎ ((j : ℕ) × (c ≡ length old.levels + j) × (slice_get (level ∷ []) j ≡ Some u)) → HasLevel old c x u ⊎ ((x.callee ≡ m) × (set_of x ≡ H) × (u ≡ level))
        by_place e c u x (inl is) (inl under) = inl record { there = is; under = under }
        by_place e c u x (inl is) (inr (j, place, last)) = absurd (past c (length old.levels) j (length old.cells) (sym e) place (slice_get_within old.cells c x is))
        by_place e c u x (inr (j, place, last)) (inl under) = absurd (past c (length old.cells) j (length old.levels) e place (slice_get_within old.levels c u under))
        by_place e c u x (inr (j, place, last)) (inr (k, spot, new)) =
            inr (sym (ap (λ (z : Cell). z.callee) (one cell x j last)) ∙ method, sym (ap set_of (one cell x j last)) ∙ set, sym (one level u k new))

-- Cells where threads begin.

begun_none : AreFirstCells [] (record { cells = []; levels = [] })
begun_none = record {
  even = refl;
  each = λ m has. absurd (nothing_there m has);
  only = λ c u cell has. absurd (none-some cell has.there);
}

begun_more : (ms : List ℕ) (old new : Queue) (m at : ℕ) → AreFirstCells ms old → IsAdded old (itself m) (λ p. false) 0 at new → AreFirstCells (ms ++ m ∷ []) new
begun_more ms old new m at begun added =
    let l = longer old (itself m) (λ p. false) 0 at new added in
    record {
      even = l.even begun.even;
      each = λ n has. elim (Contains-append_cases ms (m ∷ []) n has) as (λ _. HasCell new.cells (itself n) (λ p. false)) [
        | inl before ↦ let r = begun.each n before in (r.0, at_kept old.cells new.cells l.kept r.0 (itself n) (λ p. false) r.1)
        | inr last ↦ elim (contains_cases m n [] last) as (λ _. HasCell new.cells (itself n) (λ p. false)) [
          | inl same ↦ subst (λ k. HasCell new.cells (itself k) (λ p. false)) same (at, added.found)
          | inr none ↦ absurd (nothing_there n none)
        ]
      ];
      only = λ c u cell has. elim (l.levels begun.even c u cell has) as (λ _. (n : ℕ) × Contains (ms ++ m ∷ []) n × (cell.callee ≡ itself n) × (set_of cell ≡ λ p. false) × (u ≡ 0)) [
        | inl before ↦ let r = begun.only c u cell before in (r.0, Contains-append_left ms (m ∷ []) r.0 r.1, r.2, r.3, r.4)
        | inr one ↦ (m, Contains-append_right ms (m ∷ []) m (first_there m []), one.0, one.1, one.2)
      ];
    }

-- Cells that a walk calls.

added_none : (from : ℕ) (q : Queue) → IsEven q → AreAdded [] from q q []
added_none from q even = record {
  even = even;
  kept = λ c cell is. is;
  linked = record { each = λ m H w has. absurd (nothing_there _ has); only = λ link has. absurd (nothing_there link has) };
  levels = λ c u cell has. inl has;
}

-- a bad one adds nothing
added_wrong : (told : List ToldLevel) (from : ℕ) (old now : Queue) (links : List Link) (p c u : ℕ) → AreAdded told from old now links → AreAdded (told ++ Wrong p c u ∷ []) from old now links
added_wrong told from old now links p c u added = record {
  even = added.even;
  kept = added.kept;
  linked = record {
    each = λ m H w has. added.linked.each m H w (before (Calls m H w) refl has);
    only = λ link has. let r = added.linked.only link has in (r.0, r.1, Contains-append_left told (Wrong p c u ∷ []) (Calls r.0.callee (set_of r.0) link.level) r.2);
  };
  levels = λ d v cell has. elim (added.levels d v cell has) as (λ _. HasLevel old d cell v ⊎ ((w : ℕ) × Contains (told ++ Wrong p c u ∷ []) (Calls cell.callee (set_of cell) w) × (v ≡ max from w))) [
    | inl first ↦ inl first
    | inr call ↦ inr (call.0, Contains-append_left told (Wrong p c u ∷ []) (Calls cell.callee (set_of cell) call.0) call.1, call.2)
  ];
}
  where
    before : (t : ToldLevel) → told_is_call t ≡ true → Contains (told ++ Wrong p c u ∷ []) t → Contains told t
    before t call has = elim (Contains-append_cases told (Wrong p c u ∷ []) t has) as (λ _. Contains told t) [
      | inl first ↦ first
      | inr last ↦ elim (contains_cases (Wrong p c u) t [] last) as (λ _. Contains told t) [
        | inl same ↦ absurd (let e : false ≡ true = ap told_is_call same ∙ call in cc)
        | inr none ↦ absurd (nothing_there t none)
      ]
    ]

added_call : (told : List ToldLevel) (from : ℕ) (old now new : Queue) (links : List Link) (k : Callee) (K : Held) (w to : ℕ) (link : Link) → link.to ≡ to → link.level ≡ w → AreAdded told from old now links → IsAdded now k K (max from w) to new
    → AreAdded (told ++ Calls k K w ∷ []) from old new (links ++ link ∷ [])
added_call told from old now new links k K w to link leads level added more =
    let l = longer now k K (max from w) to new more in
    record {
      even = l.even added.even;
      kept = λ c cell is. l.kept c cell (added.kept c cell is);
      linked = record {
        each = λ m H v has. elim (Contains-append_cases told (Calls k K w ∷ []) (Calls m H v) has) as (λ _. (z : Link) × Contains (links ++ link ∷ []) z × (z.level ≡ v) × IsAt new.cells z.to m H) [
          | inl before ↦ let r = added.linked.each m H v before in (r.0, Contains-append_left links (link ∷ []) r.0 r.1, r.2, at_kept now.cells new.cells l.kept r.0.to m H r.3)
          | inr last ↦ elim (contains_cases (Calls k K w) (Calls m H v) [] last) as (λ _. (z : Link) × Contains (links ++ link ∷ []) z × (z.level ≡ v) × IsAt new.cells z.to m H) [
            | inl same ↦ (
              link,
              Contains-append_right links (link ∷ []) link (first_there link []),
              level ∙ ap told_level same,
              subst (λ n. IsAt new.cells n m H) (sym leads) (record { cell = more.found.cell; there = more.found.there; of_callee = more.found.of_callee ∙ ap told_callee same; set = more.found.set ∙ ap told_set same }),
            )
            | inr none ↦ absurd (nothing_there _ none)
          ]
        ];
        only = λ z has. elim (Contains-append_cases links (link ∷ []) z has) as (λ _. (cell : Cell) × (slice_get new.cells z.to ≡ Some cell) × Contains (told ++ Calls k K w ∷ []) (Calls cell.callee (set_of cell) z.level)) [
          | inl before ↦ let r = added.linked.only z before in (r.0, l.kept z.to r.0 r.1, Contains-append_left told (Calls k K w ∷ []) (Calls r.0.callee (set_of r.0) z.level) r.2)
          | inr last ↦ elim (contains_cases link z [] last) as (λ _. (cell : Cell) × (slice_get new.cells z.to ≡ Some cell) × Contains (told ++ Calls k K w ∷ []) (Calls cell.callee (set_of cell) z.level)) [
            | inl same ↦ subst (λ (y : Link). (cell : Cell) × (slice_get new.cells y.to ≡ Some cell) × Contains (told ++ Calls k K w ∷ []) (Calls cell.callee (set_of cell) y.level)) same (
              more.found.cell,
              ap (slice_get new.cells) leads ∙ more.found.there,
              Contains-append_right told (Calls k K w ∷ []) (Calls more.found.cell.callee (set_of more.found.cell) link.level) (0, omega arith, λ i. Calls (sym more.found.of_callee i) (sym more.found.set i) (sym level i)),
            )
            | inr none ↦ absurd (nothing_there z none)
          ]
        ];
      };
      levels = λ c u cell has. elim (l.levels added.even c u cell has) as (λ _. HasLevel old c cell u ⊎ ((v : ℕ) × Contains (told ++ Calls k K w ∷ []) (Calls cell.callee (set_of cell) v) × (u ≡ max from v))) [
        | inl before ↦ elim (added.levels c u cell before) as (λ _. HasLevel old c cell u ⊎ ((v : ℕ) × Contains (told ++ Calls k K w ∷ []) (Calls cell.callee (set_of cell) v) × (u ≡ max from v))) [
          | inl first ↦ inl first
          | inr call ↦ inr (call.0, Contains-append_left told (Calls k K w ∷ []) (Calls cell.callee (set_of cell) call.0) call.1, call.2)
        ]
        | inr one ↦ inr (w, Contains-append_right told (Calls k K w ∷ []) (Calls cell.callee (set_of cell) w) (0, omega arith, λ i. Calls (sym one.0 i) (sym one.1 i) w), one.2)
      ];
    }

-- Cells that are followed.

reached_none : (tell : Telling) (q : Queue) → IsEven q → AreCalledUnder tell q q []
reached_none tell q even = record {
  even = even;
  kept = λ c cell is. is;
  levels = λ c u cell has. called_first cell has;
  within = omega arith;
  links = λ c cell below is. absurd (omega (arith, below));
}

-- the links of a row that is there
links_left : (rows : List (List Link)) (row : List Link) (c : ℕ) → c < length rows → links_at (rows ++ row ∷ []) c ≡ links_at rows c
links_left rows row c below = ap (λ o. unwrap_or o []) (get_left rows (row ∷ []) c below)

links_last : (rows : List (List Link)) (row : List Link) → links_at (rows ++ row ∷ []) (length rows) ≡ row
links_last rows row = ap (λ o. unwrap_or o []) (get_last rows row)

pub reached_more : (tell : Telling) (start old new : Queue) (rows : List (List Link)) (row : List Link) (at : ℕ) → AreCalledUnder tell start old rows → at ≡ length rows → at < length old.levels → AreFollowed tell old at new row
    → AreCalledUnder tell start new (rows ++ row ∷ [])
reached_more tell start old new rows row at reached is below followed = by_cell (get_below old.levels at below) (get_below old.cells at (subst (λ n. at < n) reached.even below))
  where
    here_or_before : (c n k : ℕ) → n ≡ k + 1 → c < n → (c < k) ⊎ (c ≡ k)
    here_or_before c n k same less = elim (nat_lt c k) as (λ b. nat_lt c k ≡ b → (c < k) ⊎ (c ≡ k)) [
      | true ↦ λ e. inl (ltb-true c k e)
      | false ↦ λ e. let back = ltb-false c k e in inr (omega (arith, same, less, back))
    ] refl

    by_cell : (u : ℕ) × (slice_get old.levels at ≡ Some u) → (cell : Cell) × (slice_get old.cells at ≡ Some cell) → AreCalledUnder tell start new (rows ++ row ∷ [])
    by_cell (u, under) (cell, there) =
        let added = followed cell u (record { there = there; under = under }) in
        record {
          even = added.even;
          kept = λ c x own. added.kept c x (reached.kept c x own);
          levels = λ c v x has. elim (added.levels c v x has) as (λ _. IsCalled tell start x.callee (set_of x) v) [
            | inl before ↦ reached.levels c v x before
            | inr call ↦ subst (λ k. IsCalled tell start x.callee (set_of x) k) (sym call.2) (called_next x.callee (set_of x) call.0 (reached.levels at u cell (record { there = there; under = under })) call.1)
          ];
          within = still_within at (length rows) (length (rows ++ row ∷ [])) (length new.cells) (length new.levels) is (length-append rows (row ∷ [])) (slice_get_within new.cells at cell (added.kept at cell there)) added.even;
          links = λ c x less own. elim (here_or_before c (length (rows ++ row ∷ [])) (length rows) (length-append rows (row ∷ [])) less) as (λ _. AreCellLinks new.cells (tell x.callee (set_of x) 0) (links_at (rows ++ row ∷ []) c)) [
            | inl earlier ↦
                let older = get_below old.cells c (within c earlier) in
                let same : older.0 ≡ x = same_Some older.0 x (sym (added.kept c older.0 older.1) ∙ own) in
                let are = links_kept old.cells new.cells (tell older.0.callee (set_of older.0) 0) (links_at rows c) added.kept (reached.links c older.0 earlier older.1) in
                subst (λ ls. AreCellLinks new.cells (tell x.callee (set_of x) 0) ls) (sym (links_left rows row c earlier)) (subst (λ (z : Cell). AreCellLinks new.cells (tell z.callee (set_of z) 0) (links_at rows c)) same are)
            | inr last ↦
                let same : cell ≡ x = same_Some cell x (sym (added.kept at cell there) ∙ ap (slice_get new.cells) (is ∙ sym last) ∙ own) in
                let ends : row ≡ links_at (rows ++ row ∷ []) c = sym (links_last rows row) ∙ ap (links_at (rows ++ row ∷ [])) (sym last) in
                subst (λ ls. AreCellLinks new.cells (tell x.callee (set_of x) 0) ls) ends (subst (λ (z : Cell). AreCellLinks new.cells (tell z.callee (set_of z) 0) row) same added.linked)
          ];
        }
      where
        still_within : (a r n k l : ℕ) → a ≡ r → n ≡ r + 1 → a < k → l ≡ k → n ≤ l
        still_within a r n k l one two three four = omega (arith, one, two, three, four)

        within : (c : ℕ) → c < length rows → c < length old.cells
        within c less = further c (length rows) (length old.levels) (length old.cells) less is below reached.even
          where
            further : (c r l k : ℕ) → c < r → at ≡ r → at < l → l ≡ k → c < k
            further c r l k one two three four = omega (arith, one, two, three, four)

-- Methods that run first.

one_run : (o : Option ℕ) (m : ℕ) → Contains (run_in o) m → o ≡ Some m
one_run None m has = absurd (nothing_there m has)
one_run (Some n) m has = elim (contains_cases n m [] has) as (λ _. Some n ≡ Some m) [
  | inl same ↦ ap Some same
  | inr none ↦ absurd (nothing_there m none)
]

pub runs_from : (cs : List Class) (m : ℕ) → Contains (runs_of cs) m → (c : ℕ) × (class : Class) × (slice_get cs c ≡ Some class) × (class.run ≡ Some m)
runs_from [] m has = absurd (nothing_there m has)
runs_from (c ∷ cs) m has = elim (Contains-append_cases (run_in c.run) (runs_of cs) m has) as (λ _. (n : ℕ) × (class : Class) × (slice_get (c ∷ cs) n ≡ Some class) × (class.run ≡ Some m)) [
  | inl here ↦ (0, c, refl, one_run c.run m here)
  | inr later ↦ let r = runs_from cs m later in (suc r.0, r.1, r.2, r.3)
]

pub runs_to : (cs : List Class) (m c : ℕ) (class : Class) → slice_get cs c ≡ Some class → class.run ≡ Some m → Contains (runs_of cs) m
runs_to [] m c class is run = absurd (none-some class is)
runs_to (x ∷ cs) m zero class is run = Contains-append_left (run_in x.run) (runs_of cs) m (subst (λ o. Contains (run_in o) m) (sym (ap (λ (z : Class). z.run) (same_Some x class is) ∙ run)) (first_there m []))
runs_to (x ∷ cs) m (suc c) class is run = Contains-append_right (run_in x.run) (runs_of cs) m (runs_to cs m c class is run)

-- Steps of loops.

pub begun_start : (ms : List ℕ) (q : Queue) → q ≡ record { cells = []; levels = [] } → AreFirstCells (take 0 ms) q
begun_start ms q is = subst (λ z. AreFirstCells [] z) (sym is) begun_none

pub begun_step : (ms : List ℕ) (i m : ℕ) (old new : Queue) (cell : Cell) (level at : ℕ) → i < length ms → m ≡ get_or ms i m → cell.callee ≡ itself m → cell.held.items ≡ [] → level ≡ 0 → AreFirstCells (take i ms) old → IsAdded old cell.callee (set_of cell) level at new
    → AreFirstCells (take (i + 1) ms) new
begun_step ms i m old new cell level at below is method held zero_level begun added =
    subst (λ ns. AreFirstCells ns new) (sym (next_take ms i m below is)) (begun_more (take i ms) old new m at begun
    (subst (λ n. IsAdded old n (λ p. false) 0 at new) method (subst (λ ps. IsAdded old cell.callee (has_path ps) 0 at new) held (subst (λ n. IsAdded old cell.callee (set_of cell) n at new) zero_level added))))

pub begun_all : (ms : List ℕ) (i : ℕ) (q : Queue) → length ms ≤ i → AreFirstCells (take i ms) q → AreFirstCells ms q
begun_all ms i q end begun = subst (λ xs. AreFirstCells xs q) (take_all i ms end) begun

-- one visit more of what was seen
seen_next : (seen : List Seen) (i : ℕ) (s : Seen) → i < length seen → s ≡ get_or seen i s → map told_level_of (take (i + 1) seen) ≡ map told_level_of (take i seen) ++ told_level_of s ∷ []
seen_next seen i s below is = ap (map told_level_of) (next_take seen i s below is) ∙ map-append told_level_of (take i seen) (s ∷ [])

-- one visit more, with what it adds
pub seen_step : (seen : List Seen) (i : ℕ) (s : Seen) (from : ℕ) (old now new : Queue) (links longer : List Link) → i < length seen → s ≡ get_or seen i s → AreAdded (map told_level_of (take i seen)) from old now links → IsLinked (told_level_of s) from now new links longer
    → AreAdded (map told_level_of (take (i + 1) seen)) from old new longer
seen_step seen i s from old now new links longer below is added step = subst (λ ts. AreAdded ts from old new longer) (sym (seen_next seen i s below is)) (by_told (told_level_of s) step)
  where
    by_told : (t : ToldLevel) → IsLinked t from now new links longer → AreAdded (map told_level_of (take i seen) ++ t ∷ []) from old new longer
    by_told (Wrong p c u) (same, kept) = subst (λ ls. AreAdded (map told_level_of (take i seen) ++ Wrong p c u ∷ []) from old new ls) (sym kept) (subst (λ q. AreAdded (map told_level_of (take i seen) ++ Wrong p c u ∷ []) from old q links) (sym same)
        (added_wrong (map told_level_of (take i seen)) from old now links p c u added))
    by_told (Calls k K w) (link, more, level, one) = subst (λ ls. AreAdded (map told_level_of (take i seen) ++ Calls k K w ∷ []) from old new ls) (sym more) (added_call (map told_level_of (take i seen)) from old now new links k K w link.to link refl level added one)

pub added_start : (from : ℕ) (q : Queue) (links : List Link) → links ≡ [] → IsEven q → AreAdded [] from q q links
added_start from q links none even = subst (λ ls. AreAdded [] from q q ls) (sym none) (added_none from q even)

pub reached_start : (tell : Telling) (q : Queue) (rows : List (List Link)) → rows ≡ [] → IsEven q → AreCalledUnder tell q q rows
reached_start tell q rows none even = subst (λ rs. AreCalledUnder tell q q rs) (sym none) (reached_none tell q even)
