-- Tables of what a body comes to: filled, put together of two halves, read at the sets at which a method is asked, and as they stay while
-- lines of the method are added.
use Rattle.std.proofs.Common.{◌≡◌, ℕ, Bool, true, false, List, [], ◌∷◌, ◌++◌, length, refl, sym, ap, subst, ◌∙◌, inl, inr, arith}
use Rattle.std.specs.Prelude.{map, filter, slice_get, if◌then◌else◌}
use Rattle.std.specs.List.{list_all, AllByRecursion}
use Rattle.std.proofs.lemmas.Bool.{or_cases, or_left, or_right}
use Rattle.paths.specs.Paths.{PathData, path_eq}
use Rattle.paths.proofs.PathOrder.{eq_is, eq_itself}
use Rattle.algebra.specs.declared.basic.Basic.{Basic}
use Rattle.algebra.specs.HeldPaths.{Held, has_path}
use Rattle.algebra.specs.Tables.{half_table, count_of_parts}
use Rattle.algebra.proofs.Halves.{half_is, half_sizes}
use Rattle.core_program.specs.Core.{Program}
use Rattle.rules.specs.Called.{method_calls}
use Rattle.rules.specs.Effect.{Assignment}
use Rattle.rules.specs.Near.{MethodPaths, rel_of}
use Rattle.rules.specs.Rules.{IsSubset, AtMost}
use Rattle.rules.specs.Search.{row_at}
use Rattle.rules.proofs.BasicLemmas.{below_chain, below_itself, both_below}
use Rattle.rules.proofs.SetLemmas.{all_has, has_all}
use Rattle.refutation.specs.Bodies.{body_under, BodyFalls, TellsBetween, IsBodyKnown}
use Rattle.refutation.specs.Ends.{KeptAgrees, cells_at}
use Rattle.refutation.specs.Lines.{LineData, floor}
use Rattle.refutation.specs.Overs.{below_each}
use Rattle.refutation.specs.Passes.{subsets_of}
use Rattle.refutation.specs.Tables.{table_entry, said_by}
use Rattle.refutation.specs.Waiting.{Adds, AreBodiesSaid}
use Rattle.refutation.proofs.BodyLemmas.{entry_below, bodies_behind}
use Rattle.refutation.proofs.Cells.{each_filter, each_implies, parts_pass}
use Rattle.refutation.proofs.GroupTables.{half_map}
use Rattle.refutation.proofs.Known.{body_falls}
use Rattle.refutation.proofs.MakerLemmas.{said_is}
use Rattle.refutation.proofs.RiseLemmas.{others_stay}
use Rattle.refutation.proofs.WaitLemmas.{body_same}

-- Paths of two lists.

in_back : (xs ys : List PathData) → IsSubset (has_path ys) (has_path (xs ++ ys))
in_back [] ys q h = h
in_back (x ∷ xs) ys q h = or_right (path_eq x q) (has_path (xs ++ ys) q) (in_back xs ys q h)

both_in : (xs ys : List PathData) (K : Held) → IsSubset (has_path xs) K → IsSubset (has_path ys) K → IsSubset (has_path (xs ++ ys)) K
both_in [] ys K f g q h = g q h
both_in (x ∷ xs) ys K f g q h = elim (or_cases (path_eq x q) (has_path (xs ++ ys) q) h) as (λ _. K q ≡ true) [
  | inl same ↦ f q (or_left (path_eq x q) (has_path xs q) same)
  | inr later ↦ both_in xs ys K (λ r k. f r (or_right (path_eq x r) (has_path xs r) k)) g q later
]

in_front : (xs ys : List PathData) → IsSubset (has_path xs) (has_path (xs ++ ys))
in_front [] ys q h = absurd (let e : false ≡ true = h in cc)
in_front (x ∷ xs) ys q h = elim (or_cases (path_eq x q) (has_path xs q) h) as (λ _. has_path ((x ∷ xs) ++ ys) q ≡ true) [
  | inl same ↦ or_left (path_eq x q) (has_path (xs ++ ys) q) same
  | inr later ↦ or_right (path_eq x q) (has_path (xs ++ ys) q) (in_front xs ys q later)
]

-- one path more is in a set
one_in : (p : PathData) (held : List PathData) (K : Held) → K p ≡ true → IsSubset (has_path held) K → IsSubset (has_path (p ∷ held)) K
one_in p held K has part q h = elim (or_cases (path_eq p q) (has_path held q) h) as (λ _. K q ≡ true) [
  | inl same ↦ subst (λ x. K x ≡ true) (eq_is p q same) has
  | inr later ↦ part q later
]

-- a set without the first path
none_of : (p : PathData) (paths : List PathData) (H : Held) → H p ≡ false → IsSubset H (has_path (p ∷ paths)) → IsSubset H (has_path paths)
none_of p paths H lacks part q h = elim (or_cases (path_eq p q) (has_path paths q) (part q h)) as (λ _. has_path paths q ≡ true) [
  | inl same ↦ absurd (let e : true ≡ false = sym h ∙ ap H (sym (eq_is p q same)) ∙ lacks in cc)
  | inr later ↦ later
]

is_first : (p : PathData) (held : List PathData) → has_path (p ∷ held) p ≡ true
is_first p held = or_left (path_eq p p) (has_path held p) (eq_itself p)

-- the first of the others, moved to the held paths
moved : (p : PathData) (behind held : List PathData) → IsSubset (has_path (p ∷ (behind ++ held))) (has_path (behind ++ p ∷ held))
moved p behind held = one_in p (behind ++ held) (has_path (behind ++ p ∷ held)) (in_back behind (p ∷ held) p (is_first p held))
    (both_in behind held (has_path (behind ++ p ∷ held)) (in_front behind (p ∷ held)) (λ q h. in_back behind (p ∷ held) q (or_right (path_eq p q) (has_path held q) h)))

moved_back : (p : PathData) (behind held : List PathData) → IsSubset (has_path (behind ++ p ∷ held)) (has_path (p ∷ (behind ++ held)))
moved_back p behind held = both_in behind (p ∷ held) (has_path (p ∷ (behind ++ held)))
    (λ q h. or_right (path_eq p q) (has_path (behind ++ held) q) (in_front behind held q h))
    (one_in p held (has_path (p ∷ (behind ++ held))) (is_first p (behind ++ held)) (λ q h. or_right (path_eq p q) (has_path (behind ++ held) q) (in_back behind held q h)))

-- Tables.

entry_filled : (paths : List PathData) (b : Basic) (table : List Basic) (H : Held) → length table ≡ count_of_parts paths → table_entry paths (map (λ _. b) table) H ≡ b
entry_filled [] b [] H e = absurd (omega (arith, e))
entry_filled [] b (x ∷ xs) H e = refl
entry_filled (p ∷ ps) b table H e = ap (λ t. table_entry ps t H) (half_map (H p) (λ _. b) table) ∙ entry_filled ps b (half_table (H p) table) H (half_sizes p ps table (H p) e)

entry_half : (p : PathData) (behind : List PathData) (w v : List Basic) (H : Held) (b : Bool) → H p ≡ b → length w ≡ length v → table_entry (p ∷ behind) (w ++ v) H ≡ table_entry behind (if b then v else w) H
entry_half p behind w v H b e size = ap (λ c. table_entry behind (half_table c (w ++ v)) H) e ∙ ap (λ t. table_entry behind t H) (half_is b w v size)

module _ (P : Program) (rel : ℕ → List PathData) (A : Assignment) (m : ℕ) (falls : BodyFalls P rel A m) where
  same_sets : (H K : Held) → IsSubset H K → IsSubset K H → body_under P rel A m H ≡ body_under P rel A m K
  same_sets H K there back = both_below _ _ (falls K H back) (falls H K there)

  -- where the body comes to as much with all of the others as with none, it does so between
  pub filled_tells : (others held : List PathData) (table new : List Basic) (fewest most : Basic) → length table ≡ count_of_parts others → new ≡ map (λ _. fewest) table → fewest ≡ body_under P rel A m (has_path held) → most ≡ body_under P rel A m (has_path (others ++ held)) → AtMost fewest most
      → TellsBetween P rel A m others held new
  filled_tells others held table new fewest most size put is ends low H over within =
      ap (λ t. table_entry others t H) put ∙ entry_filled others fewest table H size
      ∙ both_below _ _
      (below_chain _ _ _ low (subst (λ b. AtMost b (body_under P rel A m H)) (sym ends) (falls H (has_path (others ++ held)) within)))
      (subst (λ b. AtMost (body_under P rel A m H) b) (sym is) (falls (has_path held) H over))

  -- without others there is one set
  pub alone_tells : (others held : List PathData) (table new : List Basic) (fewest most : Basic) → others ≡ [] → length table ≡ count_of_parts others → new ≡ map (λ _. fewest) table → fewest ≡ body_under P rel A m (has_path held) → most ≡ body_under P rel A m (has_path (others ++ held))
      → TellsBetween P rel A m others held new
  alone_tells others held table new fewest most none size put is ends =
      let same : fewest ≡ most = is ∙ ap (λ xs. body_under P rel A m (has_path (xs ++ held))) (sym none) ∙ sym ends in
      filled_tells others held table new fewest most size put is ends (subst (AtMost fewest) same (below_itself fewest))

  -- of the two halves the first tells of the sets without a path, and the second of those with it
  pub halves_tell : (p : PathData) (behind held : List PathData) (w v : List Basic) → length w ≡ length v → TellsBetween P rel A m behind held w → TellsBetween P rel A m behind (p ∷ held) v → TellsBetween P rel A m (p ∷ behind) held (w ++ v)
  halves_tell p behind held w v size low high H over within = by (H p) refl
    where
      by : (b : Bool) → H p ≡ b → table_entry (p ∷ behind) (w ++ v) H ≡ body_under P rel A m H
      by false e = entry_half p behind w v H false e size ∙ low H over (none_of p (behind ++ held) H e within)
      by true e = entry_half p behind w v H true e size ∙ high H (one_in p held H e over) (λ q h. moved p behind held q (within q h))

  -- where the path is held, the second half tells of all
  pub half_tells : (p : PathData) (behind held : List PathData) (w v : List Basic) → length w ≡ length v → has_path held p ≡ true → TellsBetween P rel A m behind held v → TellsBetween P rel A m (p ∷ behind) held (w ++ v)
  half_tells p behind held w v size has high H over within =
      entry_half p behind w v H true (over p has) size
      ∙ high H over (λ q h. one_in p (behind ++ held) (has_path (behind ++ held)) (in_back behind held p has) (λ r k. k) q (within q h))

  -- with all others it comes to the same
  pub most_held : (p : PathData) (behind held : List PathData) (b : Basic) → has_path held p ≡ true → b ≡ body_under P rel A m (has_path ((p ∷ behind) ++ held)) → b ≡ body_under P rel A m (has_path (behind ++ held))
  most_held p behind held b has is = is ∙ same_sets (has_path (p ∷ (behind ++ held))) (has_path (behind ++ held))
      (one_in p (behind ++ held) (has_path (behind ++ held)) (in_back behind held p has) (λ q h. h))
      (λ q h. or_right (path_eq p q) (has_path (behind ++ held) q) h)

  pub most_more : (p : PathData) (behind held : List PathData) (b : Basic) → b ≡ body_under P rel A m (has_path ((p ∷ behind) ++ held)) → b ≡ body_under P rel A m (has_path (behind ++ p ∷ held))
  most_more p behind held b is = is ∙ same_sets (has_path (p ∷ (behind ++ held))) (has_path (behind ++ p ∷ held)) (moved p behind held) (moved_back p behind held)

-- What is known of a body at some sets.

-- each of the sets at which a method is asked has its required paths, and relevant ones alone
parts_each : (Q : List PathData → Type 0) (rel required : List PathData) → ((held : List PathData) → IsSubset (has_path required) (has_path held) → IsSubset (has_path held) (has_path rel) → Q held)
    → AllByRecursion Q (filter (λ held. list_all (has_path held) required) (subsets_of rel))
parts_each Q rel required each = each_filter Q (λ held. list_all (has_path held) required) (subsets_of rel)
    (each_implies (λ held. list_all (has_path rel) held ≡ true) (λ held. list_all (has_path held) required ≡ true → Q held) (subsets_of rel)
    (λ held all e. each held (all_has required (has_path held) e) (all_has held (has_path rel) all))
    (parts_pass (has_path rel) rel (has_all rel (has_path rel) (λ q e. e))))

bodies_at : (P : Program) (rel : ℕ → List PathData) (m : ℕ) (lines : List LineData) (sets : List (List PathData)) → AllByRecursion (λ held. AtMost (body_under P rel (floor rel lines) m (has_path held)) (floor rel lines m (has_path held))) sets
    → AreBodiesSaid P rel (cells_at m sets) lines
bodies_at P rel m lines [] all = tt
bodies_at P rel m lines (x ∷ xs) all = (all.0, bodies_at P rel m lines xs all.1)

module _ (P : Program) (sets kept : List MethodPaths) (rows : List (List Basic)) (lines : List LineData) (agrees : KeptAgrees P sets kept rows lines) (m : ℕ) where
  -- what a body comes to by the tables, it comes to by the lines
  by_lines : (H : Held) → body_under P (rel_of sets) (said_by (rel_of kept) rows) m H ≡ body_under P (rel_of sets) (floor (rel_of sets) lines) m H
  by_lines H = ap (λ (A : Assignment). body_under P (rel_of sets) A m H) (said_is P sets kept rows lines agrees)

  pub kept_falls : BodyFalls P (rel_of sets) (said_by (rel_of kept) rows) m
  kept_falls H K part = subst (λ (A : Assignment). AtMost (body_under P (rel_of sets) A m K) (body_under P (rel_of sets) A m H)) (sym (said_is P sets kept rows lines agrees)) (body_falls P (rel_of sets) lines (slice_get P.methods m) H K part)

  -- a table that tells it, as the code sees it
  pub told_kept : (held : List PathData) (table : List Basic) (is_told is_said : Bool) → IsBodyKnown P (rel_of sets) m (held ∷ []) lines table is_told is_said → is_told ≡ true
      → table_entry (rel_of kept m) table (has_path held) ≡ body_under P (rel_of sets) (said_by (rel_of kept) rows) m (has_path held)
  told_kept held table is_told is_said known e = (λ i. table_entry (rel_of (agrees.same i) m) table (has_path held)) ∙ (known.told e).0 ∙ sym (by_lines (has_path held))

  -- a table of the parts with the required paths, of which the method may have as much
  pub known_table : (required : List PathData) (table : List Basic) (is_said : Bool) → method_calls (slice_get P.methods m) [] m ≡ false → TellsBetween P (rel_of sets) (said_by (rel_of kept) rows) m (rel_of kept m) required table → is_said ≡ below_each table (row_at rows m)
      → IsBodyKnown P (rel_of sets) m (filter (λ held. list_all (has_path held) required) (subsets_of (rel_of sets m))) lines table true is_said
  known_table required table is_said quiet tells said = record {
    told = λ e. parts_each (λ held. table_entry (rel_of sets m) table (has_path held) ≡ body_under P (rel_of sets) (floor (rel_of sets) lines) m (has_path held)) (rel_of sets m) required at;
    said = λ e. bodies_at P (rel_of sets) m lines (filter (λ held. list_all (has_path held) required) (subsets_of (rel_of sets m)))
        (parts_each (λ held. AtMost (body_under P (rel_of sets) (floor (rel_of sets) lines) m (has_path held)) (floor (rel_of sets) lines m (has_path held))) (rel_of sets m) required
        (λ held has inside. subst (λ b. AtMost b (floor (rel_of sets) lines m (has_path held))) (at held has inside)
        (subst (λ (A : Assignment). AtMost (table_entry (rel_of sets m) table (has_path held)) (A m (has_path held))) (said_is P sets kept rows lines agrees)
        (subst (λ s. AtMost (table_entry (rel_of s m) table (has_path held)) (said_by (rel_of kept) rows m (has_path held))) agrees.same (entry_below (rel_of kept m) table (row_at rows m) (has_path held) (sym said ∙ e))))));
    told_quiet = λ e. quiet;
    said_quiet = λ e. quiet;
  }
    where
      at : (held : List PathData) → IsSubset (has_path required) (has_path held) → IsSubset (has_path held) (has_path (rel_of sets m)) → table_entry (rel_of sets m) table (has_path held) ≡ body_under P (rel_of sets) (floor (rel_of sets) lines) m (has_path held)
      at held has inside =
          (λ i. table_entry (rel_of (sym agrees.same i) m) table (has_path held))
          ∙ tells (has_path held) has (λ q h. in_front (rel_of kept m) required q (subst (λ s. has_path (rel_of s m) q ≡ true) (sym agrees.same) (inside q h)))
          ∙ by_lines (has_path held)

-- without a table
pub known_mark : (P : Program) (rel : ℕ → List PathData) (m : ℕ) (sets : List (List PathData)) (lines : List LineData) (table : List Basic) (is_said : Bool) → (is_said ≡ true → method_calls (slice_get P.methods m) [] m ≡ false) → (is_said ≡ true → AreBodiesSaid P rel (cells_at m sets) lines)
    → IsBodyKnown P rel m sets lines table false is_said
known_mark P rel m sets lines table is_said quiet said = record {
  told = λ e. absurd (let f : false ≡ true = e in cc);
  said = said;
  told_quiet = λ e. absurd (let f : false ≡ true = e in cc);
  said_quiet = quiet;
}

-- of the first of some sets
pub known_first : (P : Program) (rel : ℕ → List PathData) (m : ℕ) (held : List PathData) (sets : List (List PathData)) (lines : List LineData) (table : List Basic) (is_told is_said : Bool) → IsBodyKnown P rel m (held ∷ sets) lines table is_told is_said
    → IsBodyKnown P rel m (held ∷ []) lines table is_told is_said
known_first P rel m held sets lines table is_told is_said known = record {
  told = λ e. ((known.told e).0, tt);
  said = λ e. ((known.said e).0, tt);
  told_quiet = known.told_quiet;
  said_quiet = known.said_quiet;
}

-- of the others, behind lines of the method
pub known_behind : (P : Program) (rel : ℕ → List PathData) (m : ℕ) (held : List PathData) (sets : List (List PathData)) (old new : List LineData) (table : List Basic) (is_told is_said : Bool) → Adds m old new → IsBodyKnown P rel m (held ∷ sets) old table is_told is_said
    → IsBodyKnown P rel m sets new table is_told is_said
known_behind P rel m held sets old new table is_told is_said adds known = record {
  told = λ e. each_implies (λ held. table_entry (rel m) table (has_path held) ≡ body_under P rel (floor rel old) m (has_path held)) (λ held. table_entry (rel m) table (has_path held) ≡ body_under P rel (floor rel new) m (has_path held)) sets
      (λ held is. is ∙ body_same P rel (floor rel old) (floor rel new) m m (slice_get P.methods m) (has_path held) (others_stay P rel m old new adds) [] (known.told_quiet e)) (known.told e).1;
  said = λ e. bodies_behind P rel m (known.said_quiet e) sets old new adds (known.said e).1;
  told_quiet = known.told_quiet;
  said_quiet = known.said_quiet;
}
