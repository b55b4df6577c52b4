-- The maker's steps: what one question does, several of them, a pass, and passes.
use Rattle.std.proofs.Common.{◌≡◌, ℕ, zero, suc, ◌+◌, ◌<◌, ◌≤◌, Bool, true, false, List, [], ◌∷◌, ◌++◌, length, drop, get_or, map, Some, None, refl, sym, ap, subst, ◌∙◌, arith}
use Rattle.std.specs.Prelude.{Option, not, filter, slice_get}
use Rattle.std.specs.List.{list_all, AllByRecursion}
use Rattle.std.specs.List.Sorted.{IsStrictlySortedBy}
use Rattle.std.specs.declared.cmp.Ordering.TheVariants.{Less}
use Rattle.base.proofs.Lists.{next_drop}
use Rattle.paths.specs.Paths.{PathData, path_order}
use Rattle.algebra.specs.declared.basic.Basic.{Basic}
use Rattle.algebra.specs.Basics.{below_of}
use Rattle.algebra.specs.HeldPaths.{Held, has_path}
use Rattle.core_program.specs.Core.{Program}
use Rattle.core_program.specs.declared.program.CoreMethod.{CoreMethod}
use Rattle.core_program.specs.Views.{method_of}
use Rattle.rules.specs.Near.{MethodPaths, AreRelevant, rel_of, rel_paths}
use Rattle.rules.specs.Rules.{IsSubset, AtMost}
use Rattle.refutation.specs.Lines.{LineData, AreAscending, floor, overriding, joined_over, certified_effect}
use Rattle.refutation.specs.Certificates.{keeps_bound}
use Rattle.refutation.specs.Passes.{MethodAtSet, cells_in, cells_from, cells_of, subsets_of, LinesWritten, by_tests, floor_at, up_at, line_for, pass, Passes, broke, still, again}
use Rattle.refutation.specs.Tables.{table_entry, said_by, TablesSay}
use Rattle.refutation.specs.Ends.{cells_at, continued, IsPass, KeptAgrees, IsGoing}
use Rattle.refutation.specs.Overs.{IsSaidOver}
use Rattle.refutation.specs.Waiting.{IsMostOver}
use Rattle.rules.proofs.SetLemmas.{all_has, has_all}
use Rattle.refutation.proofs.Cells.{each_with, each_filter, each_implies, parts_pass}
use Rattle.refutation.proofs.PassLaws.{room, whole_is, no_lines}

-- the relevant paths of a method ascend, and so do their parts

none_ascend : IsStrictlySortedBy path_order []
unfolding IsStrictlySortedBy
none_ascend = tt

rel_ascend : (P : Program) (sets : List MethodPaths) → AreRelevant P sets → (m : ℕ) → IsStrictlySortedBy path_order (rel_of sets m)
rel_ascend P sets relevant m = by (slice_get sets m) refl
  where
    by : (o : Option MethodPaths) → slice_get sets m ≡ o → IsStrictlySortedBy path_order (rel_paths o)
    by None e = none_ascend
    by (Some paths) e = (relevant.each m paths e).rel_ascends

parts_after : (p : PathData) (ps : List PathData) → AllByRecursion (λ y. path_order p y ≡ Less) ps → AllByRecursion (λ qs. AllByRecursion (λ y. path_order p y ≡ Less) qs) (subsets_of ps)
parts_after p [] all = (tt, tt)
parts_after p (x ∷ ps) all = each_with (λ qs. AllByRecursion (λ y. path_order p y ≡ Less) qs) x (subsets_of ps)
    (each_implies (λ qs. AllByRecursion (λ y. path_order p y ≡ Less) qs) (λ qs. AllByRecursion (λ y. path_order p y ≡ Less) qs × AllByRecursion (λ y. path_order p y ≡ Less) (x ∷ qs)) (subsets_of ps) (λ qs a. (a, (all.0, a))) (parts_after p ps all.1))

parts_ascend : (ps : List PathData) → IsStrictlySortedBy path_order ps → AllByRecursion (IsStrictlySortedBy path_order) (subsets_of ps)
unfolding IsStrictlySortedBy
parts_ascend [] s = (tt, tt)
parts_ascend (p ∷ ps) s = each_with (IsStrictlySortedBy path_order) p (subsets_of ps) (both (subsets_of ps) (parts_after p ps s.0) (parts_ascend ps s.1))
  where
    both : (xs : List (List PathData)) → AllByRecursion (λ qs. AllByRecursion (λ y. path_order p y ≡ Less) qs) xs → AllByRecursion (IsStrictlySortedBy path_order) xs → AllByRecursion (λ qs. IsStrictlySortedBy path_order qs × IsStrictlySortedBy path_order (p ∷ qs)) xs
    both [] a b = tt
    both (x ∷ xs) a b = ((b.0, (a.0, b.0)), both xs a.1 b.1)

pub asked_ascend : (P : Program) (sets : List MethodPaths) (m : ℕ) (rel required : List PathData) (parts : List (List PathData)) → AreRelevant P sets → rel ≡ rel_of sets m → parts ≡ filter (λ held. list_all (has_path held) required) (subsets_of rel) → AllByRecursion (IsStrictlySortedBy path_order) parts
asked_ascend P sets m rel required parts relevant is kept = subst (AllByRecursion (IsStrictlySortedBy path_order)) (sym kept)
    (each_filter (IsStrictlySortedBy path_order) (λ held. list_all (has_path held) required) (subsets_of rel)
    (each_implies (IsStrictlySortedBy path_order) (λ qs. list_all (has_path qs) required ≡ true → IsStrictlySortedBy path_order qs) (subsets_of rel) (λ qs s e. s)
    (subst (λ ps. AllByRecursion (IsStrictlySortedBy path_order) (subsets_of ps)) (sym is) (parts_ascend (rel_of sets m) (rel_ascend P sets relevant m)))))

-- and have none but its relevant paths
pub asked_inside : (rel required : List PathData) (parts : List (List PathData)) → parts ≡ filter (λ held. list_all (has_path held) required) (subsets_of rel) → AllByRecursion (λ held. IsSubset (has_path held) (has_path rel)) parts
asked_inside rel required parts kept = subst (AllByRecursion (λ held. IsSubset (has_path held) (has_path rel))) (sym kept)
    (each_filter (λ held. IsSubset (has_path held) (has_path rel)) (λ held. list_all (has_path held) required) (subsets_of rel)
    (each_implies (λ held. list_all (has_path rel) held ≡ true) (λ held. list_all (has_path held) required ≡ true → IsSubset (has_path held) (has_path rel)) (subsets_of rel) (λ held all e. all_has held (has_path rel) all)
    (parts_pass (has_path rel) rel (has_all rel (has_path rel) (λ q e. e)))))

module _ (P : Program) (sets kept : List MethodPaths) (rows : List (List Basic)) (lines : List LineData) (agrees : KeptAgrees P sets kept rows lines) where
  -- what is said is the floor of the lines
  pub said_is : said_by (rel_of kept) rows ≡ floor (rel_of sets) lines
  said_is = agrees.says.says ∙ ap (λ s. floor (rel_of s) lines) agrees.same

  -- the most that is said of the methods that override one, as the code sees it
  pub most_said : (m : ℕ) (most : Basic) (H : Held) → IsMostOver P (rel_of sets) lines m most → AtMost (joined_over (rel_of kept) (said_by (rel_of kept) rows) (overriding P m) H) most
  most_said m most H is = subst (λ b. AtMost b most) (sym (λ i. joined_over (rel_of (agrees.same i)) (said_is i) (overriding P m) H)) (is H)

  -- so is a table of what is said of them
  pub said_kept : (m : ℕ) (table : List Basic) (whole : Bool) (most : Basic) → IsSaidOver P (rel_of sets) (floor (rel_of sets) lines) m table whole most → IsSaidOver P (rel_of kept) (said_by (rel_of kept) rows) m table whole most
  said_kept m table whole most is = record {
    each = λ e H part. (λ i. table_entry (rel_of (agrees.same i) m) table H) ∙ is.each e H (subst (λ s. IsSubset H (has_path (rel_of s m))) agrees.same part) ∙ sym (λ i. joined_over (rel_of (agrees.same i)) (said_is i) (overriding P m) H);
    low = λ H. most_said m most H is.low;
  }

  -- what is known already adds no line
  pub ask_known : (m : ℕ) (held : List PathData) (found there : Basic) → found ≡ certified_effect P (rel_of sets) (said_by (rel_of kept) rows) m (has_path held) → there ≡ said_by (rel_of kept) rows m (has_path held) → below_of found there ≡ true
      → IsPass P (rel_of sets) (record { method = m; held = held } ∷ []) lines lines false
  ask_known m held found there is said low cs =
      let c : MethodAtSet = record { method = m; held = held } in
      let up_is : found ≡ up_at P (rel_of sets) lines c = is ∙ ap (λ (A : ℕ → Held → Basic). certified_effect P (rel_of sets) A m (has_path held)) said_is in
      let floor_is : there ≡ floor_at P (rel_of sets) lines c = said ∙ ap (λ (A : ℕ → Held → Basic). A m (has_path held)) said_is in
      let test : below_of (up_at P (rel_of sets) lines c) (floor_at P (rel_of sets) lines c) ≡ true = (λ i. below_of (sym up_is i) (sym floor_is i)) ∙ low in
      ap (λ t. by_tests t (keeps_bound P m (up_at P (rel_of sets) lines c)) (pass P (rel_of sets) cs lines) (pass P (rel_of sets) cs (lines ++ line_for P (rel_of sets) lines c ∷ [])) (record { all = lines ++ line_for P (rel_of sets) lines c ∷ []; broken = true })) test

  -- what is new adds its line
  pub ask_added : (m : ℕ) (held : List PathData) (found there : Basic) (l : LineData) (new : List LineData) (broken : Bool) → found ≡ certified_effect P (rel_of sets) (said_by (rel_of kept) rows) m (has_path held) → there ≡ said_by (rel_of kept) rows m (has_path held) → below_of found there ≡ false
      → l ≡ record { method = m; found = found; held = held } → new ≡ lines ++ l ∷ [] → broken ≡ not (keeps_bound P m found) → IsPass P (rel_of sets) (record { method = m; held = held } ∷ []) lines new broken
  ask_added m held found there l new broken is said high line added ends cs =
      let c : MethodAtSet = record { method = m; held = held } in
      let up_is : found ≡ up_at P (rel_of sets) lines c = is ∙ ap (λ (A : ℕ → Held → Basic). certified_effect P (rel_of sets) A m (has_path held)) said_is in
      let floor_is : there ≡ floor_at P (rel_of sets) lines c = said ∙ ap (λ (A : ℕ → Held → Basic). A m (has_path held)) said_is in
      let test : below_of (up_at P (rel_of sets) lines c) (floor_at P (rel_of sets) lines c) ≡ false = (λ i. below_of (sym up_is i) (sym floor_is i)) ∙ high in
      let new_is : lines ++ line_for P (rel_of sets) lines c ∷ [] ≡ new = (λ i. lines ++ record { method = m; found = sym up_is i; held = held } ∷ []) ∙ ap (λ x. lines ++ x ∷ []) (sym line) ∙ sym added in
      let keeps : keeps_bound P m (up_at P (rel_of sets) lines c) ≡ keeps_bound P m found = ap (keeps_bound P m) (sym up_is) in
      (λ i. by_tests (test i) (keeps i) (pass P (rel_of sets) cs lines) (pass P (rel_of sets) cs (new_is i)) (record { all = new_is i; broken = true }))
      ∙ ended (keeps_bound P m found) (pass P (rel_of sets) cs lines) cs new broken ends
    where
      ended : (keeps : Bool) (skipped : LinesWritten) (cs : List MethodAtSet) (new : List LineData) (broken : Bool) → broken ≡ not keeps → by_tests false keeps skipped (pass P (rel_of sets) cs new) (record { all = new; broken = true }) ≡ continued P (rel_of sets) cs new broken
      ended true skipped cs new broken e = ap (λ b. continued P (rel_of sets) cs new b) (sym e)
      ended false skipped cs new broken e = ap (λ b. continued P (rel_of sets) cs new b) (sym e)

  pub agrees_added : (now : List MethodPaths) (rows2 : List (List Basic)) (l : LineData) (new : List LineData) → now ≡ kept → length rows2 ≡ length rows
      → ((ls : List LineData) → TablesSay (rel_of kept) rows ls → TablesSay (rel_of now) rows2 (ls ++ l ∷ [])) → new ≡ lines ++ l ∷ [] → IsStrictlySortedBy path_order l.held → KeptAgrees P sets now rows2 new
  agrees_added now rows2 l new same size says added ascends = record {
    same = same ∙ agrees.same;
    size = size ∙ agrees.size;
    says = subst (TablesSay (rel_of now) rows2) (sym added) (says lines agrees.says);
    ascend = subst AreAscending (sym added) (ascend_more lines agrees.ascend);
  }
    where
      ascend_more : (ls : List LineData) → AreAscending ls → AreAscending (ls ++ l ∷ [])
      ascend_more [] a = (ascends, tt)
      ascend_more (x ∷ xs) a = (a.0, ascend_more xs a.1)

-- several sets, one after the other
pub sets_step : (P : Program) (rel : ℕ → List PathData) (m : ℕ) (parts : List (List PathData)) (k : ℕ) (part held : List PathData) (now new : List LineData) (broken : Bool) → k < length parts → part ≡ get_or parts k part → held ≡ part → IsPass P rel (record { method = m; held = held } ∷ []) now new broken
    → (cs : List MethodAtSet) → pass P rel (cells_at m (drop k parts) ++ cs) now ≡ continued P rel (cells_at m (drop (k + 1) parts) ++ cs) new broken
sets_step P rel m parts k part held now new broken below is same asked cs =
    ap (λ ps. pass P rel (cells_at m ps ++ cs) now) (next_drop parts k part below is)
    ∙ ap (λ h. pass P rel (record { method = m; held = h } ∷ (cells_at m (drop (k + 1) parts) ++ cs)) now) (sym same)
    ∙ asked (cells_at m (drop (k + 1) parts) ++ cs)

-- one method of a pass
pub method_step : (P : Program) (rel : ℕ → List PathData) (methods : List CoreMethod) (place id : ℕ) (method : CoreMethod) (now new : List LineData) (broken : Bool) → map method_of methods ≡ P.methods → place < length methods → method ≡ get_or methods place method → id ≡ place
    → IsPass P rel (cells_in id (method_of method).requires_ (subsets_of (rel id))) now new broken
    → pass P rel (cells_from rel place (drop place P.methods)) now ≡ continued P rel (cells_from rel (place + 1) (drop (place + 1) P.methods)) new broken
method_step P rel methods place id method now new broken all below is same asked =
    ap (λ ms. pass P rel (cells_from rel place ms) now) (sym (ap (drop place) all) ∙ dropped)
    ∙ ap (λ n. pass P rel (cells_in n (method_of method).requires_ (subsets_of (rel n)) ++ cells_from rel (place + 1) (map method_of (drop (place + 1) methods))) now) (sym same)
    ∙ asked (cells_from rel (place + 1) (map method_of (drop (place + 1) methods)))
    ∙ ap (λ ms. continued P rel (cells_from rel (place + 1) ms) new broken) (mapped methods (place + 1) ∙ ap (drop (place + 1)) all)
  where
    mapped : (xs : List CoreMethod) (k : ℕ) → map method_of (drop k xs) ≡ drop k (map method_of xs)
    mapped [] zero = refl
    mapped [] (suc k) = refl
    mapped (x ∷ xs) zero = refl
    mapped (x ∷ xs) (suc k) = mapped xs k

    dropped : drop place (map method_of methods) ≡ method_of method ∷ map method_of (drop (place + 1) methods)
    dropped = sym (mapped methods place) ∙ ap (map method_of) (next_drop methods place method below is)

longer : (a b : ℕ) → a ≤ b → (b ≡ a → ⊥) → a < b
longer zero zero le differs = absurd (differs refl)
longer zero (suc b) le differs = omega arith
longer (suc a) zero le differs = absurd (omega (arith, le))
longer (suc a) (suc b) le differs = let r = longer a b (omega (arith, le)) (λ e. differs (ap suc e)) in omega (arith, r)

-- passes
module _ (P : Program) (rel : ℕ → List PathData) where
  pub going_none : (lines : List LineData) → lines ≡ [] → IsGoing P rel lines
  going_none lines none = subst (IsGoing P rel) (sym none) (record { each = no_lines P rel; within = tt; back = λ e p. p })

  pub going_more : (old new : List LineData) (b : Bool) → IsGoing P rel old → pass P rel (cells_of P rel) old ≡ record { all = new; broken = b } → b ≡ false → (length new ≡ length old → ⊥) → IsGoing P rel new
  going_more old new b going passed kept grew =
      let is : pass P rel (cells_of P rel) old ≡ record { all = new; broken = false } = passed ∙ ap (λ x. record { all = new; broken = x }) kept in
      let done = whole_is P rel old (record { all = new; broken = false }) going.each going.within is in
      record {
        each = done.each;
        within = done.within refl;
        back = λ e p. going.back e (again (record { all = new; broken = false }) is refl (longer (length old) (length new) done.more grew) p);
      }

  pub room_less : (old new : List LineData) (b : Bool) → IsGoing P rel old → pass P rel (cells_of P rel) old ≡ record { all = new; broken = b } → b ≡ false → (length new ≡ length old → ⊥) → room P rel (cells_of P rel) new < room P rel (cells_of P rel) old
  room_less old new b going passed kept grew =
      let is : pass P rel (cells_of P rel) old ≡ record { all = new; broken = false } = passed ∙ ap (λ x. record { all = new; broken = x }) kept in
      let done = whole_is P rel old (record { all = new; broken = false }) going.each going.within is in
      omega (arith, done.spent, longer (length old) (length new) done.more grew)

  pub going_broke : (old new : List LineData) (b : Bool) → IsGoing P rel old → pass P rel (cells_of P rel) old ≡ record { all = new; broken = b } → b ≡ true → Passes P rel [] (record { all = new; broken = true })
  going_broke old new b going passed broken = going.back (record { all = new; broken = true }) (broke (passed ∙ ap (λ x. record { all = new; broken = x }) broken) refl)

  pub going_still : (old new : List LineData) (b : Bool) → IsGoing P rel old → pass P rel (cells_of P rel) old ≡ record { all = new; broken = b } → b ≡ false → length new ≡ length old → Passes P rel [] (record { all = new; broken = false })
  going_still old new b going passed kept same = going.back (record { all = new; broken = false }) (still (passed ∙ ap (λ x. record { all = new; broken = x }) kept) refl same)
