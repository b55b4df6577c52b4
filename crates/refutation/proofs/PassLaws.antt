-- The passes: they end, in one way, and with a certificate exactly where no assignment is admissible.
use Rattle.std.proofs.Common.{◌≡◌, ℕ, zero, suc, ◌+◌, ◌-◌, ◌≤◌, true, false, List, [], ◌∷◌, ◌++◌, length, Some, refl, sym, ap, subst, ◌∙◌, ◌↔◌, ◌⊎◌, inl, inr, arith}
use Rattle.std.specs.Prelude.{not, slice_get, nat_lt}
use Rattle.std.specs.List.{AllByRecursion}
use Rattle.std.proofs.Common.{length-append}
use Rattle.std.proofs.lemmas.Bool.{leb-true, leb-false, ltb-true, ltb-false, true_from_ne_false, false_from_ne_true}
use Rattle.base.proofs.Lists.{get_last}
use Rattle.paths.specs.Paths.{PathData}
use Rattle.algebra.specs.Basics.{rank_of, below_of}
use Rattle.algebra.specs.HeldPaths.{Held, has_path}
use Rattle.algebra.proofs.Ranks.{most_rank}
use Rattle.core_program.specs.Core.{Program, Method}
use Rattle.rules.specs.Near.{MethodPaths, AreRelevant, AreFew, rel_of}
use Rattle.rules.specs.Effect.{Assignment, effect}
use Rattle.rules.specs.Rules.{IsSubset, AtMost, IsClosed, IsAdmissible, IsAccepted}
use Rattle.rules.proofs.BasicLemmas.{below_chain, below_itself}
use Rattle.refutation.specs.Lines.{LineData, floor, body_effect, joined_over, overriding, certified_up}
use Rattle.refutation.specs.Certificates.{is_justified, AreCertificateLines, IsCertificate, breaks, keeps_bound, bound_of}
use Rattle.refutation.specs.Passes.{MethodAtSet, cells_of, LinesWritten, by_tests, floor_at, up_at, line_for, pass, Passes, broke, still, again}
use Rattle.refutation.proofs.Sets.{join_first, join_second}
use Rattle.refutation.proofs.Over.{over_above}
use Rattle.refutation.proofs.Below.{certificate_refuses, certificate_rejects}
use Rattle.refutation.proofs.FloorLaws.{AreWithin, floor_falls, floor_more, floor_has, line_itself, floor_within, lines_more, within_more}
use Rattle.refutation.proofs.Cells.{is_placed_cell, cells_placed, listed, at_part}

-- a cell is one of these
abbrev pub IsIn : MethodAtSet → List MethodAtSet → Type 0
IsIn c [] = ⊥
IsIn c (d ∷ ds) = (d ≡ c) ⊎ IsIn c ds

abbrev pub AreIn : List MethodAtSet → List MethodAtSet → Type 0
AreIn cells [] = Unit {0}
AreIn cells (c ∷ cs) = IsIn c cells × AreIn cells cs

in_more : (cells cs : List MethodAtSet) (d : MethodAtSet) → AreIn cells cs → AreIn (d ∷ cells) cs
in_more cells [] d all = tt
in_more cells (c ∷ cs) d all = (inr all.0, in_more cells cs d all.1)

all_in : (cells : List MethodAtSet) → AreIn cells cells
all_in [] = tt
all_in (c ∷ cs) = (inl refl, in_more cs cs c (all_in cs))

module _ (P : Program) (rel : ℕ → List PathData) where
  -- nothing new is to be said at the cell
  abbrev pub IsSaid : List LineData → MethodAtSet → Type 0
  IsSaid ls c = AtMost (up_at P rel ls c) (floor_at P rel ls c)

  -- how often the floor can still rise at these cells
  abbrev pub room : List MethodAtSet → List LineData → ℕ
  room [] ls = 0
  room (c ∷ cs) ls = (4 - rank_of (floor_at P rel ls c)) + room cs ls

  room_falls : (cells : List MethodAtSet) (ls : List LineData) (l : LineData) → room cells (ls ++ l ∷ []) ≤ room cells ls
  room_falls [] ls l = omega arith
  room_falls (c ∷ cs) ls l =
      let rises = leb-true (rank_of (floor_at P rel ls c)) (rank_of (floor_at P rel (ls ++ l ∷ []) c)) (floor_more rel ls l c.method (has_path c.held)) in
      let rest = room_falls cs ls l in
      omega (arith, rises, rest)

  -- the floor has what a line says of its cell
  line_said : (ls : List LineData) (c : MethodAtSet) → AtMost (up_at P rel ls c) (floor_at P rel (ls ++ line_for P rel ls c ∷ []) c)
  line_said ls c = subst (λ b. AtMost b (floor_at P rel (ls ++ line_for P rel ls c ∷ []) c)) (line_itself rel (line_for P rel ls c)) (floor_has rel ls (line_for P rel ls c) c.method (has_path c.held))

  room_taken : (cells : List MethodAtSet) (ls : List LineData) (c : MethodAtSet) → IsIn c cells → below_of (up_at P rel ls c) (floor_at P rel ls c) ≡ false → room cells (ls ++ line_for P rel ls c ∷ []) + 1 ≤ room cells ls
  room_taken [] ls c at new = absurd at
  room_taken (d ∷ ds) ls c (inl same) new =
      let more = ls ++ line_for P rel ls c ∷ [] in
      let said = leb-true (rank_of (up_at P rel ls c)) (rank_of (floor_at P rel more c)) (line_said ls c) in
      let rises = leb-false (rank_of (up_at P rel ls c)) (rank_of (floor_at P rel ls c)) new in
      let most = most_rank (floor_at P rel more c) in
      let rest = room_falls ds ls (line_for P rel ls c) in
      let here : (4 - rank_of (floor_at P rel more c)) + 1 ≤ 4 - rank_of (floor_at P rel ls c) = omega (arith, said, rises, most) in
      let at_d = subst (λ x. (4 - rank_of (floor_at P rel more x)) + 1 ≤ 4 - rank_of (floor_at P rel ls x)) (sym same) here in
      omega (arith, at_d, rest)
  room_taken (d ∷ ds) ls c (inr later) new =
      let l = line_for P rel ls c in
      let rises = leb-true (rank_of (floor_at P rel ls d)) (rank_of (floor_at P rel (ls ++ l ∷ []) d)) (floor_more rel ls l d.method (has_path d.held)) in
      let rest = room_taken ds ls c later new in
      omega (arith, rises, rest)

  -- what a pass does
  pub record Passed (cells cs : List MethodAtSet) (ls : List LineData) (e : LinesWritten) : Type 0 where
    pub each : AreCertificateLines P rel e.all
    pub within : e.broken ≡ false → AreWithin P e.all
    pub ends : e.broken ≡ true → breaks P (slice_get e.all (length e.all - 1)) ≡ true
    pub more : length ls ≤ length e.all
    pub said : e.broken ≡ false → length e.all ≡ length ls → AllByRecursion (IsSaid ls) cs
    pub same : length e.all ≡ length ls → e.all ≡ ls
    pub spent : length e.all + room cells e.all ≤ length ls + room cells ls

  one_more : (ls : List LineData) (l : LineData) → length (ls ++ l ∷ []) ≡ length ls + 1
  one_more ls l = length-append ls (l ∷ [])

  passed : (cells cs : List MethodAtSet) (ls : List LineData) → AreIn cells cs → AllByRecursion (λ c. is_placed_cell P rel c ≡ true) cs → AreCertificateLines P rel ls → AreWithin P ls → Passed cells cs ls (pass P rel cs ls)
  passed cells [] ls inside placed each within = record {
    each = each;
    within = λ e. within;
    ends = λ e. absurd (let f : false ≡ true = e in cc);
    more = omega arith;
    said = λ e f. tt;
    same = λ e. refl;
    spent = omega arith;
  }
  passed cells (c ∷ cs) ls inside placed each within =
      let l = line_for P rel ls c in
      let more = ls ++ l ∷ [] in
      let justified : is_justified P rel ls l ≡ true = below_itself (up_at P rel ls c) in
      let lines = lines_more P rel ls l each placed.0 justified in
      elim (below_of (up_at P rel ls c) (floor_at P rel ls c)) as (λ t. below_of (up_at P rel ls c) (floor_at P rel ls c) ≡ t → Passed cells (c ∷ cs) ls
      (by_tests t (keeps_bound P c.method (up_at P rel ls c)) (pass P rel cs ls) (pass P rel cs more) (record { all = more; broken = true }))) [
        | true ↦ λ known. skips cells c cs ls (pass P rel cs ls) known (passed cells cs ls inside.1 placed.1 each within)
        | false ↦ λ new. elim (keeps_bound P c.method (up_at P rel ls c)) as (λ t. keeps_bound P c.method (up_at P rel ls c) ≡ t → Passed cells (c ∷ cs) ls
            (by_tests false t (pass P rel cs ls) (pass P rel cs more) (record { all = more; broken = true }))) [
              | true ↦ λ keeps. adds cells c cs ls (pass P rel cs more) (room_taken cells ls c inside.0 new) (passed cells cs more inside.1 placed.1 lines (within_more P ls l within keeps))
              | false ↦ λ above. ended cells c cs ls (room_taken cells ls c inside.0 new) lines above
            ] refl
      ] refl
    where
      skips : (cells : List MethodAtSet) (c : MethodAtSet) (cs : List MethodAtSet) (ls : List LineData) (e : LinesWritten) → IsSaid ls c → Passed cells cs ls e → Passed cells (c ∷ cs) ls e
      skips cells c cs ls e known rest = record {
        each = rest.each;
        within = rest.within;
        ends = rest.ends;
        more = rest.more;
        said = λ f g. (known, rest.said f g);
        same = rest.same;
        spent = rest.spent;
      }

      adds : (cells : List MethodAtSet) (c : MethodAtSet) (cs : List MethodAtSet) (ls : List LineData) (e : LinesWritten) → room cells (ls ++ line_for P rel ls c ∷ []) + 1 ≤ room cells ls → Passed cells cs (ls ++ line_for P rel ls c ∷ []) e → Passed cells (c ∷ cs) ls e
      adds cells c cs ls e taken rest =
          let one = one_more ls (line_for P rel ls c) in
          record {
            each = rest.each;
            within = rest.within;
            ends = rest.ends;
            more = omega (arith, one, rest.more);
            said = λ f g. absurd (omega (arith, one, rest.more, g));
            same = λ g. absurd (omega (arith, one, rest.more, g));
            spent = omega (arith, one, rest.spent, taken);
          }

      ended : (cells : List MethodAtSet) (c : MethodAtSet) (cs : List MethodAtSet) (ls : List LineData) → room cells (ls ++ line_for P rel ls c ∷ []) + 1 ≤ room cells ls → AreCertificateLines P rel (ls ++ line_for P rel ls c ∷ [])
          → keeps_bound P c.method (up_at P rel ls c) ≡ false → Passed cells (c ∷ cs) ls (record { all = ls ++ line_for P rel ls c ∷ []; broken = true })
      ended cells c cs ls taken lines above =
          let l = line_for P rel ls c in
          let one = one_more ls l in
          let last : length (ls ++ l ∷ []) - 1 ≡ length ls = omega (arith, one) in
          record {
            each = lines;
            within = λ f. absurd (let g : true ≡ false = f in cc);
            ends = λ f. subst (λ k. breaks P (slice_get (ls ++ l ∷ []) k) ≡ true) (sym last) (subst (λ o. breaks P o ≡ true) (sym (get_last ls l)) (ap not above));
            more = omega (arith, one);
            said = λ f g. absurd (let h : true ≡ false = f in cc);
            same = λ g. absurd (omega (arith, one, g));
            spent = omega (arith, one, taken);
          }

  -- one pass over all cells
  pub whole : (ls : List LineData) → AreCertificateLines P rel ls → AreWithin P ls → Passed (cells_of P rel) (cells_of P rel) ls (pass P rel (cells_of P rel) ls)
  whole ls each within = passed (cells_of P rel) (cells_of P rel) ls (all_in (cells_of P rel)) (cells_placed P rel) each within

  pub whole_is : (ls : List LineData) (e : LinesWritten) → AreCertificateLines P rel ls → AreWithin P ls → pass P rel (cells_of P rel) ls ≡ e → Passed (cells_of P rel) (cells_of P rel) ls e
  whole_is ls e each within is = subst (Passed (cells_of P rel) (cells_of P rel) ls) is (whole ls each within)

  pub no_lines : AreCertificateLines P rel []
  no_lines = record { placed = λ k l e. absurd (let f : slice_get [] k ≡ Some l = e in cc); steps = λ k l e. absurd (let f : slice_get [] k ≡ Some l = e in cc) }

  -- how the passes end
  pub record Ended (e : LinesWritten) : Type 0 where
    pub each : AreCertificateLines P rel e.all
    pub within : e.broken ≡ false → AreWithin P e.all
    pub ends : e.broken ≡ true → breaks P (slice_get e.all (length e.all - 1)) ≡ true
    pub said : e.broken ≡ false → AllByRecursion (IsSaid e.all) (cells_of P rel)
    pub few : length e.all ≤ room (cells_of P rel) []

  passes_end : (ls : List LineData) (e : LinesWritten) → AreCertificateLines P rel ls → AreWithin P ls → length ls + room (cells_of P rel) ls ≤ room (cells_of P rel) [] → Passes P rel ls e → Ended e
  passes_end ls e each within few (broke is broken) =
      let done = whole_is ls e each within is in
      record { each = done.each; within = done.within; ends = done.ends; said = λ f. absurd (let g : true ≡ false = sym broken ∙ f in cc); few = omega (arith, done.spent, few) }
  passes_end ls e each within few (still is kept length_same) =
      let done = whole_is ls e each within is in
      record {
        each = done.each;
        within = done.within;
        ends = done.ends;
        said = λ f. subst (λ xs. AllByRecursion (IsSaid xs) (cells_of P rel)) (sym (done.same length_same)) (done.said f length_same);
        few = omega (arith, done.spent, few);
      }
  passes_end ls e each within few (again f is kept longer rest) =
      let done = whole_is ls f each within is in
      passes_end f.all e done.each (done.within kept) (omega (arith, done.spent, few)) rest

  pub ended_from_none : (e : LinesWritten) → Passes P rel [] e → Ended e
  ended_from_none e passes = passes_end [] e no_lines tt (omega arith) passes

  -- where nothing new is to be said at any cell, the floor is closed
  pub said_closed : (ls : List LineData) → AllByRecursion (IsSaid ls) (cells_of P rel) → IsClosed P rel (floor rel ls)
  said_closed ls said = record {
    bodies = λ m method is H part required. below_chain _ _ _ (body_up m method is H) (at_set m method is H part required);
    overrides = λ m over method is overrides H part required. below_chain _ _ _
        (below_chain _ _ _ (over_above P rel (floor rel ls) m H over overrides) (join_second (body_effect P rel (floor rel ls) (slice_get P.methods m) H) (joined_over rel (floor rel ls) (overriding P m) H)))
        (at_set m method is H part required);
  }
    where
      at_set : (m : ℕ) (method : Method) → slice_get P.methods m ≡ Some method → (H : Held) → IsSubset H (has_path (rel m)) → IsSubset (has_path method.requires_) H → AtMost (certified_up P rel ls m H) (floor rel ls m H)
      at_set m method is H part required = subst (λ K. AtMost (certified_up P rel ls m K) (floor rel ls m K)) (listed P rel (rel m) H part) (at_part P rel (IsSaid ls) said m method is H part required)

      body_up : (m : ℕ) (method : Method) → slice_get P.methods m ≡ Some method → (H : Held) → AtMost (effect P rel (floor rel ls) method.body H) (certified_up P rel ls m H)
      body_up m method is H = subst (λ o. AtMost (body_effect P rel (floor rel ls) o H) (certified_up P rel ls m H)) is (join_first _ _)

  -- and where the lines keep their bounds too, it is admissible
  pub said_admissible : (ls : List LineData) → AllByRecursion (IsSaid ls) (cells_of P rel) → AreWithin P ls → IsAdmissible P rel (floor rel ls)
  said_admissible ls said within = record {
    falling = floor_falls rel ls;
    closed = said_closed ls said;
    bounds = λ m method is. subst (λ o. AtMost (floor rel ls m (has_path method.requires_)) (bound_of o)) is (floor_within rel P ls within m (has_path method.requires_));
  }

  pub kept_admissible : (e : LinesWritten) → Passes P rel [] e → e.broken ≡ false → (A : Assignment) × IsAdmissible P rel A
  kept_admissible e passes kept = let done = ended_from_none e passes in (floor rel e.all, said_admissible e.all (done.said kept) (done.within kept))

  pub broken_certificate : (e : LinesWritten) → Passes P rel [] e → e.broken ≡ true → IsCertificate P rel e.all
  broken_certificate e passes broken = let done = ended_from_none e passes in record { each = done.each; broken = done.ends broken }

  -- a pass that has ended, with a bound broken or not
  some_from : (fuel : ℕ) (ls : List LineData) → AreCertificateLines P rel ls → AreWithin P ls → room (cells_of P rel) ls ≤ fuel → (e : LinesWritten) × Passes P rel ls e
  some_from zero ls each within most =
      let f = pass P rel (cells_of P rel) ls in
      let done = whole ls each within in
      elim f.broken as (λ b. f.broken ≡ b → (e : LinesWritten) × Passes P rel ls e) [
        | true ↦ λ broken. (f, broke refl broken)
        | false ↦ λ kept. (f, still refl kept (omega (arith, done.more, done.spent, most)))
      ] refl
  some_from (suc fuel) ls each within most =
      let f = pass P rel (cells_of P rel) ls in
      let done = whole ls each within in
      elim f.broken as (λ b. f.broken ≡ b → (e : LinesWritten) × Passes P rel ls e) [
        | true ↦ λ broken. (f, broke refl broken)
        | false ↦ λ kept. elim (nat_lt (length ls) (length f.all)) as (λ b. nat_lt (length ls) (length f.all) ≡ b → (e : LinesWritten) × Passes P rel ls e) [
          | true ↦ λ longer.
              let grows = ltb-true (length ls) (length f.all) longer in
              let rest = some_from fuel f.all done.each (done.within kept) (omega (arith, done.spent, most, grows)) in
              (rest.0, again f refl kept grows rest.1)
          | false ↦ λ same. let most_now = ltb-false (length ls) (length f.all) same in (f, still refl kept (omega (arith, done.more, most_now)))
        ] refl
      ] refl

  pub some_end : (e : LinesWritten) × Passes P rel [] e
  some_end = some_from (room (cells_of P rel) []) [] no_lines tt (omega arith)

  one_from : (ls : List LineData) (e f : LinesWritten) → Passes P rel ls e → Passes P rel ls f → e ≡ f
  one_from ls e f (broke is a) (broke also b) = sym is ∙ also
  one_from ls e f (broke is a) (still also b c) = sym is ∙ also
  one_from ls e f (broke is a) (again g also b c rest) = absurd (let h : true ≡ false = sym a ∙ ap (λ w. w.broken) (sym is ∙ also) ∙ b in cc)
  one_from ls e f (still is a k) (broke also b) = sym is ∙ also
  one_from ls e f (still is a k) (still also b c) = sym is ∙ also
  one_from ls e f (still is a k) (again g also b c rest) = absurd (let h : length e.all ≡ length g.all = ap (λ w. length w.all) (sym is ∙ also) in omega (arith, h, k, c))
  one_from ls e f (again g is a k rest) (broke also b) = absurd (let h : true ≡ false = sym b ∙ ap (λ w. w.broken) (sym also ∙ is) ∙ a in cc)
  one_from ls e f (again g is a k rest) (still also b c) = absurd (let h : length f.all ≡ length g.all = ap (λ w. length w.all) (sym also ∙ is) in omega (arith, h, k, c))
  one_from ls e f (again g is a k rest) (again h also b c more) = one_from g.all e f rest (subst (λ w. Passes P rel w.all f) (sym also ∙ is) more)

  pub one_end : (e f : LinesWritten) → Passes P rel [] e → Passes P rel [] f → e ≡ f
  one_end e f first second = one_from [] e f first second

  pub decides : (e : LinesWritten) → Passes P rel [] e → (e.broken ≡ false) ↔ ((A : Assignment) × IsAdmissible P rel A)
  decides e passes = (kept_admissible e passes, λ admissible. false_from_ne_true e.broken (λ broken. certificate_refuses P rel e.all (broken_certificate e passes broken) admissible.0 admissible.1))

  pub certificate_exists : ((lines : List LineData) × IsCertificate P rel lines) ↔ (((A : Assignment) × IsAdmissible P rel A) → ⊥)
  certificate_exists = (
    (λ c a. certificate_refuses P rel c.0 c.1 a.0 a.1),
    λ refuses. (some_end.0.all, broken_certificate some_end.0 some_end.1 (true_from_ne_false some_end.0.broken (λ kept. refuses (kept_admissible some_end.0 some_end.1 kept)))),
  )

pub accepts : (P : Program) (sets : List MethodPaths) (e : LinesWritten) → AreRelevant P sets → AreFew sets → Passes P (rel_of sets) [] e → (e.broken ≡ false) ↔ IsAccepted P
accepts P sets e relevant few passes = (
  (λ kept. let found = kept_admissible P (rel_of sets) e passes kept in record { sets = sets; relevant = relevant; few = few; assignment = found.0; admissible = found.1 }),
  λ accepted. false_from_ne_true e.broken (λ broken. certificate_rejects P sets e.all relevant (broken_certificate P (rel_of sets) e passes broken) accepted),
)
