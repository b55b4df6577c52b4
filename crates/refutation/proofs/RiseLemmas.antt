-- Methods that needn't be asked again after another rose: those that don't call it in their bodies, if it doesn't override them or no more
-- is said of it than of them.
use Rattle.std.proofs.Common.{◌≡◌, ℕ, ◌<◌, Bool, true, false, ◌==◌, List, [], ◌∷◌, ◌++◌, length, take, Some, None, refl, sym, ap, subst, ◌∙◌, ◌+◌, get_or, inl, inr, append_assoc, append-nil}
use Rattle.std.specs.Prelude.{Option, slice_get}
use Rattle.std.specs.List.{AllByRecursion}
use Rattle.std.proofs.lemmas.Bool.{eqb-true, or_cases, or_left, or_right, false_from_ne_true, both_ways}
use Rattle.std.proofs.lemmas.List.{take_more}
use Rattle.paths.specs.Paths.{PathData}
use Rattle.algebra.specs.declared.basic.Basic.{Basic}
use Rattle.algebra.specs.Basics.{below_of, join_of}
use Rattle.algebra.specs.HeldPaths.{Held, has_path}
use Rattle.core_program.specs.Core.{Program, Method}
use Rattle.core_program.specs.Dispatch.{Overrides}
use Rattle.rules.specs.Effect.{Assignment}
use Rattle.rules.specs.Near.{MethodPaths, rel_of}
use Rattle.rules.specs.Overriding.{AreOverriders}
use Rattle.rules.specs.Search.{row_at as overs_at}
use Rattle.rules.specs.Rules.{IsSubset, AtMost, held_in}
use Rattle.rules.specs.Called.{stmt_calls, has_method, method_calls, counts_as_caller, callers_of_method, AreCallers}
use Rattle.rules.proofs.BasicLemmas.{below_chain, below_itself}
use Rattle.rules.proofs.CalleeLemmas.{contained}
use Rattle.refutation.specs.Lines.{LineData, floor, body_effect, certified_effect}
use Rattle.refutation.specs.Certificates.{keeps_bound}
use Rattle.refutation.specs.Passes.{MethodAtSet, LinesWritten, cells_in, subsets_of, by_tests, floor_at, up_at, line_for, pass}
use Rattle.refutation.specs.Tables.{said_by}
use Rattle.refutation.specs.Ends.{KeptAgrees, IsPass}
use Rattle.refutation.specs.Overs.{SaysNoMore}
use Rattle.refutation.specs.Waiting.{Adds, AreSaid, cells_with, AreSettled, AreWoken, AreWokenBut}
use Rattle.refutation.proofs.Sets.{join_least, join_first, join_second}
use Rattle.refutation.proofs.Over.{over_least, over_above}
use Rattle.refutation.proofs.FloorLaws.{floor_more, floor_has, line_itself}
use Rattle.refutation.proofs.WaitLemmas.{adds_none, adds_one, adds_both, floor_other, joined_stays, body_same, its_cells}
use Rattle.refutation.proofs.BodyLemmas.{inside_cells}

-- Lines of a method that rose.

module _ (P : Program) (rel : ℕ → List PathData) (m : ℕ) (old new : List LineData) (adds : Adds m old new) where
  -- what is said of others is the same
  pub others_stay : (n : ℕ) → (n == m) ≡ false → (H : Held) → floor rel old n H ≡ floor rel new n H
  others_stay n other H = by adds.more old adds.its ∙ ap (λ ls. floor rel ls n H) (sym adds.are)
    where
      by : (more ls : List LineData) → AllByRecursion (λ l. l.method ≡ m) more → floor rel ls n H ≡ floor rel (ls ++ more) n H
      by [] ls its = ap (λ xs. floor rel xs n H) (sym (append-nil ls))
      by (l ∷ more) ls its = floor_other P rel ls l n (ap (λ k. n == k) its.0 ∙ other) H ∙ by more (ls ++ l ∷ []) its.1 ∙ ap (λ xs. floor rel xs n H) (append_assoc ls (l ∷ []) more)

  -- and of none less
  none_falls : (n : ℕ) (H : Held) → AtMost (floor rel old n H) (floor rel new n H)
  none_falls n H = subst (λ ls. AtMost (floor rel old n H) (floor rel ls n H)) (sym adds.are) (by adds.more old)
    where
      by : (more ls : List LineData) → AtMost (floor rel ls n H) (floor rel (ls ++ more) n H)
      by [] ls = subst (λ xs. AtMost (floor rel ls n H) (floor rel xs n H)) (sym (append-nil ls)) (below_itself (floor rel ls n H))
      by (l ∷ more) ls = subst (λ xs. AtMost (floor rel ls n H) (floor rel xs n H)) (append_assoc ls (l ∷ []) more) (below_chain _ _ _ (floor_more rel ls l n H) (by more (ls ++ l ∷ [])))

  -- nothing new is to be said at a set of a method that doesn't look at it, or of which as much is said
  set_stays : (n : ℕ) (H : Held) → method_calls (slice_get P.methods n) [] m ≡ false → (Overrides P m n → SaysNoMore rel (floor rel new) m n) → IsSubset H (has_path (rel n))
      → AtMost (certified_effect P rel (floor rel old) n H) (floor rel old n H) → AtMost (certified_effect P rel (floor rel new) n H) (floor rel new n H)
  set_stays n H quiet low inside said = join_least _ _ _ body (over_least P rel (floor rel new) n H (floor rel new n H) (λ k over. by k over (k == m) refl))
    where
      kept : AtMost (certified_effect P rel (floor rel old) n H) (floor rel new n H)
      kept = below_chain _ _ _ said (none_falls n H)

      body : AtMost (body_effect P rel (floor rel new) (slice_get P.methods n) H) (floor rel new n H)
      body = subst (λ b. AtMost b (floor rel new n H)) (body_same P rel (floor rel old) (floor rel new) n m (slice_get P.methods n) H others_stay [] quiet) (below_chain _ _ _ (join_first _ _) kept)

      by : (k : ℕ) → Overrides P k n → (b : Bool) → (k == m) ≡ b → AtMost (floor rel new k (held_in (rel k) H)) (floor rel new n H)
      by k over true e =
          let same = eqb-true k m e in
          subst (λ x. AtMost (floor rel new x (held_in (rel x) H)) (floor rel new n H)) (sym same) (low (subst (λ x. Overrides P x n) same over) H inside)
      by k over false e = subst (λ b. AtMost b (floor rel new n H)) (others_stay k e (held_in (rel k) H)) (below_chain _ _ _ (over_above P rel (floor rel old) n H k over) (below_chain _ _ _ (join_second _ _) kept))

  cells_stay : (n : ℕ) → method_calls (slice_get P.methods n) [] m ≡ false → (Overrides P m n → SaysNoMore rel (floor rel new) m n) → (cells : List MethodAtSet) → AllByRecursion (λ c. c.method ≡ n) cells → AllByRecursion (λ c. IsSubset (has_path c.held) (has_path (rel n))) cells
      → AreSaid P rel cells old → AreSaid P rel cells new
  cells_stay n quiet low [] its inside said = tt
  cells_stay n quiet low (c ∷ cells) its inside said = (
    subst (λ k. AtMost (certified_effect P rel (floor rel new) k (has_path c.held)) (floor rel new k (has_path c.held))) (sym its.0)
        (set_stays n (has_path c.held) quiet low inside.0 (subst (λ k. AtMost (certified_effect P rel (floor rel old) k (has_path c.held)) (floor rel old k (has_path c.held))) its.0 said.0)),
    cells_stay n quiet low cells its.1 inside.1 said.1,
  )

  module _ (rows : List (List ℕ)) (overriders : AreOverriders P rows) where
    method_stays : (n : ℕ) (o : Option Method) → method_calls (slice_get P.methods n) [] m ≡ false → (method_calls o (overs_at rows n) m ≡ true → SaysNoMore rel (floor rel new) m n) → AreSaid P rel (cells_with rel n o) old → AreSaid P rel (cells_with rel n o) new
    method_stays n None quiet low said = tt
    method_stays n (Some method) quiet low said = cells_stay n quiet
        (λ over. low (or_right (stmt_calls (λ k. k == m) method.body) (has_method (overs_at rows n) m) (contained (overs_at rows n) m ((overriders n m).1 over))))
        (cells_in n method.requires_ (subsets_of (rel n))) (its_cells P rel n method.requires_ (subsets_of (rel n))) (inside_cells P rel n method.requires_) said

    -- where all that call it wait, and those that it overrides and of which less is said
    pub settled_risen : (calls callers : List (List ℕ)) (waits between now : List Bool) (called looking : List ℕ) → AreCallers P (overs_at []) calls → AreCallers P (overs_at rows) callers → m < length calls → m < length callers → called ≡ callers_of_method calls m → looking ≡ callers_of_method callers m
        → AreSettled P rel old waits → AreWoken waits between called → AreWokenBut (SaysNoMore rel (floor rel new) m) between now looking → AreSettled P rel new now
    settled_risen calls callers waits between now called looking are all few many its theirs settled wakes others n asleep =
        let last = others n asleep in
        let before = wakes n last.0 in
        let quiet = false_from_ne_true (counts_as_caller P (overs_at []) n m) (λ c. both_ways (has_method called n) before.1 (ap (λ r. has_method r n) its ∙ are m n few c)) in
        method_stays n (slice_get P.methods n) quiet (λ c. last.1 (ap (λ r. has_method r n) theirs ∙ all m n many c)) (settled n before.0)

-- What was asked of a method that doesn't call itself.

module _ (P : Program) (rel : ℕ → List PathData) (m : ℕ) where
  -- a call of it comes to the same behind lines of it
  up_stays : (old new : List LineData) → Adds m old new → method_calls (slice_get P.methods m) [] m ≡ false → (H : Held) → certified_effect P rel (floor rel old) m H ≡ certified_effect P rel (floor rel new) m H
  up_stays old new adds quiet H =
      let body = body_same P rel (floor rel old) (floor rel new) m m (slice_get P.methods m) H (others_stay P rel m old new adds) [] quiet in
      let over = joined_stays P rel m old new adds H in
      (λ i. join_of (body i) (over i))

  -- a pass over its sets adds lines of it
  pass_adds : (cs : List MethodAtSet) → AllByRecursion (λ c. c.method ≡ m) cs → (ls : List LineData) → Adds m ls (pass P rel cs ls).all
  pass_adds [] its ls = adds_none m ls
  pass_adds (c ∷ cs) its ls =
      let more = ls ++ line_for P rel ls c ∷ [] in
      let one = adds_one m ls (line_for P rel ls c) more refl its.0 in
      by (below_of (up_at P rel ls c) (floor_at P rel ls c)) (keeps_bound P c.method (up_at P rel ls c)) (pass_adds cs its.1 ls) (adds_both m ls more (pass P rel cs more).all one (pass_adds cs its.1 more)) one
    where
      by : (known keeps : Bool) → Adds m ls (pass P rel cs ls).all → Adds m ls (pass P rel cs (ls ++ line_for P rel ls c ∷ [])).all → Adds m ls (ls ++ line_for P rel ls c ∷ [])
          → Adds m ls (by_tests known keeps (pass P rel cs ls) (pass P rel cs (ls ++ line_for P rel ls c ∷ [])) (record { all = ls ++ line_for P rel ls c ∷ []; broken = true })).all
      by true keeps one two three = one
      by false true one two three = two
      by false false one two three = three

  -- what a call comes to at a set, and is said there, is said behind more lines
  said_behind : method_calls (slice_get P.methods m) [] m ≡ false → (c : MethodAtSet) → c.method ≡ m → (ls now new : List LineData) → Adds m ls new → Adds m now new → AtMost (up_at P rel ls c) (floor_at P rel now c) → AtMost (up_at P rel new c) (floor_at P rel new c)
  said_behind quiet c its ls now new all adds low =
      let same = subst (λ k. certified_effect P rel (floor rel ls) k (has_path c.held) ≡ certified_effect P rel (floor rel new) k (has_path c.held)) (sym its) (up_stays ls new all quiet (has_path c.held)) in
      subst (λ b. AtMost b (floor_at P rel new c)) same (below_chain _ _ _ low (none_falls P rel m now new adds c.method (has_path c.held)))

  said_after : method_calls (slice_get P.methods m) [] m ≡ false → (cs : List MethodAtSet) → AllByRecursion (λ c. c.method ≡ m) cs → (ls new : List LineData) → pass P rel cs ls ≡ record { all = new; broken = false } → AreSaid P rel cs new
  said_after quiet [] its ls new is = tt
  said_after quiet (c ∷ cs) its ls new is =
      by (below_of (up_at P rel ls c) (floor_at P rel ls c)) (keeps_bound P c.method (up_at P rel ls c)) refl is (said_after quiet cs its.1 ls new) (said_after quiet cs its.1 (ls ++ line_for P rel ls c ∷ []) new)
    where
      by : (known keeps : Bool) → below_of (up_at P rel ls c) (floor_at P rel ls c) ≡ known
          → by_tests known keeps (pass P rel cs ls) (pass P rel cs (ls ++ line_for P rel ls c ∷ [])) (record { all = ls ++ line_for P rel ls c ∷ []; broken = true }) ≡ record { all = new; broken = false }
          → (pass P rel cs ls ≡ record { all = new; broken = false } → AreSaid P rel cs new) → (pass P rel cs (ls ++ line_for P rel ls c ∷ []) ≡ record { all = new; broken = false } → AreSaid P rel cs new) → AreSaid P rel (c ∷ cs) new
      by true keeps low e skipped added =
          let adds = subst (Adds m ls) (ap (λ (w : LinesWritten). w.all) e) (pass_adds cs its.1 ls) in
          (said_behind quiet c its.0 ls ls new adds adds low, skipped e)
      by false true low e skipped added =
          let l = line_for P rel ls c in
          let more = ls ++ l ∷ [] in
          let adds = subst (Adds m more) (ap (λ (w : LinesWritten). w.all) e) (pass_adds cs its.1 more) in
          let here = subst (λ b. AtMost b (floor_at P rel more c)) (line_itself rel l) (floor_has rel ls l c.method (has_path c.held)) in
          (said_behind quiet c its.0 ls more new (adds_both m ls more new (adds_one m ls l more refl its.0) adds) adds here, added e)
      by false false low e skipped added = absurd (let f : true ≡ false = ap (λ (w : LinesWritten). w.broken) e in cc)

  -- asked at all its sets, nothing new is to be said of it
  pub said_quiet : (required : List PathData) (old new : List LineData) → method_calls (slice_get P.methods m) [] m ≡ false → IsPass P rel (cells_in m required (subsets_of (rel m))) old new false → AreSaid P rel (cells_in m required (subsets_of (rel m))) new
  said_quiet required old new quiet asked =
      let cells = cells_in m required (subsets_of (rel m)) in
      said_after quiet cells (its_cells P rel m required (subsets_of (rel m))) old new (ap (λ cs. pass P rel cs old) (sym (append-nil cells)) ∙ asked [])

-- what the tables say of two methods, the lines say
pub no_more_kept : (P : Program) (sets kept : List MethodPaths) (rows : List (List Basic)) (lines : List LineData) → KeptAgrees P sets kept rows lines → (m n : ℕ) → SaysNoMore (rel_of kept) (said_by (rel_of kept) rows) m n → SaysNoMore (rel_of sets) (floor (rel_of sets) lines) m n
no_more_kept P sets kept rows lines agrees m n low =
    subst (λ s. SaysNoMore (rel_of s) (floor (rel_of s) lines) m n) agrees.same (subst (λ (A : Assignment). SaysNoMore (rel_of kept) A m n) agrees.says.says low)

-- Marks.

is_one : (place m : ℕ) → has_method (place ∷ []) m ≡ true → place ≡ m
is_one place m has = elim (or_cases (place == m) false has) as (λ _. place ≡ m) [
  | inl same ↦ eqb-true place m same
  | inr none ↦ absurd (let e : false ≡ true = none in cc)
]

-- a method that isn't woken
pub not_woken : (Holds : ℕ → Type 0) (waits : List Bool) (place : ℕ) → (slice_get waits place ≡ Some false → Holds place) → AreWokenBut Holds waits waits (place ∷ [])
not_woken Holds waits place holds m asleep = (
  asleep,
  λ has. subst Holds (is_one place m has) (holds (subst (λ k. slice_get waits k ≡ Some false) (sym (is_one place m has)) asleep)),
)

pub woken_one : (Holds : ℕ → Type 0) (waits now : List Bool) (methods : List ℕ) → AreWoken waits now methods → AreWokenBut Holds waits now methods
woken_one Holds waits now methods woken m asleep = let one = woken m asleep in (one.0, λ has. absurd (both_ways (has_method methods m) one.1 has))

-- one method more of a list
pub but_more : (Holds : ℕ → Type 0) (waits between now : List Bool) (methods : List ℕ) (k place : ℕ) → k < length methods → place ≡ get_or methods k place → AreWokenBut Holds waits between (take k methods) → AreWokenBut Holds between now (place ∷ []) → AreWokenBut Holds waits now (take (k + 1) methods)
but_more Holds waits between now methods k place below is before one m asleep =
    let last = one m asleep in
    let old = before m last.0 in
    (old.0, λ has. by (take k methods) old.1 last.1 (sym (ap (λ xs. has_method xs m) (take_more methods k place below ∙ ap (λ x. take k methods ++ x ∷ []) (sym is))) ∙ has))
  where
    by : (xs : List ℕ) → (has_method xs m ≡ true → Holds m) → (has_method (place ∷ []) m ≡ true → Holds m) → has_method (xs ++ place ∷ []) m ≡ true → Holds m
    by [] front back has = back has
    by (x ∷ xs) front back has = elim (or_cases (x == m) (has_method (xs ++ place ∷ []) m) has) as (λ _. Holds m) [
      | inl same ↦ front (or_left (x == m) (has_method xs m) same)
      | inr later ↦ by xs (λ h. front (or_right (x == m) (has_method xs m) h)) back later
    ]
