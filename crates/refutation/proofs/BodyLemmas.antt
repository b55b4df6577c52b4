-- Methods whose bodies needn't be asked again: what a body comes to changes only where a method that it calls is raised. Where it is
-- said, and as much is said of the method as of those that override it, nothing new is to be said.
use Rattle.std.proofs.Common.{◌≡◌, ℕ, zero, suc, ◌/◌, ◌<◌, Bool, true, false, ◌&&◌, ◌==◌, List, [], ◌∷◌, ◌++◌, length, take, drop, Some, None, refl, sym, ap, subst, ◌∙◌, append_assoc, append-nil}
use Rattle.std.specs.Prelude.{Option, filter, map, slice_get}
use Rattle.std.specs.List.{list_all, AllByRecursion}
use Rattle.std.proofs.lemmas.Bool.{eqb-true, eqb-false, false_from_ne_true, both_ways}
use Rattle.paths.specs.Paths.{PathData}
use Rattle.algebra.specs.declared.basic.Basic.{Basic}
use Rattle.algebra.specs.Basics.{below_of}
use Rattle.algebra.specs.HeldPaths.{Held, has_path}
use Rattle.algebra.specs.Tables.{half_table}
use Rattle.core_program.specs.Core.{Program, Method}
use Rattle.rules.specs.Effect.{Assignment}
use Rattle.rules.specs.Near.{MethodPaths, rel_of}
use Rattle.rules.specs.Search.{row_at, row_at as overs_at}
use Rattle.rules.specs.Rules.{IsSubset, AtMost}
use Rattle.rules.specs.Called.{has_method, method_calls, counts_as_caller, callers_of_method, AreCallers}
use Rattle.rules.proofs.BasicLemmas.{below_chain}
use Rattle.rules.proofs.SetLemmas.{first, second}
use Rattle.refutation.specs.Lines.{LineData, floor, overriding, joined_over, body_effect}
use Rattle.refutation.specs.Passes.{MethodAtSet, cells_in, subsets_of, floor_at}
use Rattle.refutation.specs.Tables.{table_entry, said_by}
use Rattle.refutation.specs.Ends.{KeptAgrees, IsPass, cells_at}
use Rattle.refutation.specs.Overs.{IsSaidOver, below_each}
use Rattle.refutation.specs.Waiting.{Adds, AreSaid, AreBodiesSaid, cells_with, AreBodiesSettled, AreWoken, IsAsleep}
use Rattle.refutation.proofs.Sets.{join_least, join_first}
use Rattle.refutation.proofs.FloorLaws.{floor_more}
use Rattle.refutation.proofs.MakerLemmas.{asked_inside}
use Rattle.refutation.proofs.WaitLemmas.{said_asked, floor_other, body_same, its_cells}

-- Tables of which one has at most what another has.

below_length : (xs ys : List Basic) → below_each xs ys ≡ true → length xs ≡ length ys
below_length [] [] e = refl
below_length [] (y ∷ ys) e = absurd (let f : false ≡ true = e in cc)
below_length (x ∷ xs) [] e = absurd (let f : false ≡ true = e in cc)
below_length (x ∷ xs) (y ∷ ys) e = ap suc (below_length xs ys (second (below_of x y) (below_each xs ys) e))

below_drop : (n : ℕ) (xs ys : List Basic) → below_each xs ys ≡ true → below_each (drop n xs) (drop n ys) ≡ true
below_drop zero xs ys e = e
below_drop (suc n) [] [] e = refl
below_drop (suc n) [] (y ∷ ys) e = absurd (let f : false ≡ true = e in cc)
below_drop (suc n) (x ∷ xs) [] e = absurd (let f : false ≡ true = e in cc)
below_drop (suc n) (x ∷ xs) (y ∷ ys) e = below_drop n xs ys (second (below_of x y) (below_each xs ys) e)

below_take : (n : ℕ) (xs ys : List Basic) → below_each xs ys ≡ true → below_each (take n xs) (take n ys) ≡ true
below_take zero xs ys e = refl
below_take (suc n) [] [] e = refl
below_take (suc n) [] (y ∷ ys) e = absurd (let f : false ≡ true = e in cc)
below_take (suc n) (x ∷ xs) [] e = absurd (let f : false ≡ true = e in cc)
below_take (suc n) (x ∷ xs) (y ∷ ys) e =
    ap (λ b. b && below_each (take n xs) (take n ys)) (first (below_of x y) (below_each xs ys) e) ∙ below_take n xs ys (second (below_of x y) (below_each xs ys) e)

half_below : (b : Bool) (xs ys : List Basic) → below_each xs ys ≡ true → below_each (half_table b xs) (half_table b ys) ≡ true
half_below true xs ys e = subst (λ n. below_each (drop (length xs / 2) xs) (drop (n / 2) ys) ≡ true) (below_length xs ys e) (below_drop (length xs / 2) xs ys e)
half_below false xs ys e = subst (λ n. below_each (take (length xs / 2) xs) (take (n / 2) ys) ≡ true) (below_length xs ys e) (below_take (length xs / 2) xs ys e)

-- it says at most as much
pub entry_below : (rel : List PathData) (xs ys : List Basic) (H : Held) → below_each xs ys ≡ true → AtMost (table_entry rel xs H) (table_entry rel ys H)
entry_below [] [] [] H e = refl
entry_below [] [] (y ∷ ys) H e = absurd (let f : false ≡ true = e in cc)
entry_below [] (x ∷ xs) [] H e = absurd (let f : false ≡ true = e in cc)
entry_below [] (x ∷ xs) (y ∷ ys) H e = first (below_of x y) (below_each xs ys) e
entry_below (p ∷ ps) xs ys H e = entry_below ps (half_table (H p) xs) (half_table (H p) ys) H (half_below (H p) xs ys e)

module _ (P : Program) (rel : ℕ → List PathData) where
  -- where nothing new is to be said, the bodies are said
  pub bodies_of_said : (cells : List MethodAtSet) (ls : List LineData) → AreSaid P rel cells ls → AreBodiesSaid P rel cells ls
  bodies_of_said [] ls said = tt
  bodies_of_said (c ∷ cells) ls said = (below_chain _ _ _ (join_first _ _) said.0, bodies_of_said cells ls said.1)

  -- no more is said of the methods that override one than of the method itself
  abbrev pub IsOverSaid : List LineData → ℕ → Type 0
  IsOverSaid ls m = (H : Held) → IsSubset H (has_path (rel m)) → AtMost (joined_over rel (floor rel ls) (overriding P m) H) (floor rel ls m H)

  said_both : (m : ℕ) (ls : List LineData) → IsOverSaid ls m → (cells : List MethodAtSet) → AllByRecursion (λ c. c.method ≡ m) cells → AllByRecursion (λ c. IsSubset (has_path c.held) (has_path (rel m))) cells → AreBodiesSaid P rel cells ls
      → AreSaid P rel cells ls
  said_both m ls over [] its inside bodies = tt
  said_both m ls over (c ∷ cells) its inside bodies = (
    join_least _ _ _ bodies.0 (subst (λ k. AtMost (joined_over rel (floor rel ls) (overriding P k) (has_path c.held)) (floor rel ls k (has_path c.held))) (sym its.0) (over (has_path c.held) inside.0)),
    said_both m ls over cells its.1 inside.1 bodies.1,
  )

  -- the cells of a method hold its relevant paths
  pub inside_cells : (m : ℕ) (required : List PathData) → AllByRecursion (λ c. IsSubset (has_path c.held) (has_path (rel m))) (cells_in m required (subsets_of (rel m)))
  inside_cells m required = mapped (filter (λ held. list_all (has_path held) required) (subsets_of (rel m))) (asked_inside (rel m) required (filter (λ held. list_all (has_path held) required) (subsets_of (rel m))) refl)
    where
      mapped : (xs : List (List PathData)) → AllByRecursion (λ held. IsSubset (has_path held) (has_path (rel m))) xs → AllByRecursion (λ (c : MethodAtSet). IsSubset (has_path c.held) (has_path (rel m))) (map (λ held. record { method = m; held = held }) xs)
      mapped [] all = tt
      mapped (x ∷ xs) all = (all.0, mapped xs all.1)

  -- with that and what its body comes to, nothing new is to be said of a method
  pub said_of_bodies : (m : ℕ) (required : List PathData) (ls : List LineData) → IsOverSaid ls m → AreBodiesSaid P rel (cells_in m required (subsets_of (rel m))) ls → AreSaid P rel (cells_in m required (subsets_of (rel m))) ls
  said_of_bodies m required ls over = said_both m ls over (cells_in m required (subsets_of (rel m))) (its_cells P rel m required (subsets_of (rel m))) (inside_cells m required)

  -- a body that is said is after a line of a method that it doesn't call
  body_stays : (n : ℕ) (ls : List LineData) (l : LineData) → method_calls (slice_get P.methods n) [] l.method ≡ false → (cells : List MethodAtSet) → AllByRecursion (λ c. c.method ≡ n) cells → AreBodiesSaid P rel cells ls → AreBodiesSaid P rel cells (ls ++ l ∷ [])
  body_stays n ls l quiet [] its said = tt
  body_stays n ls l quiet (c ∷ cells) its said = (here, body_stays n ls l quiet cells its.1 said.1)
    where
      same : body_effect P rel (floor rel ls) (slice_get P.methods c.method) (has_path c.held) ≡ body_effect P rel (floor rel (ls ++ l ∷ [])) (slice_get P.methods c.method) (has_path c.held)
      same = subst (λ k. body_effect P rel (floor rel ls) (slice_get P.methods k) (has_path c.held) ≡ body_effect P rel (floor rel (ls ++ l ∷ [])) (slice_get P.methods k) (has_path c.held)) (sym its.0)
          (body_same P rel (floor rel ls) (floor rel (ls ++ l ∷ [])) n l.method (slice_get P.methods n) (has_path c.held) (λ k e K. floor_other P rel ls l k e K) [] quiet)

      here : AtMost (body_effect P rel (floor rel (ls ++ l ∷ [])) (slice_get P.methods c.method) (has_path c.held)) (floor_at P rel (ls ++ l ∷ []) c)
      here = subst (λ b. AtMost b (floor_at P rel (ls ++ l ∷ []) c)) same (below_chain _ _ _ said.0 (floor_more rel ls l c.method (has_path c.held)))

  bodies_stay : (n m : ℕ) → method_calls (slice_get P.methods n) [] m ≡ false → (cells : List MethodAtSet) → AllByRecursion (λ c. c.method ≡ n) cells → (more ls : List LineData) → AllByRecursion (λ l. l.method ≡ m) more
      → AreBodiesSaid P rel cells ls → AreBodiesSaid P rel cells (ls ++ more)
  bodies_stay n m quiet cells its [] ls all said = subst (AreBodiesSaid P rel cells) (sym (append-nil ls)) said
  bodies_stay n m quiet cells its (l ∷ more) ls all said =
      subst (AreBodiesSaid P rel cells) (append_assoc ls (l ∷ []) more)
      (bodies_stay n m quiet cells its more (ls ++ l ∷ []) all.1 (body_stays n ls l (ap (method_calls (slice_get P.methods n) []) all.0 ∙ quiet) cells its said))

  stay_at : (n m : ℕ) (o : Option Method) → method_calls (slice_get P.methods n) [] m ≡ false → (old new : List LineData) → Adds m old new → AreBodiesSaid P rel (cells_with rel n o) old → AreBodiesSaid P rel (cells_with rel n o) new
  stay_at n m None quiet old new adds said = tt
  stay_at n m (Some method) quiet old new adds said = subst (AreBodiesSaid P rel (cells_with rel n (Some method))) (sym adds.are)
      (bodies_stay n m quiet (cells_with rel n (Some method)) (its_cells P rel n method.requires_ (subsets_of (rel n))) adds.more old adds.its said)

  -- what is said of them at some sets of a method that doesn't call itself is said behind lines of it
  pub bodies_behind : (m : ℕ) → method_calls (slice_get P.methods m) [] m ≡ false → (sets : List (List PathData)) (old new : List LineData) → Adds m old new → AreBodiesSaid P rel (cells_at m sets) old → AreBodiesSaid P rel (cells_at m sets) new
  bodies_behind m quiet sets old new adds said = subst (AreBodiesSaid P rel (cells_at m sets)) (sym adds.are) (bodies_stay m m quiet (cells_at m sets) (its sets) adds.more old adds.its said)
    where
      its : (xs : List (List PathData)) → AllByRecursion (λ (c : MethodAtSet). c.method ≡ m) (cells_at m xs)
      its [] = tt
      its (x ∷ xs) = (refl, its xs)

  -- after lines of a method, where its body waits no longer, and then all bodies that call it wait
  pub bodies_woken : (calls : List (List ℕ)) (m : ℕ) (old new : List LineData) (waits slept now : List Bool) (woken : List ℕ) → AreCallers P (overs_at []) calls → m < length calls → woken ≡ callers_of_method calls m
      → (method_calls (slice_get P.methods m) [] m ≡ false → AreBodiesSaid P rel (cells_with rel m (slice_get P.methods m)) new) → AreBodiesSettled P rel old waits → Adds m old new → IsAsleep waits slept m → AreWoken slept now woken → AreBodiesSettled P rel new now
  bodies_woken calls m old new waits slept now woken are below row own settled adds sleeps wakes n asleep =
      let kept = wakes n asleep in
      let quiet = false_from_ne_true (counts_as_caller P (overs_at []) n m) (λ c. both_ways (has_method woken n) kept.1 (ap (λ r. has_method r n) row ∙ are m n below c)) in
      by n quiet kept.0 (n == m) refl
    where
      by : (n : ℕ) → method_calls (slice_get P.methods n) [] m ≡ false → slice_get slept n ≡ Some false → (b : Bool) → (n == m) ≡ b → AreBodiesSaid P rel (cells_with rel n (slice_get P.methods n)) new
      by n quiet asleep true e =
          let same = eqb-true n m e in
          subst (λ k. AreBodiesSaid P rel (cells_with rel k (slice_get P.methods k)) new) (sym same) (own (subst (λ k. method_calls (slice_get P.methods k) [] m ≡ false) same quiet))
      by n quiet asleep false e = stay_at n m (slice_get P.methods n) quiet old new adds (settled n (sleeps n asleep (eqb-false n m e)))

  -- after a method of which nothing new is to be said
  pub bodies_asleep : (m : ℕ) (method : Method) (ls now : List LineData) (waits next : List Bool) → slice_get P.methods m ≡ Some method → now ≡ ls → AreBodiesSettled P rel ls waits → AreSaid P rel (cells_in m method.requires_ (subsets_of (rel m))) ls
      → IsAsleep waits next m → AreBodiesSettled P rel now next
  bodies_asleep m method ls now waits next is same settled said sleeps n asleep = subst (AreBodiesSaid P rel (cells_with rel n (slice_get P.methods n))) (sym same) (by (n == m) refl)
    where
      by : (b : Bool) → (n == m) ≡ b → AreBodiesSaid P rel (cells_with rel n (slice_get P.methods n)) ls
      by true e = subst (λ k. AreBodiesSaid P rel (cells_with rel k (slice_get P.methods k)) ls) (sym (eqb-true n m e))
          (subst (λ o. AreBodiesSaid P rel (cells_with rel m o) ls) (sym is) (bodies_of_said (cells_in m method.requires_ (subsets_of (rel m))) ls said))
      by false e = settled n (sleeps n asleep (eqb-false n m e))

-- where the table of what is said of a method has as much as that of those that override it
pub over_said : (P : Program) (sets kept : List MethodPaths) (rows : List (List Basic)) (lines : List LineData) → KeptAgrees P sets kept rows lines → (m : ℕ) (table : List Basic) (whole : Bool) (most : Basic)
    → IsSaidOver P (rel_of sets) (floor (rel_of sets) lines) m table whole most → (whole && below_each table (row_at rows m)) ≡ true → IsOverSaid P (rel_of sets) lines m
over_said P sets kept rows lines agrees m table whole most is much H part =
    let rel = rel_of sets in
    let said : said_by rel rows ≡ floor rel lines = subst (λ s. said_by (rel_of s) rows ≡ floor (rel_of s) lines) agrees.same agrees.says.says in
    subst (λ b. AtMost b (floor rel lines m H)) (is.each (first whole (below_each table (row_at rows m)) much) H part)
    (subst (AtMost (table_entry (rel m) table H)) (ap (λ (A : Assignment). A m H) said) (entry_below (rel m) table (row_at rows m) H (second whole (below_each table (row_at rows m)) much)))

-- where it has as much at one set
pub over_said_at : (P : Program) (sets kept : List MethodPaths) (rows : List (List Basic)) (lines : List LineData) → KeptAgrees P sets kept rows lines → (m : ℕ) (table : List Basic) (whole : Bool) (most : Basic) → IsSaidOver P (rel_of sets) (floor (rel_of sets) lines) m table whole most
    → (held : List PathData) → IsSubset (has_path held) (has_path (rel_of sets m)) → AreBodiesSaid P (rel_of sets) (record { method = m; held = held } ∷ []) lines → (whole && below_of (table_entry (rel_of kept m) table (has_path held)) (said_by (rel_of kept) rows m (has_path held))) ≡ true
    → IsPass P (rel_of sets) (record { method = m; held = held } ∷ []) lines lines false
over_said_at P sets kept rows lines agrees m table whole most is held part body much =
    let rel = rel_of sets in
    let H = has_path held in
    let said : said_by rel rows ≡ floor rel lines = subst (λ s. said_by (rel_of s) rows ≡ floor (rel_of s) lines) agrees.same agrees.says.says in
    let here = subst (λ s. (whole && below_of (table_entry (rel_of s m) table H) (said_by (rel_of s) rows m H)) ≡ true) agrees.same much in
    let low = subst (AtMost (table_entry (rel m) table H)) (ap (λ (A : Assignment). A m H) said) (second whole (below_of (table_entry (rel m) table H) (said_by rel rows m H)) here) in
    let over = subst (λ b. AtMost b (floor rel lines m H)) (is.each (first whole (below_of (table_entry (rel m) table H) (said_by rel rows m H)) here) H part) low in
    said_asked P rel (record { method = m; held = held } ∷ []) lines (join_least _ _ _ body.0 over, tt)

-- marks of bodies
pub none_body_settled : (P : Program) (rel : ℕ → List PathData) (ls : List LineData) (waits : List Bool) → ((m : ℕ) → slice_get waits m ≡ Some false → ⊥) → AreBodiesSettled P rel ls waits
none_body_settled P rel ls waits all m asleep = absurd (all m asleep)
