-- Methods that needn't be asked again: to ask where nothing new is to be said adds no line, and what is said of the methods that override
-- one stays where lines of that one are added.
use Rattle.std.proofs.Common.{◌≡◌, ℕ, zero, suc, ◌+◌, ◌-◌, ◌<◌, ◌≤◌, Bool, true, false, ◌||◌, ◌&&◌, ◌==◌, List, [], ◌∷◌, ◌++◌, length, take, drop, get_or, slice_get, Some, None, refl, sym, ap, subst, ◌∙◌, arith, append_assoc, append-nil}
use Rattle.std.specs.Prelude.{Option, filter, map, if◌then◌else◌}
use Rattle.std.specs.List.{list_all, AllByRecursion}
use Rattle.std.proofs.Common.{length-append}
use Rattle.std.proofs.lemmas.Bool.{eqb-true, eqb-false, ne_eqb}
use Rattle.std.proofs.lemmas.Grind.{common_steps}
use Rattle.std.proofs.lemmas.List.{take_more, length-drop}
use Rattle.paths.specs.Paths.{PathData}
use Rattle.algebra.specs.declared.basic.Basic.{Basic}
use Rattle.algebra.specs.declared.basic.Basic.TheVariants.{Const}
use Rattle.algebra.specs.Basics.{below_of, join_of}
use Rattle.algebra.specs.HeldPaths.{Held, has_path}
use Rattle.core_program.specs.Core.{Program, Method}
use Rattle.core_program.specs.Dispatch.{Overrides}
use Rattle.rules.specs.Effect.{Assignment}
use Rattle.rules.specs.Rules.{AtMost, held_in}
use Rattle.rules.proofs.BasicLemmas.{below_chain, both_below}
use Rattle.rules.specs.Called.{stmt_calls, has_method, method_calls}
use Rattle.rules.proofs.CallsSame.{first_false, second_false, stmt_same}
use Rattle.refutation.specs.Lines.{LineData, covers, floor, overriding, joined_over, body_effect}
use Rattle.refutation.specs.Certificates.{keeps_bound}
use Rattle.refutation.specs.Passes.{MethodAtSet, cells_in, cells_from, subsets_of, LinesWritten, by_tests, floor_at, up_at, line_for, pass}
use Rattle.refutation.specs.Ends.{IsPass}
use Rattle.refutation.specs.Overs.{IsSaidOver}
use Rattle.refutation.specs.Waiting.{Adds, IsMostOver, AreSaid, cells_with, AreSettled, AreWoken, IsAsleep}
use Rattle.refutation.proofs.Sets.{join_const}
use Rattle.refutation.proofs.Over.{over_least, over_above}
use Rattle.refutation.proofs.TableLemmas.{lines_is}

-- Lines that are added.

pub adds_none : (m : ℕ) (ls : List LineData) → Adds m ls ls
adds_none m ls = record { more = []; are = sym (append-nil ls); its = tt }

pub adds_one : (m : ℕ) (ls : List LineData) (l : LineData) (new : List LineData) → new ≡ ls ++ l ∷ [] → l.method ≡ m → Adds m ls new
adds_one m ls l new is its = record { more = l ∷ []; are = is; its = (its, tt) }

pub adds_both : (m : ℕ) (a b c : List LineData) → Adds m a b → Adds m b c → Adds m a c
adds_both m a b c one two = record {
  more = one.more ++ two.more;
  are = two.are ∙ ap (λ ls. ls ++ two.more) one.are ∙ append_assoc a one.more two.more;
  its = both one.more one.its;
}
  where
    both : (xs : List LineData) → AllByRecursion (λ l. l.method ≡ m) xs → AllByRecursion (λ l. l.method ≡ m) (xs ++ two.more)
    both [] all = two.its
    both (x ∷ xs) all = (all.0, both xs all.1)

-- no line more
pub adds_nothing : (m : ℕ) (old new : List LineData) → Adds m old new → length new ≡ length old → new ≡ old
adds_nothing m old new adds same = by adds.more adds.are
  where
    by : (more : List LineData) → new ≡ old ++ more → new ≡ old
    by [] is = is ∙ append-nil old
    by (x ∷ xs) is = let l = length-append old (x ∷ xs) in let long = ap length is in absurd (omega (arith, l, long, same))

drop_both : {A : Type 0} (xs : List A) (n k : ℕ) → drop k (drop n xs) ≡ drop (n + k) xs
drop_both xs n k = grind (arith, common_steps)

module _ (P : Program) (rel : ℕ → List PathData) where
  -- to ask where nothing new is to be said adds no line
  pub said_asked : (cells : List MethodAtSet) (ls : List LineData) → AreSaid P rel cells ls → IsPass P rel cells ls ls false
  said_asked [] ls said cs = refl
  said_asked (c ∷ cells) ls said cs =
      ap (λ t. by_tests t (keeps_bound P c.method (up_at P rel ls c)) (pass P rel (cells ++ cs) ls) (pass P rel (cells ++ cs) (ls ++ line_for P rel ls c ∷ [])) (record { all = ls ++ line_for P rel ls c ∷ []; broken = true })) said.0
      ∙ said_asked cells ls said.1 cs

  pass_longer : (cs : List MethodAtSet) (ls : List LineData) → length ls ≤ length (pass P rel cs ls).all
  pass_longer [] ls = omega arith
  pass_longer (c ∷ cs) ls =
      let more = ls ++ line_for P rel ls c ∷ [] in
      let one = length-append ls (line_for P rel ls c ∷ []) in
      by (below_of (up_at P rel ls c) (floor_at P rel ls c)) (keeps_bound P c.method (up_at P rel ls c)) (pass_longer cs ls) (omega (arith, one, pass_longer cs more)) (omega (arith, one))
    where
      by : (known keeps : Bool) → length ls ≤ length (pass P rel cs ls).all → length ls ≤ length (pass P rel cs (ls ++ line_for P rel ls c ∷ [])).all → length ls ≤ length (ls ++ line_for P rel ls c ∷ [])
          → length ls ≤ length (by_tests known keeps (pass P rel cs ls) (pass P rel cs (ls ++ line_for P rel ls c ∷ [])) (record { all = ls ++ line_for P rel ls c ∷ []; broken = true })).all
      by true keeps one two three = one
      by false true one two three = two
      by false false one two three = three

  -- where a pass adds no line, nothing new is to be said at its cells
  passed_said : (cs : List MethodAtSet) (ls : List LineData) → pass P rel cs ls ≡ record { all = ls; broken = false } → AreSaid P rel cs ls
  passed_said [] ls is = tt
  passed_said (c ∷ cs) ls is =
      by (below_of (up_at P rel ls c) (floor_at P rel ls c)) (keeps_bound P c.method (up_at P rel ls c)) refl is (λ e. passed_said cs ls e)
    where
      by : (known keeps : Bool) → below_of (up_at P rel ls c) (floor_at P rel ls c) ≡ known
          → by_tests known keeps (pass P rel cs ls) (pass P rel cs (ls ++ line_for P rel ls c ∷ [])) (record { all = ls ++ line_for P rel ls c ∷ []; broken = true }) ≡ record { all = ls; broken = false }
          → (pass P rel cs ls ≡ record { all = ls; broken = false } → AreSaid P rel cs ls) → AreSaid P rel (c ∷ cs) ls
      by true keeps is e rest = (is, rest e)
      by false true is e rest =
          let one = length-append ls (line_for P rel ls c ∷ []) in
          let long = pass_longer cs (ls ++ line_for P rel ls c ∷ []) in
          let short = ap (λ (w : LinesWritten). length w.all) e in
          absurd (omega (arith, one, long, short))
      by false false is e rest = absurd (let f : true ≡ false = ap (λ (w : LinesWritten). w.broken) e in cc)

  pub asked_said : (cells : List MethodAtSet) (ls : List LineData) → IsPass P rel cells ls ls false → AreSaid P rel cells ls
  asked_said cells ls asked = passed_said cells ls (ap (λ cs. pass P rel cs ls) (sym (append-nil cells)) ∙ asked [])

  -- What one line more changes.

  pub floor_other : (ls : List LineData) (l : LineData) (m : ℕ) → (m == l.method) ≡ false → (H : Held) → floor rel ls m H ≡ floor rel (ls ++ l ∷ []) m H
  floor_other ls l m other H = sym (lines_is rel ls l m H ∙ ap (λ b. join_of (floor rel ls m H) (if b && covers l.held (rel m) H then l.found else Const)) turned ∙ join_const (floor rel ls m H))
    where
      turned : (l.method == m) ≡ false
      turned = ne_eqb l.method m (λ e. eqb-false m l.method other (sym e))

  -- where lines of a method are added, no more is said of those that override it
  most_stays : (m : ℕ) (most : Basic) (old new : List LineData) → Adds m old new → IsMostOver P rel old m most → IsMostOver P rel new m most
  most_stays m most old new adds is = subst (λ ls. IsMostOver P rel ls m most) (sym adds.are) (by adds.more old adds.its is)
    where
      one : (l : LineData) (ls : List LineData) → l.method ≡ m → IsMostOver P rel ls m most → IsMostOver P rel (ls ++ l ∷ []) m most
      one l ls its is H = over_least P rel (floor rel (ls ++ l ∷ [])) m H most (λ n over.
          subst (λ b. AtMost b most) (floor_other ls l n (ne_eqb n l.method (λ e. over.differs (e ∙ its))) (held_in (rel n) H)) (below_chain _ _ _ (over_above P rel (floor rel ls) m H n over) (is H)))

      by : (more ls : List LineData) → AllByRecursion (λ l. l.method ≡ m) more → IsMostOver P rel ls m most → IsMostOver P rel (ls ++ more) m most
      by [] ls its is = subst (λ xs. IsMostOver P rel xs m most) (sym (append-nil ls)) is
      by (l ∷ more) ls its is = subst (λ xs. IsMostOver P rel xs m most) (append_assoc ls (l ∷ []) more) (by more (ls ++ l ∷ []) its.1 (one l ls its.0 is))

  -- nor less
  pub joined_stays : (m : ℕ) (old new : List LineData) → Adds m old new → (H : Held) → joined_over rel (floor rel old) (overriding P m) H ≡ joined_over rel (floor rel new) (overriding P m) H
  joined_stays m old new adds H = by adds.more old adds.its ∙ ap (λ ls. joined_over rel (floor rel ls) (overriding P m) H) (sym adds.are)
    where
      same : (l : LineData) (ls : List LineData) → l.method ≡ m → (n : ℕ) → Overrides P n m → floor rel ls n (held_in (rel n) H) ≡ floor rel (ls ++ l ∷ []) n (held_in (rel n) H)
      same l ls its n over = floor_other ls l n (ne_eqb n l.method (λ e. over.differs (e ∙ its))) (held_in (rel n) H)

      one : (l : LineData) (ls : List LineData) → l.method ≡ m → joined_over rel (floor rel ls) (overriding P m) H ≡ joined_over rel (floor rel (ls ++ l ∷ [])) (overriding P m) H
      one l ls its = both_below _ _
          (over_least P rel (floor rel ls) m H _ (λ n over. subst (λ b. AtMost b (joined_over rel (floor rel (ls ++ l ∷ [])) (overriding P m) H)) (sym (same l ls its n over)) (over_above P rel (floor rel (ls ++ l ∷ [])) m H n over)))
          (over_least P rel (floor rel (ls ++ l ∷ [])) m H _ (λ n over. subst (λ b. AtMost b (joined_over rel (floor rel ls) (overriding P m) H)) (same l ls its n over) (over_above P rel (floor rel ls) m H n over)))

      by : (more ls : List LineData) → AllByRecursion (λ l. l.method ≡ m) more → joined_over rel (floor rel ls) (overriding P m) H ≡ joined_over rel (floor rel (ls ++ more)) (overriding P m) H
      by [] ls its = ap (λ xs. joined_over rel (floor rel xs) (overriding P m) H) (sym (append-nil ls))
      by (l ∷ more) ls its = one l ls its.0 ∙ by more (ls ++ l ∷ []) its.1 ∙ ap (λ xs. joined_over rel (floor rel xs) (overriding P m) H) (append_assoc ls (l ∷ []) more)

  -- so a table of what is said of them tells it still
  pub over_stays : (m : ℕ) (table : List Basic) (whole : Bool) (most : Basic) (old new : List LineData) → Adds m old new → IsSaidOver P rel (floor rel old) m table whole most → IsSaidOver P rel (floor rel new) m table whole most
  over_stays m table whole most old new adds is = record {
    each = λ e H part. is.each e H part ∙ joined_stays m old new adds H;
    low = most_stays m most old new adds is.low;
  }

  -- what a body comes to by assignments that differ at one method alone, which it doesn't call
  pub body_same : (A B : Assignment) (n m : ℕ) (o : Option Method) (H : Held) → ((k : ℕ) → (k == m) ≡ false → (K : Held) → A k K ≡ B k K) → (overs : List ℕ) → method_calls o overs m ≡ false → body_effect P rel A o H ≡ body_effect P rel B o H
  body_same A B n m None H same overs quiet = refl
  body_same A B n m (Some method) H same overs quiet = stmt_same P rel A B (λ k. k == m) same method.body H (first_false (stmt_calls (λ k. k == m) method.body) (has_method overs m) quiet)

  -- the cells of a method are its own
  pub its_cells : (n : ℕ) (required : List PathData) (sets : List (List PathData)) → AllByRecursion (λ c. c.method ≡ n) (cells_in n required sets)
  its_cells n required sets = mapped (filter (λ held. list_all (has_path held) required) sets)
    where
      mapped : (xs : List (List PathData)) → AllByRecursion (λ (c : MethodAtSet). c.method ≡ n) (map (λ held. record { method = n; held = held }) xs)
      mapped [] = tt
      mapped (x ∷ xs) = (refl, mapped xs)

  -- after a method of which nothing new was to be said
  pub settled_asleep : (m : ℕ) (method : Method) (ls now : List LineData) (waits next : List Bool) → slice_get P.methods m ≡ Some method → now ≡ ls → AreSettled P rel ls waits → IsPass P rel (cells_in m method.requires_ (subsets_of (rel m))) ls now false
      → IsAsleep waits next m → AreSettled P rel now next
  settled_asleep m method ls now waits next is same settled asked sleeps n asleep = subst (AreSaid P rel (cells_with rel n (slice_get P.methods n))) (sym same) (by (n == m) refl)
    where
      said : AreSaid P rel (cells_in m method.requires_ (subsets_of (rel m))) ls
      said = asked_said (cells_in m method.requires_ (subsets_of (rel m))) ls (subst (λ xs. IsPass P rel (cells_in m method.requires_ (subsets_of (rel m))) ls xs false) same asked)

      by : (b : Bool) → (n == m) ≡ b → AreSaid P rel (cells_with rel n (slice_get P.methods n)) ls
      by true e = subst (λ k. AreSaid P rel (cells_with rel k (slice_get P.methods k)) ls) (sym (eqb-true n m e)) (subst (λ o. AreSaid P rel (cells_with rel m o) ls) (sym is) said)
      by false e = settled n (sleeps n asleep (eqb-false n m e))

  -- methods that don't wait are passed over
  skip_in : (ms : List Method) (n k : ℕ) (ls : List LineData) → ((j : ℕ) (x : Method) → j < k → slice_get ms j ≡ Some x → AreSaid P rel (cells_in (n + j) x.requires_ (subsets_of (rel (n + j)))) ls) → k ≤ length ms
      → pass P rel (cells_from rel n ms) ls ≡ pass P rel (cells_from rel (n + k) (drop k ms)) ls
  skip_in ms n zero ls said le = ap (λ x. pass P rel (cells_from rel x ms) ls) (let e : n ≡ n + 0 = omega arith in e)
  skip_in [] n (suc k) ls said le = absurd (omega (arith, le))
  skip_in (x ∷ ms) n (suc k) ls said le =
      let first : AreSaid P rel (cells_in n x.requires_ (subsets_of (rel n))) ls =
      subst (λ i. AreSaid P rel (cells_in i x.requires_ (subsets_of (rel i))) ls) (let e : n + 0 ≡ n = omega arith in e) (said 0 x (omega arith) refl) in
      said_asked (cells_in n x.requires_ (subsets_of (rel n))) ls first (cells_from rel (n + 1) ms)
      ∙ skip_in ms (n + 1) k ls
      (λ j y less e. subst (λ i. AreSaid P rel (cells_in i y.requires_ (subsets_of (rel i))) ls) (let f : n + suc j ≡ n + 1 + j = omega arith in f) (said (suc j) y (omega (arith, less)) e))
      (omega (arith, le))
      ∙ ap (λ i. pass P rel (cells_from rel i (drop k ms)) ls) (let f : n + 1 + k ≡ n + suc k = omega arith in f)

  get_drop : (xs : List Method) (n j m : ℕ) → m ≡ n + j → slice_get (drop n xs) j ≡ slice_get xs m
  get_drop xs zero j m e = ap (slice_get xs) (let f : j ≡ m = omega (arith, e) in f)
  get_drop [] (suc n) j m e = refl
  get_drop (x ∷ xs) (suc n) j zero e = absurd (omega (arith, e))
  get_drop (x ∷ xs) (suc n) j (suc m) e = get_drop xs n j m (omega (arith, e))

  pub skip_settled : (ls : List LineData) (waits : List Bool) (from to : ℕ) → AreSettled P rel ls waits → from ≤ to → to ≤ length P.methods → ((m : ℕ) → from ≤ m → m < to → slice_get waits m ≡ Some false)
      → pass P rel (cells_from rel from (drop from P.methods)) ls ≡ pass P rel (cells_from rel to (drop to P.methods)) ls
  skip_settled ls waits from to settled le within asleep =
      let k = to - from in
      let at_end : from + k ≡ to = omega (arith, le) in
      let l = length-drop from P.methods in
      skip_in (drop from P.methods) from k ls
      (λ j x less e. subst (λ o. AreSaid P rel (cells_with rel (from + j) o) ls) (sym (get_drop P.methods from j (from + j) refl) ∙ e)
      (settled (from + j) (asleep (from + j) (omega arith) (omega (arith, less, le)))))
      (omega (arith, l, le, within))
      ∙ ap (λ ms. pass P rel (cells_from rel (from + k) ms) ls) (drop_both P.methods from k)
      ∙ ap (λ i. pass P rel (cells_from rel i (drop i P.methods)) ls) at_end

-- Marks.

pub none_settled : (P : Program) (rel : ℕ → List PathData) (ls : List LineData) (waits : List Bool) → ((m : ℕ) → slice_get waits m ≡ Some false → ⊥) → AreSettled P rel ls waits
none_settled P rel ls waits all m asleep = absurd (all m asleep)

pub woken_none : (waits : List Bool) → AreWoken waits waits []
woken_none waits m e = (e, refl)

-- what stands at a place, whatever would stand past the end
pub get_or_any : (xs : List ℕ) (k d e : ℕ) → k < length xs → get_or xs k d ≡ get_or xs k e
get_or_any [] k d e below = absurd (omega (arith, below))
get_or_any (x ∷ xs) zero d e below = refl
get_or_any (x ∷ xs) (suc k) d e below = get_or_any xs k d e (omega (arith, below))

-- one method more of a list
pub woken_more : (waits between now : List Bool) (methods : List ℕ) (k method : ℕ) → k < length methods → method ≡ get_or methods k method → AreWoken waits between (take k methods) → AreWoken between now (method ∷ []) → AreWoken waits now (take (k + 1) methods)
woken_more waits between now methods k method below is before one m e =
    let mid = one m e in
    let old = before m mid.0 in
    (old.0, ap (λ xs. has_method xs m) (take_more methods k method below ∙ ap (λ x. take k methods ++ x ∷ []) (sym is)) ∙ both (take k methods) old.1 mid.1)
  where
    both : (xs : List ℕ) → has_method xs m ≡ false → has_method (method ∷ []) m ≡ false → has_method (xs ++ method ∷ []) m ≡ false
    both [] none last = last
    both (x ∷ xs) none last = ap (λ b. b || has_method (xs ++ method ∷ []) m) (first_false (x == m) (has_method xs m) none) ∙ both xs (second_false (x == m) (has_method xs m) none) last

pub woken_all : (waits now : List Bool) (methods : List ℕ) (k : ℕ) → length methods ≤ k → AreWoken waits now (take k methods) → AreWoken waits now methods
woken_all waits now methods k past woken = subst (AreWoken waits now) (whole methods k past) woken
  where
    whole : (xs : List ℕ) (k : ℕ) → length xs ≤ k → take k xs ≡ xs
    whole [] zero h = refl
    whole [] (suc k) h = refl
    whole (x ∷ xs) zero h = absurd (omega (arith, h))
    whole (x ∷ xs) (suc k) h = ap (λ ys. x ∷ ys) (whole xs k (omega (arith, h)))
