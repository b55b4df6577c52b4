-- The maximal groups of a schedule, written and read back.
use Rattle.std.proofs.Common.{◌≡◌, ℕ, ◌+◌, ◌^◌, ◌<◌, ◌≤◌, ◌==◌, Bool, true, false, List, [], ◌∷◌, ◌++◌, length, map, drop, None, slice_get, get_or, replicate, if◌then◌else◌, cond, suc, refl, sym, ◌∙◌, ap, arith, append_assoc, add-one}
use Rattle.std.proofs.lemmas.Bool.Decides.{nat_tests}
use Rattle.std.specs.List.{prefix_len, join_with_byte}
use Rattle.std.proofs.lemmas.Bool.{eqb-true}
use Rattle.schedule.specs.Text.{Piece, blank, single, group, spelled, ends_entry, IsPiece, piece_count, piece_thread, joined, ArePieces, total, piece_steps, IsSchedule}
use Rattle.schedule.specs.Written.{with_step, groups_of, group_text, written}
use Rattle.schedule.proofs.FrontLemmas.{one_more}

-- how long a schedule goes on with a thread
abbrev pub run_of : ℕ → List ℕ → ℕ
run_of thread piece_steps = prefix_len (λ step. step == thread) piece_steps

group_step : (x y : ℕ) (ys : List ℕ) (b : Bool) → (y == x) ≡ b → groups_of (y ∷ ys) ≡ (y, 1 + run_of y ys) ∷ groups_of (drop (run_of y ys) ys) →
    with_step x (groups_of (y ∷ ys)) ≡ (x, 1 + cond b (1 + run_of x ys) 0) ∷ groups_of (drop (cond b (1 + run_of x ys) 0) (y ∷ ys))
group_step x y ys true e before =
    let same = eqb-true y x e in
    let run : run_of y ys ≡ run_of x ys = ap (λ z. run_of z ys) same in
    ap (with_step x) before ∙ rw e (ap (λ n. (x, (1 + n) + 1) ∷ groups_of (drop n ys)) run ∙ ap (λ n. (x, n) ∷ groups_of (drop (run_of x ys) ys)) (omega arith)
    ∙ ap (λ n. (x, 1 + (1 + run_of x ys)) ∷ groups_of (drop n (y ∷ ys))) (sym (one_more (run_of x ys))))
group_step x y ys false e before = ap (with_step x) before ∙ rw e (ap (λ gs. (x, 1) ∷ gs) (sym before))

-- the first maximal group
pub groups_of-cons : (x : ℕ) (xs : List ℕ) → groups_of (x ∷ xs) ≡ (x, 1 + run_of x xs) ∷ groups_of (drop (run_of x xs) xs)
groups_of-cons x [] = refl
groups_of-cons x (y ∷ ys) = group_step x y ys (y == x) refl (groups_of-cons y ys)

-- the groups behind the first, each after its blank, and LF
abbrev pub text_after : List (ℕ × ℕ) → List ℕ
text_after [] = 10 ∷ []
text_after (g ∷ gs) = 32 ∷ (group_text g ++ text_after gs)

join_line : (g : ℕ × ℕ) (gs : List (ℕ × ℕ)) → join_with_byte 32 (map group_text (g ∷ gs)) ++ (10 ∷ []) ≡ group_text g ++ text_after gs
join_line g [] = refl
join_line g (h ∷ gs) = append_assoc (group_text g) (32 ∷ join_with_byte 32 (group_text h ∷ map group_text gs)) (10 ∷ []) ∙ ap (λ t. group_text g ++ (32 ∷ t)) (join_line h gs)

written-cons : (x : ℕ) (xs : List ℕ) → written (x ∷ xs) ≡ group_text (x, 1 + run_of x xs) ++ text_after (groups_of (drop (run_of x xs) xs))
written-cons x xs = ap (λ gs. join_with_byte 32 (map group_text gs) ++ (10 ∷ [])) (groups_of-cons x xs) ∙ join_line (x, 1 + run_of x xs) (groups_of (drop (run_of x xs) xs))

after_is : (tail : List ℕ) → text_after (groups_of tail) ≡ (if length tail == 0 then [] else 32 ∷ []) ++ written tail
after_is [] = refl
after_is (y ∷ ys) =
    let test : (length (y ∷ ys) == 0) ≡ false = grind (arith, nat_tests) in
    ap text_after (groups_of-cons y ys) ∙ ap (λ t. 32 ∷ t) (sym (written-cons y ys)) ∙ ap (λ b. (if b then [] else 32 ∷ []) ++ written (y ∷ ys)) (sym test)

-- the first group, what stands behind it, and the rest
written_step : (rest : List ℕ) (thread count : ℕ) → 0 < length rest → get_or rest 0 0 ≡ thread → count ≡ run_of thread rest →
    written rest ≡ group_text (thread, count) ++ ((if length (drop count rest) == 0 then [] else 32 ∷ []) ++ written (drop count rest))
written_step [] thread count some first run = absurd (omega arith)
written_step (x ∷ xs) thread count some first run =
    let same : (x == thread) ≡ true = grind (arith, nat_tests) in
    let there : run_of thread xs ≡ run_of x xs = ap (λ z. run_of z xs) (sym first) in
    let number : count ≡ 1 + run_of x xs = run ∙ ap (λ b. cond b (1 + run_of thread xs) 0) same ∙ ap (λ n. 1 + n) there in
    let tail : drop count (x ∷ xs) ≡ drop (run_of x xs) xs = ap (λ n. drop n (x ∷ xs)) (number ∙ one_more (run_of x xs)) in
    written-cons x xs ∙ ap (λ n. group_text (x, n) ++ text_after (groups_of (drop (run_of x xs) xs))) (sym number)
    ∙ ap (λ z. group_text (z, count) ++ text_after (groups_of (drop (run_of x xs) xs))) first
    ∙ ap (λ t. group_text (thread, count) ++ t) (after_is (drop (run_of x xs) xs))
    ∙ ap (λ t. group_text (thread, count) ++ ((if length t == 0 then [] else 32 ∷ []) ++ written t)) (sym tail)

-- one group more was written
pub group_written : (before middle after rest next schedule : List ℕ) (thread count : ℕ) (last : Bool) → next ≡ drop count rest → 0 < length rest → get_or rest 0 0 ≡ thread →
    count ≡ run_of thread rest → middle ≡ before ++ group_text (thread, count) → after ≡ middle ++ (if last then [] else 32 ∷ []) → last ≡ (length next == 0) →
    before ++ written rest ≡ written schedule → after ++ written next ≡ written schedule
group_written before middle after rest next schedule thread count last is some first run wrote ended empty done =
    let gap = if last then [] else 32 ∷ [] in
    let step : written rest ≡ group_text (thread, count) ++ (gap ++ written next) =
    written_step rest thread count some first run ∙ ap (λ t. group_text (thread, count) ++ ((if length t == 0 then [] else 32 ∷ []) ++ written t)) (sym is)
    ∙ ap (λ b. group_text (thread, count) ++ ((if b then [] else 32 ∷ []) ++ written next)) (sym empty) in
    let whole : after ++ written next ≡ ((before ++ group_text (thread, count)) ++ gap) ++ written next = ap (λ t. t ++ written next) (ended ∙ ap (λ t. t ++ gap) wrote) in
    whole ∙ append_assoc (before ++ group_text (thread, count)) gap (written next) ∙ append_assoc before (group_text (thread, count)) (gap ++ written next) ∙ ap (λ t. before ++ t) (sym step) ∙ done

-- groups of threads and counts that can be read
AreGroups : List (ℕ × ℕ) → Type 0
AreGroups [] = Unit {0}
AreGroups (g ∷ gs) = (g.0 < 2 ^ 32) × (0 < g.1) × AreGroups gs

counts : List (ℕ × ℕ) → ℕ
counts [] = 0
counts (g ∷ gs) = g.1 + counts gs

expanded : List (ℕ × ℕ) → List ℕ
expanded [] = []
expanded (g ∷ gs) = replicate g.1 g.0 ++ expanded gs

record Grouped (schedule : List ℕ) (gs : List (ℕ × ℕ)) : Type 0 where
  are : AreGroups gs
  counted : counts gs ≡ length schedule
  same : expanded gs ≡ schedule

replicate-more : (n x : ℕ) → replicate (n + 1) x ≡ x ∷ replicate n x
replicate-more n x = ap (λ k. replicate k x) (add-one n)

grouped_onto : (x : ℕ) (schedule : List ℕ) (g : ℕ × ℕ) (gs : List (ℕ × ℕ)) (b : Bool) → (g.0 == x) ≡ b → x < 2 ^ 32 → Grouped schedule (g ∷ gs) →
    Grouped (x ∷ schedule) (if b then (x, g.1 + 1) ∷ gs else (x, 1) ∷ (g ∷ gs))
unfolding AreGroups counts expanded
grouped_onto x schedule g gs true e small before = record {
  are = (small, omega arith, before.are.2);
  counted = omega (arith, before.counted);
  same = ap (λ t. t ++ expanded gs) (replicate-more g.1 x) ∙ ap (λ z. x ∷ (replicate g.1 z ++ expanded gs)) (sym (eqb-true g.0 x e)) ∙ ap (λ t. x ∷ t) before.same;
}
grouped_onto x schedule g gs false e small before = record {
  are = (small, omega arith, before.are);
  counted = omega (arith, before.counted);
  same = ap (λ t. x ∷ t) before.same;
}

grouped_step : (x : ℕ) (schedule : List ℕ) (gs : List (ℕ × ℕ)) → x < 2 ^ 32 → Grouped schedule gs → Grouped (x ∷ schedule) (with_step x gs)
unfolding AreGroups counts expanded
grouped_step x schedule [] small before = record { are = (small, omega arith, tt); counted = omega (arith, before.counted); same = ap (λ t. x ∷ t) before.same }
grouped_step x schedule (g ∷ gs) small before = grouped_onto x schedule g gs (g.0 == x) refl small before

grouped : (schedule : List ℕ) → ((i : ℕ) → get_or schedule i 0 < 2 ^ 32) → Grouped schedule (groups_of schedule)
unfolding AreGroups counts expanded
grouped [] small = record { are = tt; counted = refl; same = refl }
grouped (x ∷ schedule) small = grouped_step x schedule (groups_of schedule) (small 0) (grouped schedule (λ i. small (suc i)))

-- the pieces that groups are written as
piece_of : ℕ × ℕ → Piece
piece_of g = if g.1 == 1 then single g.0 else group g.0 g.1

pieces_after : List (ℕ × ℕ) → List Piece
pieces_after [] = blank 10 ∷ []
pieces_after (g ∷ gs) = blank 32 ∷ (piece_of g ∷ pieces_after gs)

pieces_of : List (ℕ × ℕ) → List Piece
pieces_of [] = blank 10 ∷ []
pieces_of (g ∷ gs) = piece_of g ∷ pieces_after gs

record IsGroup (g : ℕ × ℕ) (piece : Piece) : Type 0 where
  text : spelled piece ≡ group_text g
  count : piece_count piece ≡ g.1
  thread : piece_thread piece ≡ g.0
  stands : (rest : List ℕ) → g.0 < 2 ^ 32 → 0 < g.1 → g.1 < 2 ^ 64 → ends_entry rest ≡ true → IsPiece piece rest

group_at : (g : ℕ × ℕ) (b : Bool) → (g.1 == 1) ≡ b → IsGroup g (if b then single g.0 else group g.0 g.1)
group_at g true e = record { text = rw e refl; count = sym (eqb-true g.1 1 e); thread = refl; stands = λ rest small some fits ends. (small, ends) }
group_at g false e = record { text = rw e refl; count = refl; thread = refl; stands = λ rest small some fits ends. (small, some, fits, ends) }

group_is : (g : ℕ × ℕ) → IsGroup g (piece_of g)
unfolding piece_of
group_is g = group_at g (g.1 == 1) refl

record Piecewise (gs : List (ℕ × ℕ)) (pieces : List Piece) (text : List ℕ) : Type 0 where
  joins : joined pieces [] ≡ text
  are : ArePieces pieces []
  count : total pieces ≡ counts gs
  threads : piece_steps pieces ≡ expanded gs

with_group : (g : ℕ × ℕ) (pieces : List Piece) (gs : List (ℕ × ℕ)) (text : List ℕ) → g.0 < 2 ^ 32 → 0 < g.1 → g.1 < 2 ^ 64 → ends_entry (joined pieces []) ≡ true → Piecewise gs pieces text →
    Piecewise (g ∷ gs) (piece_of g ∷ pieces) (group_text g ++ text)
unfolding counts expanded
with_group g pieces gs text small some fits ends rest =
    let is = group_is g in
    record {
      joins = ap (λ t. t ++ joined pieces []) is.text ∙ ap (λ t. group_text g ++ t) rest.joins;
      are = (is.stands (joined pieces []) small some fits ends, rest.are);
      count = omega (arith, is.count, rest.count);
      threads = ap (λ n. replicate n (piece_thread (piece_of g)) ++ piece_steps pieces) is.count ∙ ap (λ t. replicate g.1 t ++ piece_steps pieces) is.thread ∙ ap (λ t. replicate g.1 g.0 ++ t) rest.threads;
    }

ends_after : (gs : List (ℕ × ℕ)) → ends_entry (joined (pieces_after gs) []) ≡ true
unfolding pieces_after
ends_after [] = refl
ends_after (g ∷ gs) = refl

piecewise_after : (gs : List (ℕ × ℕ)) → AreGroups gs → counts gs ≤ 200000 → Piecewise gs (pieces_after gs) (text_after gs)
unfolding AreGroups counts expanded pieces_after
piecewise_after [] are fits = record { joins = refl; are = (refl, tt); count = refl; threads = refl }
piecewise_after (g ∷ gs) are fits =
    let rest = piecewise_after gs are.2 (omega arith) in
    let front = with_group g (pieces_after gs) gs (text_after gs) are.0 are.1 (omega arith) (ends_after gs) rest in
    record { joins = ap (λ t. 32 ∷ t) front.joins; are = (refl, front.are); count = omega (arith, front.count); threads = front.threads }

piecewise : (gs : List (ℕ × ℕ)) → AreGroups gs → counts gs ≤ 200000 → Piecewise gs (pieces_of gs) (join_with_byte 32 (map group_text gs) ++ (10 ∷ []))
unfolding AreGroups counts expanded pieces_of
piecewise [] are fits = record { joins = refl; are = (refl, tt); count = refl; threads = refl }
piecewise (g ∷ gs) are fits =
    let rest = piecewise_after gs are.2 (omega arith) in
    let front = with_group g (pieces_after gs) gs (text_after gs) are.0 are.1 (omega arith) (ends_after gs) rest in
    record { joins = front.joins ∙ sym (join_line g gs); are = front.are; count = front.count; threads = front.threads }

-- what is written reads back
pub read_back : (text schedule : List ℕ) → text ≡ written schedule → ((i : ℕ) → get_or schedule i 0 < 2 ^ 32) → length schedule ≤ 200000 → IsSchedule text schedule
read_back text schedule is small short =
    let gs = grouped schedule small in
    let all = piecewise (groups_of schedule) gs.are (omega (arith, gs.counted, short)) in
    record {
      pieces = pieces_of (groups_of schedule);
      begins = record { whole = is ∙ sym all.joins; pieces_are = all.are; within = omega (arith, all.count, gs.counted, short) };
      steps_are = sym gs.same ∙ sym all.threads;
    }

-- nothing is left
pub none_left : (rest : List ℕ) → None ≡ slice_get rest 0 → rest ≡ []
none_left [] e = refl
none_left (step ∷ rest) e = absurd (cc)
