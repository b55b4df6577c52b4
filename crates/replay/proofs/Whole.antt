-- A whole call: evaluation agrees with its steps.
use Rattle.std.proofs.Common.{◌≡◌, ℕ, zero, suc, ◌+◌, ◌<◌, ◌≤◌, Bool, true, false, ◌||◌, List, [], ◌∷◌, ◌++◌, Some, None, refl, sym, ap, subst, ◌∙◌, arith, append-nil}
use Rattle.std.specs.Prelude.{ℤ, Option, length, map, replicate, option_and_then, slice_get, slice_set, is_some}
use Rattle.std.proofs.lemmas.List.{map-set}
use Rattle.std.proofs.lemmas.Option.{none-some, same_Some}
use Rattle.core_program.specs.Core.{Program, Method}
use Rattle.core_program.specs.declared.types.CoreType.{CoreType}
use Rattle.state.specs.declared.value.Address.{Address}
use Rattle.state.specs.declared.value.Value.{Value}
use Rattle.state.specs.declared.value.Value.TheVariants as value
use Rattle.state.specs.Values.{top}
use Rattle.state.specs.Work as W
use Rattle.state.specs.Work.{Item, St, Act, unfolded}
use Rattle.state.specs.States.{Frame, Thread, Ready, Running, Done, State, new_frame, new_slots}
use Rattle.state.proofs.MemoryLemmas.{set_same}
use Rattle.semantics.specs.Step.{Change, Nothing, FieldIs, ObjectIs, LockIs, Prints, Starts, Move, Moves, Absent, IsDone, HadFaulted, Waits, changed, moved, outcome, step, state_after, seen_by, return_to, with_result, has_result}
use Rattle.semantics.specs.Run.{run_from, inside, is_inside, is_inside_some, is_annotated, frames_of}
use Rattle.replay.specs.Plain.{Plain, plain_thread, plain_of}
use Rattle.replay.specs.Answers.{Answer, Gives, Fails, Blocked, Short, Deep, then_do, End, GoesOn, Returns, Ended, ended_value}
use Rattle.replay.specs.Evaluation.{most_depth, lower_of, stmt, call_result, evaluate, asked_body}
use Rattle.replay.specs.Calls.{depth, result_in, IsDeep, EvaluationAgrees, IsReplayed}
use Rattle.replay.proofs.Comes.{Local, Own, bottom, Comes, there, IsFull, After, frame, at}
use Rattle.replay.proofs.Leaves.{returned_ops, ShortOk, DeepOk, Leads, EndsIn, Ends, acts}
use Rattle.replay.proofs.Statements.{sim_stmt, fuel}
use Rattle.replay.proofs.Joined.{Here, bare, HasEntry, joined, Within, Met, met, inside_joined, depth_joined}
use Rattle.replay.proofs.Opens.{Opening, some_annotated, opening, step_prints, more_prints}
use Rattle.replay.proofs.Neat.{IsNeat}

-- the thread after a call of a method with this value, over these frames
abbrev pub back_of : Program → ℕ → List Frame → Value → Thread
back_of P m [] v = Done
back_of P m (g ∷ more) v = Running (record g { operands = with_result (has_result (slice_get P.methods m)) v g.operands } ∷ more)

-- what the steps of a call come to, by what evaluation of its body answers
abbrev pub goal_of : Program → (t m : ℕ) → List Frame → Answer Ended → Local → Type 0
goal_of P t m base (Gives x p) l = l ≡ record { plain = p; thread = back_of P m base (ended_value x.end) }
goal_of P t m base (Fails kind) l = ⊥
goal_of P t m base (Blocked a holder) l = ⊥
goal_of P t m base Short l = IsFull t l.plain
goal_of P t m base Deep l = (c : ℕ) × (most_depth < c) × Own m base c (frames_of l.thread)

module _ (P : Program) (t m : ℕ) (base : List Frame) (n : ℕ) where
  tower : (f : Frame) → f.method ≡ m → Own m base 1 (f ∷ base)
  tower f same = bottom f same

  few : 1 ≤ most_depth
  few = omega arith

  -- the return of the call
  returns : (x : Ended) (p : Plain) (slots ops : List Value) (w more : List Item) → unfolded w ≡ Some (W.Ret, more) → top ops ≡ ended_value x.end → Comes P t m base (goal_of P t m base (Gives x p)) n (at m base slots ops w p)
  returns x p slots ops w more e is = acts P t m base (goal_of P t m base (Gives x p)) m base 1 few tower n slots ops w more W.Ret p e (back base refl)
    where
      back : (base2 : List Frame) → base2 ≡ base → Leads P t m base (goal_of P t m base (Gives x p)) n p (return_to P (seen_by t p) t (frame m slots ops w) base more base2)
      back [] same = there (λ i. record { plain = p; thread = back_of P m (same i) (ended_value x.end) })
      back (g ∷ over) same = there
          (ap (λ v. record { plain = p; thread = back_of P m (g ∷ over) v }) is ∙ (λ i. record { plain = p; thread = back_of P m (same i) (ended_value x.end) }))

  top_of : (v : Option Value) → top (returned_ops v) ≡ ended_value (Returns v)
  top_of None = refl
  top_of (Some v) = refl

  ends : (end : End) (slots : List Value) (p : Plain) → EndsIn P t m base (goal_of P t m base (Gives (record { end = end; slots = slots }) p)) n m base (Act W.Ret ∷ []) end slots p
  ends GoesOn slots p = λ w e. returns (record { end = GoesOn; slots = slots }) p slots [] w [] e refl
  ends (Returns v) slots p = λ w more e. returns (record { end = Returns v; slots = slots }) p slots (returned_ops v) w more e (top_of v)

  answered : (a : Answer Ended) → After (ShortOk P t m base (goal_of P t m base a)) (DeepOk P t m base (goal_of P t m base a)) (Ends P t m base (goal_of P t m base a) n m base (Act W.Ret ∷ [])) a
  answered (Gives x p) = ends x.end x.slots p
  answered (Fails kind) = tt
  answered (Blocked a holder) = tt
  answered Short = λ l full. full
  answered Deep = λ l c many own. (c, many, own)

  -- the body comes to its goal
  pub body_comes : IsNeat P → (method : Method) → slice_get P.methods m ≡ Some method → (slots : List Value) (p : Plain)
      → Comes P t m base (goal_of P t m base (stmt P t (lower_of P t n) 1 method.body slots p)) n (at m base slots [] (St method.body ∷ Act W.Ret ∷ []) p)
  body_comes neat method is slots p =
      let a = stmt P t (lower_of P t n) 1 method.body slots p in
      sim_stmt P t m base (goal_of P t m base (stmt P t (lower_of P t n) 1 method.body slots p)) neat m base 1 few tower n (lower_of P t n)
      (fuel P t m base (goal_of P t m base (stmt P t (lower_of P t n) 1 method.body slots p)) neat n) method.body (neat.bodies m method is) slots (Act W.Ret ∷ []) (St method.body ∷ Act W.Ret ∷ []) p refl
      (answered (stmt P t (lower_of P t n) 1 method.body slots p))

-- a state without a thread's frames, when only its entry differs
plain_joined : (t : ℕ) (l : Here) (p : Plain) → plain_of l.plain ≡ p → record p { threads = slice_set p.threads t (plain_thread l.thread) } ≡ plain_of (joined t l)
plain_joined t l p is = ap (λ (x : Plain). record x { threads = slice_set x.threads t (plain_thread l.thread) }) (sym is)
    ∙ ap (λ threads. record { heap = l.plain.heap; locks = l.plain.locks; threads = threads; output = l.plain.output }) (sym (map-set plain_thread l.plain.threads t l.thread))

module _ (P : Program) (neat : IsNeat P) (q r : State) (t n : ℕ) (move : Move) (old : Thread) (entry : slice_get q.threads t ≡ Some old)
    (out : inside P q t ≡ false) (steps : outcome P q t ≡ Moves move) (within : Within P t (suc n) (moved t move q) r)
    (room : (i : ℕ) (mid : State) → i ≤ suc n → run_from P (moved t move q) (replicate i t) ≡ Some mid → IsFull t (plain_of mid) → ⊥)
    (void : (a : Address) (m : ℕ) (method : Method) → slice_get q.threads t ≡ Some (Ready a m) → slice_get P.methods m ≡ Some method → method.result ≡ None)
    (op : Opening P q (slice_get q.threads t) move) where
  abbrev m : ℕ
  m = op.asked.method

  -- the state after the first step, with its thread
  abbrev start : Here
  start = record { plain = q; thread = Running (new_frame m op.method (value.Ref op.asked.on) op.asked.arguments ∷ op.base) }

  started : moved t move q ≡ joined t start
  started = ap (λ c. changed c (record q { threads = slice_set q.threads t move.thread })) op.nothing ∙ ap (λ x. record q { threads = slice_set q.threads t x }) op.enters

  starts : step P q t ≡ Some (joined t start)
  starts = ap (state_after q t) steps ∙ ap Some started

  abbrev slots : List Value
  slots = new_slots op.method (value.Ref op.asked.on) op.asked.arguments

  abbrev answer : Answer Ended
  answer = stmt P t (lower_of P t (suc n)) 1 op.method.body slots (plain_of q)

  thread_of : inside P (joined t start) t ≡ true
  thread_of = ap (λ x. inside P x t) (sym started) ∙ within.0

  entry_of : (l : Here) → HasEntry t l.plain → slice_get (joined t l).threads t ≡ Some l.thread
  entry_of l (x, is) = set_same l.plain.threads t l.thread x is

  annotated : is_annotated (slice_get P.methods m) ≡ true
  annotated = from_or (is_annotated (slice_get P.methods m)) (some_annotated P op.base) op.outside (sym (ap (is_inside_some P) (entry_of start (old, entry))) ∙ thread_of)
    where
      from_or : (x b : Bool) → b ≡ false → (x || b) ≡ true → x ≡ true
      from_or true b no_b e = refl
      from_or false b no_b e = absurd (let k : true ≡ false = sym e ∙ no_b in cc)

  -- after the call the thread stands outside
  outside_back : (base : List Frame) (v : Value) → some_annotated P base ≡ false → is_inside P (back_of P m base v) ≡ false
  outside_back [] v e = refl
  outside_back (g ∷ more) v e = e

  -- the result is on top of the operands
  result_back : (base : List Frame) (ty : Option CoreType) (end : End) → has_result (slice_get P.methods m) ≡ is_some ty → (base ≡ [] → ty ≡ None)
      → call_result ty end ≡ result_in (has_result (slice_get P.methods m)) (Some (back_of P m base (ended_value end)))
  result_back base None end is no_type = ap (λ b. result_in b (Some (back_of P m base (ended_value end)))) (sym is)
  result_back [] (Some ty) end is no_type = absurd (none-some ty (sym (no_type refl)))
  result_back (g ∷ more) (Some ty) end is no_type =
      ap (λ b. result_in b (Some (Running (record g { operands = with_result b (ended_value end) g.operands } ∷ more)))) (sym is)

  no_result : op.base ≡ [] → op.method.result ≡ None
  no_result none = let f = op.first none in void f.0 f.1 op.method f.2 (ap (slice_get P.methods) f.3 ∙ op.there)

  abbrev MetAt : Answer Ended → Type 0
  MetAt a = Met P t m annotated op.base (goal_of P t m op.base a) (suc n) start r

  no_deep : (gone : ℕ) → gone ≡ suc n → ((i : ℕ) (mid : State) → i < gone → run_from P (joined t start) (replicate i t) ≡ Some mid → depth (slice_get mid.threads t) ≤ most_depth + length op.base)
      → IsDeep P t (suc (suc n)) q → ⊥
  no_deep gone all few d = by_steps d.steps d.within d.ran
    where
      by_steps : (s : ℕ) → s < suc (suc n) → run_from P q (replicate s t) ≡ Some d.at → ⊥
      by_steps zero less ran = let same : depth (slice_get q.threads t) ≡ depth (slice_get d.at.threads t) = ap (λ (x : State). depth (slice_get x.threads t)) (same_Some q d.at ran) in let deep = d.deep in absurd (omega (arith, same, deep))
      by_steps (suc s) less ran =
          let low = few s d.at (omega (arith, less, all)) (sym (ap (option_and_then (λ next. run_from P next (replicate s t))) starts) ∙ ran) in
          let deep = d.deep in
          let frames = op.frames in
          absurd (omega (arith, low, deep, frames))

  abbrev Fine : Answer Ended → Type 0
  Fine a = EvaluationAgrees P t (suc (suc n)) m q r (then_do a (λ x z. Gives (call_result op.method.result x.end) z))

  gives : (x : Ended) (p : Plain) (g : MetAt (Gives x p)) (left : ℕ) → g.left ≡ left → Within P t left (joined t g.to) r → Fine (Gives x p)
  gives x p g (suc left) is rest =
      absurd (let k : true ≡ false = sym rest.0 ∙ ap (is_inside_some P) (entry_of g.to g.entry) ∙ ap (is_inside P) (ap (λ (l : Local). l.thread) g.goal) ∙ outside_back op.base (ended_value x.end) op.outside in cc)
  gives x p g zero is rest =
      let back : g.to.thread ≡ back_of P m op.base (ended_value x.end) = ap (λ (l : Local). l.thread) g.goal in
      let at_end : slice_get r.threads t ≡ Some (back_of P m op.base (ended_value x.end)) = ap (λ (z : State). slice_get z.threads t) (sym rest.0) ∙ entry_of g.to g.entry ∙ ap Some back in (
        (plain_thread g.to.thread, plain_joined t g.to p (ap (λ (l : Local). l.plain) g.goal) ∙ ap plain_of rest.0),
        result_back op.base op.method.result x.end (ap has_result op.there) no_result ∙ ap (result_in (has_result (slice_get P.methods m))) (sym at_end),
        no_deep g.gone (let a = g.all in omega (arith, a, is)) g.few,
        λ ready. at_end ∙ ap (λ b. Some (back_of P m b (ended_value x.end))) (op.ready ready),
      )

  deep : (g : MetAt Deep) (left : ℕ) → g.left ≡ left → Within P t left (joined t g.to) r → Fine Deep
  deep g zero is rest = absurd (let k : true ≡ false = sym (inside_joined P t m annotated op.base g.to g.entry g.goal.0 g.goal.2) ∙ rest.1 in cc)
  deep g (suc left) is rest = record {
    steps = suc g.gone;
    within = let a = g.all in omega (arith, a, is);
    at = joined t g.to;
    ran = ap (option_and_then (λ next. run_from P next (replicate g.gone t))) starts ∙ g.ran;
    deep = let d = depth_joined P t m annotated op.base g.to g.entry g.goal.0 g.goal.2 in let many = g.goal.1 in let frames = op.frames in omega (arith, d, many, frames);
  }

  fine : (a : Answer Ended) → MetAt a → Fine a
  fine (Gives x p) g = gives x p g g.left refl g.rest
  fine (Fails kind) g = absurd g.goal
  fine (Blocked a holder) g = absurd g.goal
  fine Short g = absurd (room g.gone (joined t g.to) (let a = g.all in omega (arith, a)) (ap (λ x. run_from P x (replicate g.gone t)) started ∙ g.ran) (full_joined g.to g.goal))
    where
      full_joined : (l : Here) → IsFull t (plain_of l.plain) → IsFull t (plain_of (joined t l))
      full_joined l (Rattle.replay.proofs.Comes.objects e) = Rattle.replay.proofs.Comes.objects e
      full_joined l (Rattle.replay.proofs.Comes.threads e) = Rattle.replay.proofs.Comes.threads (as_long l (subst (λ k. Rattle.replay.specs.Evaluation.most_number < k) refl e))
        where
          as_long : (l : Here) → Rattle.replay.specs.Evaluation.most_number < length (plain_of l.plain).threads → Rattle.replay.specs.Evaluation.most_number < length (plain_of (joined t l)).threads
          as_long l e = subst (λ k. Rattle.replay.specs.Evaluation.most_number < k)
              (sym (ap length (map-set plain_thread l.plain.threads t l.thread) ∙ Rattle.std.proofs.lemmas.List.length-set (map plain_thread l.plain.threads) t (plain_thread l.thread))) e
      full_joined l (Rattle.replay.proofs.Comes.locks a hold is e) = Rattle.replay.proofs.Comes.locks a hold is e
  fine Deep g = deep g g.left refl g.rest

  met_here : MetAt answer
  met_here = met P t m annotated op.base (goal_of P t m op.base answer) (suc n) (bare start) (body_comes P t m op.base (suc n) neat op.method op.there slots (plain_of q)) start refl (old, entry) r
      (subst (λ x. Within P t (suc n) x r) started within)

  pub agrees : EvaluationAgrees P t (suc (suc n)) m q r (evaluate P (plain_of q) t op.asked.on m op.asked.arguments (suc (suc n)))
  agrees = subst (λ o. EvaluationAgrees P t (suc (suc n)) m q r (asked_body P t o op.asked.on op.asked.arguments (plain_of q) (suc (suc n)))) (sym op.there) (fine answer met_here)

-- the thread after its step
appended : (xs : List Thread) (i : ℕ) (x y : Thread) → slice_get xs i ≡ Some x → slice_get (xs ++ y ∷ []) i ≡ Some x
appended [] i x y e = absurd (none-some x e)
appended (z ∷ zs) zero x y e = e
appended (z ∷ zs) (suc i) x y e = appended zs i x y e

entry_kept : (c : Change) (q : State) (t : ℕ) (x : Thread) (threads : List Thread) → slice_get threads t ≡ Some x → slice_get (changed c (record q { threads = threads })).threads t ≡ Some x
entry_kept Nothing q t x threads e = e
entry_kept (FieldIs a index v) q t x threads e = e
entry_kept (ObjectIs a o) q t x threads e = e
entry_kept (LockIs a hold) q t x threads e = e
entry_kept (Prints k) q t x threads e = e
entry_kept (Starts a k) q t x threads e = appended threads t x (Ready a k) e

pub moved_entry : (q : State) (t : ℕ) (move : Move) (old : Thread) → slice_get q.threads t ≡ Some old → slice_get (moved t move q).threads t ≡ Some move.thread
moved_entry q t move old entry = entry_kept move.change q t move.thread (slice_set q.threads t move.thread) (set_same q.threads t move.thread old entry)

-- what is printed along the steps
along : (P : Program) (t k : ℕ) (q r : State) → Within P t k q r → (ns : List ℤ) × (r.output ≡ q.output ++ ns)
along P t zero q r (same, out) = ([], ap (λ (x : State). x.output) (sym same) ∙ sym (append-nil q.output))
along P t (suc k) q r (ins, (mid, stepped, rest)) = more_prints q mid r (step_prints P q mid t stepped) (along P t k mid r rest)

module _ (P : Program) (neat : IsNeat P) (q first r : State) (t n : ℕ) (old : Thread) (entry : slice_get q.threads t ≡ Some old)
    (out : inside P q t ≡ false) (stepped : step P q t ≡ Some first) (within : Within P t (suc n) first r)
    (room : (i : ℕ) (mid : State) → i ≤ suc n → run_from P first (replicate i t) ≡ Some mid → IsFull t (plain_of mid) → ⊥)
    (void : (a : Address) (m : ℕ) (method : Method) → slice_get q.threads t ≡ Some (Ready a m) → slice_get P.methods m ≡ Some method → method.result ≡ None) where
  -- a completed call is replayed
  pub replayed : IsReplayed P t (suc (suc n)) q r
  replayed =
      elim (outcome P q t) as (λ o. outcome P q t ≡ o → state_after q t o ≡ Some first → IsReplayed P t (suc (suc n)) q r) [
        | Moves move ↦ λ is after. by_move move is (same_Some _ first after)
        | Absent ↦ λ is after. absurd (none-some first after)
        | IsDone ↦ λ is after. absurd (none-some first after)
        | HadFaulted kind ↦ λ is after. absurd (none-some first after)
        | Waits a holder ↦ λ is after. absurd (none-some first after)
      ] refl stepped
    where
      entry_moved : (move : Move) → moved t move q ≡ first → is_inside P move.thread ≡ true
      entry_moved move same = sym (ap (is_inside_some P) (moved_entry q t move old entry)) ∙ ap (λ x. inside P x t) same ∙ within.0

      by_move : (move : Move) → outcome P q t ≡ Moves move → moved t move q ≡ first → IsReplayed P t (suc (suc n)) q r
      by_move move is same =
          let op = opening P q t move out is (entry_moved move same) in
          let p = more_prints q first r (step_prints P q first t stepped) (along P t (suc n) first r within) in
          record {
            asked = op.asked;
            is = op.is;
            prints = p.0;
            printed = p.1;
            agrees = agrees P neat q r t n move old entry out is (subst (λ x. Within P t (suc n) x r) (sym same) within)
                (λ i mid less ran full. room i mid less (ap (λ x. run_from P x (replicate i t)) (sym same) ∙ ran) full) void op;
          }
