-- Two neighbouring steps of a run, and the run with the two exchanged.
use Rattle.std.proofs.Common.{◌≡◌, ℕ, zero, suc, ◌+◌, List, [], ◌∷◌, ◌++◌, Option, Some, None, refl, sym, ap, subst, ◌∙◌, arith}
use Rattle.std.proofs.lemmas.List.{length-append, length-set, length-map}
use Rattle.std.proofs.lemmas.Bool.Decides.{nat_tests}
use Rattle.std.specs.Prelude.{◌≢◌, ◌↔◌, ◌&&◌, ◌==◌, true, nat_lt, ◌<◌, take, length, option_and_then, slice_get, slice_set, slice_index_or, IsSome}
use Rattle.core_program.specs.Core.{Program}
use Rattle.core_program.specs.Typed.{IsTyped}
use Rattle.state.specs.States.{State, initial}
use Rattle.semantics.specs.Step.{Move, Moves, Absent, IsDone, HadFaulted, Waits, outcome, moved, state_after}
use Rattle.semantics.specs.Run.{run_from, run, Runs}
use Rattle.semantics.proofs.RunLemmas.{run_from-append}
use Rattle.reduction.specs.Swapped.{MayPass, Swapped, started}
use Rattle.reduction.proofs.Moving.{exchange}
use Rattle.reduction.proofs.SoundRuns.{sound_run}
use Rattle.semantics.specs.Step.{Change, Nothing, FieldIs, ObjectIs, LockIs, Prints, Starts, changed}
use Rattle.state.specs.declared.value.StepKind.{StepKind}
use Rattle.state.specs.States.{Ready}
use Rattle.machine.proofs.Simulation.{threads_long}
use Rattle.machine.specs.MachineValue.{MachineValue}
use Rattle.machine.specs.Standing.{StandsFor, HasRun, program_run}
use Rattle.state.specs.Frames.{code_thread}
use Rattle.library.specs.Seen.{IsSeen}
use Rattle.library.specs.Exchanged.{exchanged, AreNeighbours, IsStartOf, ArePassed}

-- a schedule by the entries before a place, the two that stand there, and the rest
pub record Parts (s : List ℕ) (place t u : ℕ) : Type 0 where
  pub rest : List ℕ
  pub whole : s ≡ take place s ++ t ∷ u ∷ rest
  pub other : exchanged place s ≡ take place s ++ u ∷ t ∷ rest

next_place : (place : ℕ) → suc place + 1 ≡ suc (place + 1)
next_place place = omega arith

pub parts : (s : List ℕ) (place t u : ℕ) → slice_get s place ≡ Some t → slice_get s (place + 1) ≡ Some u → Parts s place t u
parts [] place t u first second = absurd cc
parts (x ∷ []) zero t u first second = absurd cc
parts (x ∷ y ∷ s) zero t u first second =
    let same : x ≡ t = cc in
    let next : y ≡ u = cc in
    record { rest = s; whole = λ j. same j ∷ next j ∷ s; other = λ j. next j ∷ same j ∷ s }
parts (x ∷ s) (suc place) t u first second =
    let p = parts s place t u first (subst (λ k. slice_get (x ∷ s) k ≡ Some u) (next_place place) second) in
    record { rest = p.rest; whole = ap (λ r. x ∷ r) p.whole; other = ap (λ r. x ∷ r) p.other }

entries_there : (s : List ℕ) (place : ℕ) → IsSome (slice_get s (place + 1)) → (t : ℕ) × (u : ℕ) × (slice_get s place ≡ Some t) × (slice_get s (place + 1) ≡ Some u)
entries_there [] place some = absurd cc
entries_there (x ∷ []) zero some = absurd cc
entries_there (x ∷ y ∷ s) zero some = (x, y, refl, refl)
entries_there (x ∷ s) (suc place) some =
    let e = next_place place in
    let h = entries_there s place (subst (λ k. IsSome (slice_get (x ∷ s) k)) e some) in
    (h.0, h.1, h.2, subst (λ k. slice_get (x ∷ s) k ≡ Some h.1) (sym e) h.3)

module _ (P : Program) where
  -- two steps, and then the rest
  two_steps : (q : State) (t u : ℕ) (m n : Move) (rest : List ℕ) → outcome P q t ≡ Moves m → outcome P (moved t m q) u ≡ Moves n
      → run_from P q (t ∷ u ∷ rest) ≡ run_from P (moved u n (moved t m q)) rest
  two_steps q t u m n rest first second =
      ap (λ o. option_and_then (λ next. run_from P next (u ∷ rest)) (state_after q t o)) first
      ∙ ap (λ o. option_and_then (λ next. run_from P next rest) (state_after (moved t m q) u o)) second

  run_parts : (q r : State) (before : List ℕ) (t u : ℕ) (m n : Move) (rest : List ℕ) → run_from P q before ≡ Some r → outcome P r t ≡ Moves m → outcome P (moved t m r) u ≡ Moves n
      → run_from P q (before ++ t ∷ u ∷ rest) ≡ run_from P (moved u n (moved t m r)) rest
  run_parts q r before t u m n rest ran first second =
      run_from-append P q before (t ∷ u ∷ rest) ∙ ap (option_and_then (λ next. run_from P next (t ∷ u ∷ rest))) ran ∙ two_steps r t u m n rest first second

  -- neighbours that may pass each other are the same in the other order
  pub passed : IsTyped P → (s : List ℕ) (place : ℕ) (q : State) (t u : ℕ) (m n : Move) → AreNeighbours P s place q t u m n → slice_get s place ≢ slice_get s (place + 1)
      → (IsStartOf q m u → ⊥) → MayPass m.kind n.kind → ArePassed P q t m u n
  passed typed s place q t u m n near apart fresh pass = record {
    fresh = fresh;
    pass = pass;
    swapped = exchange P typed q (sound_run P (take place s) q near.ran) t u (λ same. apart (near.first ∙ ap Some same ∙ sym near.second)) m n near.first_step near.second_step pass fresh;
  }

  -- and the schedule with the two exchanged runs to the same state
  pub same_run : (s : List ℕ) (place : ℕ) (q : State) (t u : ℕ) (m n : Move) → AreNeighbours P s place q t u m n → Swapped P q t m u n → run P (exchanged place s) ≡ run P s
  same_run s place q t u m n near swapped =
      let p = parts s place t u near.first near.second in
      ap (run P) p.other
      ∙ run_parts (initial P) q (take place s) u t n m p.rest near.ran swapped.before swapped.later
      ∙ ap (λ r. run_from P r p.rest) swapped.same
      ∙ sym (run_parts (initial P) q (take place s) t u m n p.rest near.ran near.first_step near.second_step)
      ∙ sym (ap (run P) p.whole)

  -- a run of entries is a run of the first and of the rest
  move_of : (q : State) (t : ℕ) (rest : List ℕ) → IsSome (run_from P q (t ∷ rest)) → (m : Move) × (outcome P q t ≡ Moves m) × IsSome (run_from P (moved t m q) rest)
  move_of q t rest runs =
      elim (outcome P q t) as (λ o. outcome P q t ≡ o → IsSome (option_and_then (λ next. run_from P next rest) (state_after q t o)) → (m : Move) × (outcome P q t ≡ Moves m) × IsSome (run_from P (moved t m q) rest)) [
        | Moves m ↦ λ e some. (m, e, some)
        | Absent ↦ λ e some. absurd cc
        | IsDone ↦ λ e some. absurd cc
        | HadFaulted kind ↦ λ e some. absurd cc
        | Waits a holder ↦ λ e some. absurd cc
      ] refl runs

  front_of : (q : State) (before rest : List ℕ) → IsSome (run_from P q (before ++ rest)) → (r : State) × (run_from P q before ≡ Some r) × IsSome (run_from P r rest)
  front_of q before rest runs =
      elim (run_from P q before) as (λ o. run_from P q before ≡ o → IsSome (option_and_then (λ r. run_from P r rest) o) → (r : State) × (run_from P q before ≡ Some r) × IsSome (run_from P r rest)) [
        | None ↦ λ e some. absurd cc
        | Some r ↦ λ e some. (r, e, some)
      ] refl (subst IsSome (run_from-append P q before rest) runs)

  pub there : (s : List ℕ) (place : ℕ) → Runs P s → IsSome (slice_get s (place + 1)) → (q : State) × (t : ℕ) × (u : ℕ) × (m : Move) × (n : Move) × AreNeighbours P s place q t u m n
  there s place runs some =
      let here = entries_there s place some in
      let p = parts s place here.0 here.1 here.2 here.3 in
      let front = front_of (initial P) (take place s) (here.0 ∷ here.1 ∷ p.rest) (subst (λ r. IsSome (run P r)) p.whole runs) in
      let one = move_of front.0 here.0 (here.1 ∷ p.rest) front.2 in
      let two = move_of (moved here.0 one.0 front.0) here.1 p.rest one.2 in
      (front.0, here.0, here.1, one.0, two.0, record { ran = front.1; first = here.2; second = here.3; first_step = one.1; second_step = two.1 })

-- Whether a thread was started is seen from how many there are.

none_started : (n k u : ℕ) (x : Option ℕ) → k ≡ n → x ≡ None → ((nat_lt n k && (u == n)) ≡ true) ↔ (x ≡ Some u)
none_started n k u x same none = (λ is. absurd (grind (arith, nat_tests)), λ is. absurd cc)

one_started : (n k u : ℕ) → k ≡ n + 1 → ((nat_lt n k && (u == n)) ≡ true) ↔ (Some n ≡ Some u)
one_started n k u more =
    ((λ is. let e : n ≡ u = grind (arith, nat_tests) in ap Some e), (λ is. let e : n ≡ u = cc in grind (arith, nat_tests)))

change_started : (c : Change) (r : State) (n u : ℕ) → length r.threads ≡ n → ((nat_lt n (length (changed c r).threads) && (u == n)) ≡ true) ↔ (started n c ≡ Some u)
change_started Nothing r n u e = none_started n (length r.threads) u None e refl
change_started (FieldIs a index v) r n u e = none_started n (length r.threads) u None e refl
change_started (ObjectIs a o) r n u e = none_started n (length r.threads) u None e refl
change_started (LockIs a hold) r n u e = none_started n (length r.threads) u None e refl
change_started (Prints k) r n u e = none_started n (length r.threads) u None e refl
change_started (Starts a m) r n u e = one_started n _ u (length-append r.threads (Ready a m ∷ []) ∙ ap (λ k. k + 1) e)

pub seen_is : (q : State) (t u : ℕ) (m n : Move) (first second : StepKind) (before after : ℕ) → before ≡ length q.threads → after ≡ length (moved t m q).threads → first ≡ m.kind → second ≡ n.kind
    → IsSeen (record { first = first; second = second; starts = nat_lt before after && (u == before) }) q m u n
seen_is q t u m n first second before after b a f s =
    let h = change_started m.change (record q { threads = slice_set q.threads t m.thread }) (length q.threads) u (length-set q.threads t m.thread) in
    record { first = f; second = s; starts = subst (λ x. ((nat_lt x after && (u == x)) ≡ true) ↔ IsStartOf q m u) (sym b) (subst (λ y. ((nat_lt (length q.threads) y && (u == length q.threads)) ≡ true) ↔ IsStartOf q m u) (sym a) h) }

-- a machine has as many threads as a state that it stands for
pub stands_long : (m : MachineValue) (q : State) → StandsFor m q → length m.state.threads ≡ length q.threads
stands_long m q h = sym (length-map m.state.threads code_thread) ∙ threads_long (program_run m) m.code.code.items _ q.threads h.threads

-- a machine that ran a schedule stands for the state that it runs to
pub run_to : (m : MachineValue) (P other : Program) (s : List ℕ) (q : State) → other ≡ P → HasRun m other (initial P) s → run P s ≡ Some q → StandsFor m q
run_to m P other s q same has is =
    let both : Some has.0 ≡ Some q = sym has.1 ∙ ap (λ R. run_from R (initial P) s) same ∙ is in
    let e : has.0 ≡ q = cc in
    subst (StandsFor m) e has.2

pub pass_kinds : (a b : StepKind) (m n : Move) → a ≡ m.kind → b ≡ n.kind → MayPass a b → MayPass m.kind n.kind
pass_kinds a b m n e f h = subst (λ x. MayPass x n.kind) e (subst (λ y. MayPass a y) f h)

pub kinds_pass : (a b : StepKind) (m n : Move) → a ≡ m.kind → b ≡ n.kind → MayPass m.kind n.kind → MayPass a b
kinds_pass a b m n e f h = subst (λ x. MayPass x b) (sym e) (subst (λ y. MayPass m.kind y) (sym f) h)

-- two entries written over each other
pub sets : (s : List ℕ) (place next : ℕ) → next ≡ place + 1 → next < length s → slice_set (slice_set s place (slice_index_or s next 0)) next (slice_index_or s place 0) ≡ exchanged place s
sets [] place next e b = absurd (omega (arith, b))
sets (x ∷ []) zero next e b = absurd (omega (arith, e, b))
sets (x ∷ y ∷ s) zero zero e b = absurd (omega (arith, e))
sets (x ∷ y ∷ s) zero (suc zero) e b = refl
sets (x ∷ y ∷ s) zero (suc (suc k)) e b = absurd (omega (arith, e))
sets (x ∷ s) (suc place) zero e b = absurd (omega (arith, e))
sets (x ∷ s) (suc place) (suc next) e b = ap (λ r. x ∷ r) (sets s place next (omega (arith, e)) (omega (arith, b)))

pub indexed : (s : List ℕ) (place t : ℕ) → slice_get s place ≡ Some t → slice_index_or s place 0 ≡ t
indexed [] place t is = absurd cc
indexed (x ∷ s) zero t is = cc
indexed (x ∷ s) (suc place) t is = indexed s place t is

pub within : (s : List ℕ) (place : ℕ) → place < length s → IsSome (slice_get s place)
within [] place b = absurd (omega (arith, b))
within (x ∷ s) zero b = refl
within (x ∷ s) (suc place) b = within s place (omega (arith, b))
