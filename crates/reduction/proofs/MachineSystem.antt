-- The machine is a system whose kinds of steps mean what they say.
use Rattle.std.proofs.Common.{◌≡◌, ◌≢◌, ℕ, suc, zero, ◌+◌, ◌<◌, ◌≤◌, ◌==◌, true, List, [], ◌∷◌, ◌++◌, length, refl, sym, ap, subst, ◌∙◌, Some, arith}
use Rattle.std.specs.Prelude.{nat_lt, slice_get, slice_set, option_and_then, if◌then◌else◌}
use Rattle.std.proofs.lemmas.Bool.{ltb-true, lt-ltb}
use Rattle.std.proofs.lemmas.List.{length-set}
use Rattle.std.proofs.lemmas.Option.{same_Some}
use Rattle.core_program.specs.Core.{Program}
use Rattle.core_program.specs.Typed.{IsTyped}
use Rattle.state.specs.declared.value.StepKind.{StepKind}
use Rattle.state.specs.declared.value.StepKind.TheVariants.{Both, Right, Left, Other, Bare}
use Rattle.state.specs.States.{Thread, Ready, State}
use Rattle.semantics.specs.Asks.{Ask, asks}
use Rattle.semantics.specs.Run.{run_from, own_states, owns_then}
use Rattle.semantics.specs.Step.{Shared, Change, Nothing, FieldIs, ObjectIs, LockIs, Prints, Starts, Move, Outcome, Moves, Absent, IsDone, HadFaulted, Waits, outcome, moved, state_after, seen_by}
use Rattle.semantics.specs.Units.{entry_then, entries_from}
use Rattle.semantics.specs.Words.{moves_right, moves_left}
use Rattle.reduction.specs.Changes.{Did, quiet, was_read, was_written, was_made, was_taken, taken_more, was_given, was_started, was_printed}
use Rattle.reduction.specs.Parts.{on_threads}
use Rattle.reduction.specs.Addresses.{HasNoDanglingAddress}
use Rattle.reduction.specs.Swapped.{started, Swapped}
use Rattle.reduction.proofs.Commute.{moved_is}
use Rattle.reduction.proofs.Dids.{moves_did}
use Rattle.reduction.proofs.Moving.{right_mover, left_mover}
use Rattle.reduction.proofs.SoundRuns.{sound_moved}
use Rattle.reduction.proofs.Swap.{stepper, thread_kept}
use Rattle.reduction.specs.Systems.{StepTo, Steps}
use Rattle.reduction.specs.Systems as of
use Rattle.reduction.specs.Movers.{Swaps, HasMovers}
use Rattle.reduction.specs.MachineSystem.{step_to, machine}

-- a start is Other
start_kind : (P : Program) (see : Shared) (t : ℕ) (ask : Ask) (k : StepKind) (c : Change) → Did P see t ask k c → (n u : ℕ) → started n c ≡ Some u → k ≡ Other
start_kind P see t _ _ _ (quiet ask idle) n u e = absurd cc
start_kind P see t _ _ _ (was_read f v is has) n u e = absurd cc
start_kind P see t _ _ _ (was_written f o v is m has) n u e = absurd cc
start_kind P see t _ _ _ (was_made o) n u e = absurd cc
start_kind P see t _ _ _ (was_taken is) n u e = absurd cc
start_kind P see t _ _ _ (taken_more h is by) n u e = absurd cc
start_kind P see t _ _ _ (was_given h is by) n u e = absurd cc
start_kind P see t _ _ _ (was_started m) n u e = refl
start_kind P see t _ _ _ (was_printed k) n u e = absurd cc

-- a thread that is started has the next number
pub start_number : (n u : ℕ) (c : Change) → started n c ≡ Some u → u ≡ n
start_number n u Nothing e = absurd cc
start_number n u (FieldIs a i v) e = absurd cc
start_number n u (ObjectIs a o) e = absurd cc
start_number n u (LockIs a h) e = absurd cc
start_number n u (Prints k) e = absurd cc
start_number n u (Starts a m) e = cc

length_append : {A : Type 0} (xs : List A) (x : A) → length (xs ++ x ∷ []) ≡ suc (length xs)
length_append [] x = refl
length_append (y ∷ ys) x = ap suc (length_append ys x)

grown : (c : Change) (threads : List Thread) → length threads ≤ length (on_threads c threads)
grown Nothing threads = omega arith
grown (FieldIs a i v) threads = omega arith
grown (ObjectIs a o) threads = omega arith
grown (LockIs a h) threads = omega arith
grown (Prints k) threads = omega arith
grown (Starts a m) threads = let e = length_append threads (Ready a m) in omega (arith, e)

-- no thread goes away
pub threads_grow : (q : State) (t : ℕ) (m : Move) → length q.threads ≤ length (moved t m q).threads
threads_grow q t m =
    let e = ap (λ (s : State). length s.threads) (moved_is t m q) in
    let g = grown m.change (slice_set q.threads t m.thread) in
    let l = length-set q.threads t m.thread in
    omega (arith, e, g, l)

-- a thread's own state after its step
pub own_after : (P : Program) (q : State) (t : ℕ) (m : Move) → outcome P q t ≡ Moves m → slice_get (moved t m q).threads t ≡ Some m.thread
own_after P q t m e =
    ap (λ (s : State). slice_get s.threads t) (moved_is t m q) ∙ kept m.change (slice_set q.threads t m.thread) (here q.threads t m.thread (stepper P q t m e))
  where
    here : (xs : List Thread) (i : ℕ) (x : Thread) → i < length xs → slice_get (slice_set xs i x) i ≡ Some x
    here [] i x lt = absurd (omega (arith, lt))
    here (y ∷ ys) zero x lt = refl
    here (y ∷ ys) (suc i) x lt = here ys i x (omega (arith, lt))

    front : (xs ys : List Thread) (i : ℕ) → slice_get xs i ≡ Some m.thread → slice_get (xs ++ ys) i ≡ Some m.thread
    front [] ys i e = absurd cc
    front (x ∷ xs) ys zero e = e
    front (x ∷ xs) ys (suc i) e = front xs ys i e

    kept : (c : Change) (xs : List Thread) → slice_get xs t ≡ Some m.thread → slice_get (on_threads c xs) t ≡ Some m.thread
    kept Nothing xs e = e
    kept (FieldIs a i v) xs e = e
    kept (ObjectIs a o) xs e = e
    kept (LockIs a h) xs e = e
    kept (Prints k) xs e = e
    kept (Starts a n) xs e = front xs _ t e

-- a step of the system is a move of the machine
record Made (P : Program) (q : State) (t : ℕ) (k : StepKind) (r : State) : Type 0 where
  pub move : Move
  pub is : outcome P q t ≡ Moves move
  pub kind : move.kind ≡ k
  pub to : moved t move q ≡ r

made : (P : Program) (q r : State) (t : ℕ) (k : StepKind) → Steps (machine P) q t k r → Made P q t k r
made P q r t k steps = by (outcome P q t) refl steps
  where
    by : (o : Outcome) → outcome P q t ≡ o → step_to q t o ≡ Some (record { kind = k; to = r }) → Made P q t k r
    by (Moves m) is e =
        let same : record { kind = m.kind; to = moved t m q } ≡ record { kind = k; to = r } = same_Some _ _ e in
        record { move = m; is = is; kind = ap (λ (x : StepTo State). x.kind) same; to = ap (λ (x : StepTo State). x.to) same }
    by Absent is e = absurd cc
    by IsDone is e = absurd cc
    by (HadFaulted why) is e = absurd cc
    by (Waits a h) is e = absurd cc

step_of : (P : Program) (q r : State) (t : ℕ) (k : StepKind) (m : Move) → outcome P q t ≡ Moves m → m.kind ≡ k → moved t m q ≡ r → Steps (machine P) q t k r
step_of P q r t k m is kind to = ap (step_to q t) is ∙ (λ i. Some (record { kind = kind i; to = to i }))

-- what moves right starts nobody, and what starts a thread starts none that is there
right_no_other : (k : StepKind) → moves_right k ≡ true → k ≡ Other → ⊥
right_no_other Both r e = cc
right_no_other Right r e = cc
right_no_other Left r e = cc
right_no_other Other r e = cc
right_no_other Bare r e = cc

right_starts_none : (P : Program) (q : State) (t : ℕ) (m : Move) → outcome P q t ≡ Moves m → moves_right m.kind ≡ true → (u : ℕ) → started (length q.threads) m.change ≢ Some u
right_starts_none P q t m is right u starts =
    absurd (right_no_other m.kind right (start_kind P (seen_by t q) t (asks P (slice_get q.threads t)) m.kind m.change (moves_did P (seen_by t q) t (slice_get q.threads t) m is) (length q.threads) u starts))

there_not_started : (q : State) (m : Move) (u : ℕ) → nat_lt u (length q.threads) ≡ true → started (length q.threads) m.change ≢ Some u
there_not_started q m u there starts = absurd (let e = start_number (length q.threads) u m.change starts in let lt = ltb-true u (length q.threads) there in omega (arith, e, lt))

-- two moves that change places are two steps that do
swaps_of : (P : Program) (q mid r : State) (t u : ℕ) (k l : StepKind) (m : Made P q t k mid) (n : Made P mid u l r) → Swapped P q t m.move u n.move → Swaps (machine P) q t k u l r
swaps_of P q mid r t u k l m n swap = record {
  between = moved u n.move q;
  before = step_of P q (moved u n.move q) u l n.move swap.before n.kind refl;
  later = step_of P (moved u n.move q) r t k m.move swap.later m.kind (swap.same ∙ ap (moved u n.move) m.to ∙ n.to);
}

second : (P : Program) (q mid r : State) (t u : ℕ) (k l : StepKind) (m : Made P q t k mid) (n : Made P mid u l r) → outcome P (moved t m.move q) u ≡ Moves n.move
second P q mid r t u k l m n = ap (λ z. outcome P z u) m.to ∙ n.is

-- the kinds of the machine's steps mean what they say, in typed programs
pub machine_moves : (P : Program) → IsTyped P → HasMovers (machine P) HasNoDanglingAddress
machine_moves P typed = record {
  sound = λ q r t k s steps. let m = made P q r t k steps in subst HasNoDanglingAddress m.to (sound_moved P q t m.move s m.is);
  stepper = λ q r t k steps. let m = made P q r t k steps in lt-ltb t (length q.threads) (stepper P q t m.move m.is);
  stays = λ q r t u k steps there.
      let m = made P q r t k steps in
      let less = ltb-true u (length q.threads) there in
      let more = threads_grow q t m.move in
      lt-ltb u (length r.threads) (subst (λ (z : State). u < length z.threads) m.to (omega (arith, less, more)));
  own = λ q r t u k other steps there.
      let m = made P q r t k steps in
      ap (λ (z : State). slice_get z.threads u) (sym m.to) ∙ thread_kept q t u m.move (λ e. absurd (other e)) (λ s. absurd (there_not_started q m.move u there s));
  right = λ q mid r t u k l s other first next right bare.
      let m = made P q mid t k first in
      let n = made P mid r u l next in
      let is : moves_right m.move.kind ≡ true = ap moves_right m.kind ∙ right in
      swaps_of P q mid r t u k l m n (right_mover P typed q s t m.move m.is is u n.move other (second P q mid r t u k l m n) (λ e. absurd (bare (sym n.kind ∙ e))) (right_starts_none P q t m.move m.is is u));
  left = λ q mid r t u k l s other first next left bare there.
      let m = made P q mid t k first in
      let n = made P mid r u l next in
      swaps_of P q mid r t u k l m n (left_mover P typed q s u n.move (ap moves_left n.kind ∙ left) t m.move other m.is (second P q mid r t u k l m n) (λ e. absurd (bare (sym m.kind ∙ e))) (there_not_started q m.move u there));
}

-- The system's runs, entries and own states are the machine's.
module _ (P : Program) where
  pub run_same : (s : List ℕ) (q : State) → of.system_run_from (machine P) q s ≡ run_from P q s
  run_same [] q = refl
  run_same (t ∷ s) q = by (outcome P q t) (λ next. run_same s next)
    where
      by : (o : Outcome) → ((next : State) → of.system_run_from (machine P) next s ≡ run_from P next s) → of.run_then (step_to q t o) (λ next. of.system_run_from (machine P) next s) ≡ option_and_then (λ next. run_from P next s) (state_after q t o)
      by (Moves m) later = later (moved t m q)
      by Absent later = refl
      by IsDone later = refl
      by (HadFaulted why) later = refl
      by (Waits a h) later = refl

  pub entries_same : (s : List ℕ) (q : State) (place : ℕ) → of.system_entries_from (machine P) q place s ≡ entries_from P q place s
  entries_same [] q place = refl
  entries_same (t ∷ s) q place = by (outcome P q t) (λ next. entries_same s next (place + 1))
    where
      by : (o : Outcome) → ((next : State) → of.system_entries_from (machine P) next (place + 1) s ≡ entries_from P next (place + 1) s)
          → of.system_entry_then (machine P) place t (step_to q t o) (λ next. of.system_entries_from (machine P) next (place + 1) s) ≡ entry_then P q place t o (λ next. entries_from P next (place + 1) s)
      by (Moves m) later = ap (λ es. of.system_entry_then (machine P) place t (step_to q t (Moves m)) (λ next. es)) (later (moved t m q))
      by Absent later = refl
      by IsDone later = refl
      by (HadFaulted why) later = refl
      by (Waits a h) later = refl

  pub owns_same : (t : ℕ) (s : List ℕ) (q : State) → of.owns_from (machine P) q t s ≡ own_states P q t s
  owns_same t [] q = refl
  owns_same t (u ∷ s) q = by (outcome P q u) (λ next. owns_same t s next)
    where
      by : (o : Outcome) → ((next : State) → of.owns_from (machine P) next t s ≡ own_states P next t s)
          → of.system_owns_then (machine P) t u (step_to q u o) (λ next. of.owns_from (machine P) next t s) ≡ owns_then t u (λ next. own_states P next t s) (state_after q u o)
      by (Moves m) later = ap (λ xs. if u == t then slice_get (moved u m q).threads u ∷ xs else xs) (later (moved u m q))
      by Absent later = refl
      by IsDone later = refl
      by (HadFaulted why) later = refl
      by (Waits a h) later = refl
