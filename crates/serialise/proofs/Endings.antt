-- A schedule stops once, or runs.
use Rattle.std.proofs.Common.{◌≡◌, ◌≢◌, ◌⊎◌, inl, inr, ℕ, zero, suc, ◌+◌, ◌<◌, List, [], ◌∷◌, length, Some, None, refl, sym, ap, subst, ◌∙◌, arith}
use Rattle.std.specs.Prelude.{IsSome, Option, take, slice_get, option_and_then, unwrap_or}
use Rattle.std.proofs.lemmas.List.{take_all}
use Rattle.core_program.specs.Core.{Program}
use Rattle.state.specs.States.{State, initial}
use Rattle.semantics.specs.Run.{run, run_from}
use Rattle.semantics.specs.Step.{Outcome, Moves, Absent, IsDone, HadFaulted, Waits, outcome, step, state_after}
use Rattle.machine.specs.declared.deed.StepEnd.{StepEnd}
use Rattle.machine.specs.declared.deed.StepEnd.TheVariants as ends
use Rattle.machine.specs.declared.machine.Stopped.{Stopped}
use Rattle.machine.specs.Reasons.{IsReason}
use Rattle.machine.specs.Standing.{IsStopped}
use Rattle.machine.proofs.Schedules.{no_step}

same_reason : (one other : StepEnd) (o : Outcome) → IsReason one o → IsReason other o → one ≡ other
same_reason one other (Moves m) is k = is ∙ sym k
same_reason one other Absent is k = is ∙ sym k
same_reason one other IsDone is k = is ∙ sym k
same_reason one other (HadFaulted kind) is k = is ∙ sym k
same_reason one other (Waits a holder) is k = is ∙ sym k

some_same : {A : Type 0} (d x y : A) → Some x ≡ Some y → x ≡ y
some_same d x y e = ap (λ o. unwrap_or o d) e

-- an entry inside a front that runs steps
module _ (P : Program) where
  steps_before : (s : List ℕ) (k i : ℕ) (q r before : State) (t : ℕ) → i < k → run_from P q (take k s) ≡ Some r → run_from P q (take i s) ≡ Some before → slice_get s i ≡ Some t → step P before t ≡ None → ⊥
  steps_before [] k i q r before t less ran ran_before at none = absurd cc
  steps_before (u ∷ s) zero i q r before t less ran ran_before at none = absurd (omega (arith, less))
  steps_before (u ∷ s) (suc k) zero q r before t less ran ran_before at none =
      let here : u ≡ t = some_same u u t at in
      let start : q ≡ before = some_same q q before ran_before in
      let gone : step P q u ≡ None = ap (step P q) here ∙ ap (λ z. step P z t) start ∙ none in
      let clash : None ≡ Some r = sym (ap (option_and_then (λ next. run_from P next (take k s))) gone) ∙ ran in cc
  steps_before (u ∷ s) (suc k) (suc i) q r before t less ran ran_before at none = by (step P q u) ran ran_before (λ next a b. steps_before s k i next r before t (omega (arith, less)) a b at none)
    where
      by : (o : Option State) → option_and_then (λ next. run_from P next (take k s)) o ≡ Some r → option_and_then (λ next. run_from P next (take i s)) o ≡ Some before
          → ((next : State) → run_from P next (take k s) ≡ Some r → run_from P next (take i s) ≡ Some before → ⊥) → ⊥
      by None ran ran_before later = absurd cc
      by (Some next) ran ran_before later = later next ran ran_before

  below : (s : List ℕ) (i t : ℕ) → slice_get s i ≡ Some t → i < length s
  below [] i t at = absurd cc
  below (u ∷ s) zero t at = omega arith
  below (u ∷ s) (suc i) t at = let h = below s i t at in omega (arith, h)

  pub runs_not_stops : (s : List ℕ) (q : State) (stopped : Stopped) → run P s ≡ Some q → IsStopped P (initial P) s stopped → ⊥
  runs_not_stops s q stopped ran stops =
      let stop = stops.stop in
      steps_before s (length s) stop.place (initial P) q stops.before stopped.thread (below s stop.place stopped.thread stop.thread) (ap (run P) (take_all (length s) s (omega arith)) ∙ ran) stop.ran stop.thread
      (no_step stops.before stopped.thread stopped.why (outcome P stops.before stopped.thread) stop.why stops.refused)

  not_before : (s : List ℕ) (one other : Stopped) (a : IsStopped P (initial P) s one) (b : IsStopped P (initial P) s other) → a.stop.place < b.stop.place → ⊥
  not_before s one other a b less =
      steps_before s b.stop.place a.stop.place (initial P) b.before a.before one.thread less b.stop.ran a.stop.ran a.stop.thread
      (no_step a.before one.thread one.why (outcome P a.before one.thread) a.stop.why a.refused)

  same_place : (m n : ℕ) → (m < n → ⊥) → (n < m → ⊥) → m ≡ n
  same_place zero zero h k = refl
  same_place zero (suc n) h k = absurd (h (omega arith))
  same_place (suc m) zero h k = absurd (k (omega arith))
  same_place (suc m) (suc n) h k = ap suc (same_place m n (λ l. h (omega (arith, l))) (λ l. k (omega (arith, l))))

  pub stops_once : (s : List ℕ) (one other : Stopped) → IsStopped P (initial P) s one → IsStopped P (initial P) s other → one ≡ other
  stops_once s one other a b =
      let places : a.stop.place ≡ b.stop.place = same_place a.stop.place b.stop.place (not_before s one other a b) (not_before s other one b a) in
      let threads : one.thread ≡ other.thread = some_same one.thread one.thread other.thread (sym a.stop.thread ∙ ap (slice_get s) places ∙ b.stop.thread) in
      let befores : a.before ≡ b.before = some_same a.before a.before b.before (sym a.stop.ran ∙ ap (λ k. run P (take k s)) places ∙ b.stop.ran) in
      let entries : one.entry ≡ other.entry = a.stop.entry ∙ ap (λ n. n + 1) places ∙ sym b.stop.entry in
      let reasons : one.why ≡ other.why = same_reason one.why other.why (outcome P b.before other.thread) (subst (λ z. IsReason one.why (outcome P z other.thread)) befores (subst (λ t. IsReason one.why (outcome P a.before t)) threads a.stop.why)) b.stop.why in
      λ i. record { entry = entries i; thread = threads i; why = reasons i }

-- the reason of a turn without a step
reason_of : (q : State) (t : ℕ) (o : Outcome) → state_after q t o ≡ None → (why : StepEnd) × IsReason why o × (why ≢ ends.NoMemory)
reason_of q t (Moves m) none = absurd cc
reason_of q t Absent none = (ends.Absent, refl, λ e. cc)
reason_of q t IsDone none = (ends.Done, refl, λ e. cc)
reason_of q t (HadFaulted kind) none = (ends.Faulted kind, refl, λ e. cc)
reason_of q t (Waits a holder) none = (ends.Waits a holder, refl, λ e. cc)

module _ (P : Program) where
  stops_from : (s : List ℕ) (q : State) → IsSome (run_from P q s) ⊎ ((stopped : Stopped) × IsStopped P q s stopped)
  stops_from [] q = inl refl
  stops_from (t ∷ s) q = by (step P q t) refl (λ next. stops_from s next)
    where
      later : (next : State) → step P q t ≡ Some next → ((stopped : Stopped) × IsStopped P next s stopped) → (stopped : Stopped) × IsStopped P q (t ∷ s) stopped
      later next e (stopped, is) = (
        record stopped { entry = stopped.entry + 1 },
        record {
          before = is.before;
          stop = record {
            place = suc is.stop.place;
            entry = let entry = is.stop.entry in omega (arith, entry);
            thread = is.stop.thread;
            ran = ap (option_and_then (λ x. run_from P x (take is.stop.place s))) e ∙ is.stop.ran;
            why = is.stop.why;
          };
          refused = is.refused;
        },
      )

      by : (o : Option State) → step P q t ≡ o → ((next : State) → IsSome (run_from P next s) ⊎ ((stopped : Stopped) × IsStopped P next s stopped)) → IsSome (option_and_then (λ next. run_from P next s) o) ⊎ ((stopped : Stopped) × IsStopped P q (t ∷ s) stopped)
      by None e rest =
          let reason = reason_of q t (outcome P q t) e in
          inr (record { entry = 1; thread = t; why = reason.0 }, record { before = q; stop = record { place = 0; entry = refl; thread = refl; ran = refl; why = reason.1 }; refused = reason.2 })
      by (Some next) e rest = one_of (rest next)
        where
          one_of : IsSome (run_from P next s) ⊎ ((stopped : Stopped) × IsStopped P next s stopped) → IsSome (run_from P next s) ⊎ ((stopped : Stopped) × IsStopped P q (t ∷ s) stopped)
          one_of (inl runs) = inl runs
          one_of (inr stops) = inr (later next e stops)

  pub runs_or_stops : (s : List ℕ) → IsSome (run P s) ⊎ ((stopped : Stopped) × IsStopped P (initial P) s stopped)
  runs_or_stops s = stops_from s (initial P)
