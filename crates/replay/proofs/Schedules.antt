-- From the schedule to the steps of one call.
use Rattle.std.proofs.Common.{◌≡◌, ℕ, zero, suc, ◌+◌, ◌-◌, ◌<◌, ◌≤◌, true, false, List, [], ◌∷◌, ◌++◌, Some, None, refl, sym, ap, subst, ◌∙◌, arith, length-append}
use Rattle.std.specs.Prelude.{Option, IsSome, length, take, drop, replicate, option_and_then, slice_get}
use Rattle.std.proofs.lemmas.List.{take-append-drop, length-replicate}
use Rattle.std.proofs.lemmas.Option.{none-some, same_Some}
use Rattle.base.proofs.Lists.{take_at}
use Rattle.core_program.specs.Core.{Program}
use Rattle.core_program.specs.Typed.{IsTyped}
use Rattle.state.specs.States.{Thread, State, initial}
use Rattle.semantics.specs.Step.{step, state_after}
use Rattle.semantics.specs.Run.{run, run_from, inside, IsUninterrupted}
use Rattle.semantics.proofs.RunLemmas.{run_from-append}
use Rattle.semantics.proofs.StepCases.{absent_is}
use Rattle.replay.specs.Plain.{plain_of}
use Rattle.replay.specs.Evaluation.{most_number}
use Rattle.replay.specs.Calls.{IsCallAt, IsReplayed}
use Rattle.replay.proofs.Comes.{IsFull}
use Rattle.replay.proofs.Joined.{Within}
use Rattle.replay.proofs.Neat.{IsNeat}
use Rattle.replay.proofs.Runs.{bounds, not_full}
use Rattle.replay.proofs.Whole.{replayed}

-- an entry before the end is there
pub entry_before : (s : List ℕ) (i : ℕ) → i < length s → (u : ℕ) × (slice_get s i ≡ Some u)
entry_before [] i less = absurd (omega (arith, less))
entry_before (u ∷ s) zero less = (u, refl)
entry_before (u ∷ s) (suc i) less = entry_before s i (omega (arith, less))

module _ (P : Program) where
  -- the front of a schedule that runs runs
  front_runs : (s r : List ℕ) → IsSome (run P (s ++ r)) → (q : State) × (run P s ≡ Some q)
  front_runs s r runs = by_run (run P s) refl (subst (λ o. IsSome o) (run_from-append P (initial P) s r) runs)
    where
      by_run : (o : Option State) → run P s ≡ o → IsSome (option_and_then (λ next. run_from P next r) o) → (q : State) × (run P s ≡ Some q)
      by_run None e some = absurd (let k : false ≡ true = some in cc)
      by_run (Some q) e some = (q, e)

  pub prefix_runs : (s : List ℕ) (n : ℕ) → IsSome (run P s) → (q : State) × (run P (take n s) ≡ Some q)
  prefix_runs s n runs = front_runs (take n s) (drop n s) (subst (λ x. IsSome (run P x)) (sym (take-append-drop n s)) runs)

  -- the step of an entry
  pub entry_steps : (s : List ℕ) (i t : ℕ) (q next : State) → slice_get s i ≡ Some t → run P (take i s) ≡ Some q → run P (take (i + 1) s) ≡ Some next → step P q t ≡ Some next
  entry_steps s i t q next e before after = by_step (step P q t) refl
      (sym (ap (option_and_then (λ x. run_from P x (t ∷ []))) before) ∙ sym (run_from-append P (initial P) (take i s) (t ∷ [])) ∙ ap (run P) (sym (take_at s i t e)) ∙ after)
    where
      by_step : (o : Option State) → step P q t ≡ o → option_and_then (λ x. run_from P x []) o ≡ Some next → o ≡ Some next
      by_step None is k = absurd (none-some next k)
      by_step (Some x) is k = k

  module _ (typed : IsTyped P) (neat : IsNeat P) (s : List ℕ) (alone : IsUninterrupted P s) (short : length s < most_number) (place k t : ℕ) (q r : State) (call : IsCallAt P s place k t q r) where
    add_suc : (p i : ℕ) → p + suc i ≡ (p + i) + 1
    add_suc p i = omega arith

    -- the entries of the call are the thread's
    entries_are : (i : ℕ) → i < k → slice_get s (place + i) ≡ Some t
    entries_are zero less = ap (slice_get s) (no_more place) ∙ call.entry
      where
        no_more : (n : ℕ) → n + 0 ≡ n
        no_more n = omega arith
    entries_are (suc i) less =
        let before = entries_are i (omega (arith, less)) in
        let here = entry_before s ((place + i) + 1) (let w = call.within in omega (arith, less, w)) in
        let ran = prefix_runs s ((place + i) + 1) alone.runs in
        let stands = call.inner (suc i) ran.0 (omega arith) less (ap (λ n. run P (take n s)) (add_suc place i) ∙ ran.1) in
        ap (slice_get s) (add_suc place i) ∙ here.1 ∙ ap Some (alone.kept (place + i) t here.0 ran.0 before here.1 ran.1 stands)

    within_from : (left i : ℕ) → i + left ≡ k → 0 < i → (mid : State) → run P (take (place + i) s) ≡ Some mid → Within P t left mid r
    within_from zero i all more mid ran = (same, ap (λ x. inside P x t) same ∙ call.ended)
      where
        same : mid ≡ r
        same = same_Some mid r (sym ran ∙ ap (λ n. run P (take (place + n) s)) (let e : i ≡ k = omega (arith, all) in e) ∙ call.after)
    within_from (suc left) i all more mid ran =
        let less : i < k = omega (arith, all) in
        let next = prefix_runs s ((place + i) + 1) alone.runs in (
          call.inner i mid more less ran,
          (
            next.0,
            entry_steps s (place + i) t mid next.0 (entries_are i less) ran next.1,
            within_from left (suc i) (omega (arith, all)) (omega arith) next.0 (ap (λ n. run P (take n s)) (add_suc place i) ∙ next.1),
          ),
        )

    -- after i more steps of the thread the state is one of a run that is short enough
    room : (first : State) → run P (take (place + 1) s) ≡ Some first → (i : ℕ) (mid : State) → i ≤ k - 1 → run_from P first (replicate i t) ≡ Some mid → IsFull t (plain_of mid) → ⊥
    room first ran i mid less goes full =
        not_full P typed (length (take (place + 1) s ++ replicate i t)) mid (bounds P typed (take (place + 1) s ++ replicate i t) mid
        (run_from-append P (initial P) (take (place + 1) s) (replicate i t) ∙ ap (option_and_then (λ x. run_from P x (replicate i t))) ran ∙ goes))
        (let a = length-append (take (place + 1) s) (replicate i t) in
        let b = length-replicate i t in
        let c = length_take (place + 1) s in
        let w = call.within in
        let l = call.long in
        omega (arith, short, a, b, c, w, l, less)) t full
      where
        length_take : (n : ℕ) (xs : List ℕ) → length (take n xs) ≤ n
        length_take zero xs = omega arith
        length_take (suc n) [] = omega arith
        length_take (suc n) (x ∷ xs) = let h = length_take n xs in omega (arith, h)

    -- the thread is there
    there_is : (first : State) → step P q t ≡ Some first → (old : Thread) × (slice_get q.threads t ≡ Some old)
    there_is first e = by_entry (slice_get q.threads t) refl
      where
        by_entry : (o : Option Thread) → slice_get q.threads t ≡ o → (old : Thread) × (slice_get q.threads t ≡ Some old)
        by_entry None is = absurd (none-some first (sym (ap (state_after q t) (absent_is P q t is)) ∙ e))
        by_entry (Some old) is = (old, is)

    by_length : (n : ℕ) → k ≡ suc (suc n) → IsReplayed P t k q r
    by_length n is =
        let first = prefix_runs s (place + 1) alone.runs in
        let stepped = entry_steps s place t q first.0 call.entry call.before first.1 in
        let old = there_is first.0 stepped in
        let b = bounds P typed (take place s) q call.before in
        subst (λ x. IsReplayed P t x q r) (sym is)
        (replayed P neat q first.0 r t n old.0 old.1 call.outside stepped (within_from (suc n) 1 (let e : 1 + suc n ≡ k = omega (arith, is) in e) (omega arith) first.0 first.1)
        (λ i mid less. room first.0 first.1 i mid (omega (arith, less, is))) (λ a m method ready. b.void t a m method ready))

    pub call_replayed : IsReplayed P t k q r
    call_replayed = by_count k refl
      where
        by_count : (j : ℕ) → k ≡ j → IsReplayed P t k q r
        by_count zero is = absurd (let l = call.long in omega (arith, l, is))
        by_count (suc zero) is = absurd (let l = call.long in omega (arith, l, is))
        by_count (suc (suc n)) is = by_length n is
