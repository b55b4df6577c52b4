-- What comes of a schedule is the answer, or memory was wanting.
use Rattle.std.proofs.Common.{◌≡◌, ◌⊎◌, inl, inr, ℕ, List, Some, None, refl, sym, ap, subst, ◌∙◌}
use Rattle.std.specs.Prelude.{Option, Result, Ok, Err, IfOk, IfErr, MatchResult, unwrap_or}
use Rattle.core_program.specs.Core.{Program}
use Rattle.core_program.specs.Typed.{IsTyped}
use Rattle.rules.specs.Rules.{IsAccepted}
use Rattle.state.specs.States.{State, initial}
use Rattle.semantics.specs.Run.{run, open_thread}
use Rattle.semantics.specs.Units.{entries, units, in_order, schedule_of, written_order}
use Rattle.reduction.proofs.Theorem.{words}
use Rattle.reduction.specs.SerialSchedules.{IsSerial}
use Rattle.reduction.proofs.WrittenOrder.{written}
use Rattle.machine.specs.declared.machine.Stopped.{Stopped}
use Rattle.machine.specs.MachineValue.{MachineValue}
use Rattle.machine.specs.Standing.{program_run, StandsFor, IsStopped}
use Rattle.serialise.specs.declared.step.Step.{Step}
use Rattle.serialise.specs.Entries.{entries_of}
use Rattle.serialise.specs.Made.{HaveRun}
use Rattle.serialise.specs.declared.serial_end.SerialEnd.{SerialEnd}
use Rattle.serialise.specs.declared.serial_end.SerialEnd.TheVariants as ends
use Rattle.serialise.specs.Rewritten.{IsRewritten, IsRewriting, EndsInside, IsRefused}
use Rattle.serialise.proofs.Endings.{runs_not_stops, stops_once}

-- what came of a run with no thread inside an atomic call at its end, and with one
pub finished : (P : Program) → IsTyped P → IsAccepted P → (s : List ℕ) (m : MachineValue) (steps : List Step) (calls : ℕ → ℕ) → program_run m ≡ P → HaveRun m s steps calls → (known : Option ℕ) → ((q : State) → StandsFor m q → known ≡ open_thread (program_run m) q) → known ≡ None
    → (r : List ℕ) → r ≡ schedule_of (in_order (units (entries_of 0 steps))) → IsRewritten P s r
finished P typed accepted s m steps calls is done known told none r ordered =
    let ran = ap (λ p. run p s) (sym is) ∙ done.ran in
    let closed = ap (λ p. open_thread p done.end) (sym is) ∙ sym (told done.end done.stands) ∙ none in
    let order : r ≡ written_order P s = ordered ∙ ap (λ es. schedule_of (in_order (units es))) (done.noted ∙ ap (λ p. entries p s) is) in
    record {
      end = done.end;
      ran = ran;
      closed = closed;
      written = order;
      serial = subst (λ x. IsSerial P s x done.end) (sym order) (written P typed s done.end ran closed (words P typed accepted s));
    }

pub left_open : (P : Program) (s : List ℕ) (m : MachineValue) (steps : List Step) (calls : ℕ → ℕ) → program_run m ≡ P → HaveRun m s steps calls → (known : Option ℕ) → ((q : State) → StandsFor m q → known ≡ open_thread (program_run m) q) → (t : ℕ) → known ≡ Some t → EndsInside P s t
left_open P s m steps calls is done known told t some = record {
  end = done.end;
  ran = ap (λ p. run p s) (sym is) ∙ done.ran;
  least = ap (λ p. open_thread p done.end) (sym is) ∙ sym (told done.end done.stands) ∙ some;
}

module _ (P : Program) (s : List ℕ) where
  same_open : (q r : State) → run P s ≡ Some q → run P s ≡ Some r → (a b : Option ℕ) → open_thread P q ≡ a → open_thread P r ≡ b → a ≡ b
  same_open q r ran other a b is k = sym is ∙ ap (open_thread P) (ap (λ o. unwrap_or o q) (sym ran ∙ other)) ∙ k

  module _ {T : Type 0} (items : T → List ℕ) (result : Result T SerialEnd) where
    rewrites : (q : State) → run P s ≡ Some q → open_thread P q ≡ None → IfOk result (λ r. IsRewritten P s (items r)) → IfErr result (IsRefused P s) → MatchResult result (λ r. IsRewritten P s (items r)) (λ e. e ≡ ends.NoMemory)
    rewrites q ran closed good refused = by result good refused
      where
        by : (result : Result T SerialEnd) → IfOk result (λ r. IsRewritten P s (items r)) → IfErr result (IsRefused P s) → MatchResult result (λ r. IsRewritten P s (items r)) (λ e. e ≡ ends.NoMemory)
        by (Ok r) good refused = good
        by (Err (ends.Stopped stopped)) good refused = absurd (runs_not_stops P s q stopped ran refused)
        by (Err (ends.Open thread)) good refused = absurd (let c = same_open refused.end q refused.ran ran (Some thread) None refused.least closed in cc)
        by (Err ends.NoMemory) good refused = refl

    stops : (stopped : Stopped) → IsStopped P (initial P) s stopped → IfOk result (λ r. IsRewritten P s (items r)) → IfErr result (IsRefused P s) → MatchResult result (λ _. ⊥) (λ e. (e ≡ ends.Stopped stopped) ⊎ (e ≡ ends.NoMemory))
    stops stopped is good refused = by result good refused
      where
        by : (result : Result T SerialEnd) → IfOk result (λ r. IsRewritten P s (items r)) → IfErr result (IsRefused P s) → MatchResult result (λ _. ⊥) (λ e. (e ≡ ends.Stopped stopped) ⊎ (e ≡ ends.NoMemory))
        by (Ok r) good refused = runs_not_stops P s good.end stopped good.ran is
        by (Err (ends.Stopped other)) good refused = inl (ap ends.Stopped (stops_once P s other stopped refused is))
        by (Err (ends.Open thread)) good refused = absurd (runs_not_stops P s refused.end stopped refused.ran is)
        by (Err ends.NoMemory) good refused = inr refl

    opens : (thread : ℕ) → EndsInside P s thread → IfOk result (λ r. IsRewritten P s (items r)) → IfErr result (IsRefused P s) → MatchResult result (λ _. ⊥) (λ e. (e ≡ ends.Open thread) ⊎ (e ≡ ends.NoMemory))
    opens thread is good refused = by result good refused
      where
        number : (one other : ℕ) → Some one ≡ Some other → one ≡ other
        number one other e = ap (λ o. unwrap_or o one) e

        by : (result : Result T SerialEnd) → IfOk result (λ r. IsRewritten P s (items r)) → IfErr result (IsRefused P s) → MatchResult result (λ _. ⊥) (λ e. (e ≡ ends.Open thread) ⊎ (e ≡ ends.NoMemory))
        by (Ok r) good refused = let c = same_open is.end good.end is.ran good.ran (Some thread) None is.least good.closed in cc
        by (Err (ends.Stopped stopped)) good refused = absurd (runs_not_stops P s is.end stopped is.ran refused)
        by (Err (ends.Open other)) good refused = inl (ap ends.Open (number other thread (same_open refused.end is.end refused.ran is.ran (Some other) (Some thread) refused.least is.least)))
        by (Err ends.NoMemory) good refused = inr refl

    pub rewriting : IfOk result (λ r. IsRewritten P s (items r)) → IfErr result (IsRefused P s) → IsRewriting P s result items
    rewriting good refused = record {
      rewritten = good;
      refused = refused;
      rewrites = λ q ran closed. rewrites q ran closed good refused;
      stops = λ stopped is. stops stopped is good refused;
      opens = λ thread is. opens thread is good refused;
    }

  -- the order alone of an answer, and a refusal of any answer
  pub order_alone : {T : Type 0} {U : Type 0} (items : T → List ℕ) (others : U → List ℕ) (r : T) (o : U) → others o ≡ items r → IsRewriting P s (Ok r) items → IsRewriting P s (Ok o) others
  order_alone items others r o same told =
      let good = subst (IsRewritten P s) (sym same) told.rewritten in
      record { rewritten = good; refused = told.refused; rewrites = λ q ran closed. good; stops = told.stops; opens = told.opens }

  pub refused_alone : {T : Type 0} {U : Type 0} (items : T → List ℕ) (others : U → List ℕ) (e : SerialEnd) → IsRewriting P s (Err e) items → IsRewriting P s (Err e) others
  refused_alone items others e told =
      record { rewritten = told.rewritten; refused = told.refused; rewrites = told.rewrites; stops = told.stops; opens = told.opens }
