-- What comes of a schedule is the answer, or memory was wanting.
use Rattle.std.proofs.Common.{◌≡◌, ◌⊎◌, inl, inr, ℕ, List, Some, refl, sym, ap, subst, ◌∙◌}
use Rattle.std.specs.Prelude.{Result, Ok, Err, IfOk, IfErr, MatchResult}
use Rattle.core_program.specs.Core.{Program}
use Rattle.core_program.specs.Typed.{IsTyped}
use Rattle.rules.specs.Rules.{IsAccepted}
use Rattle.state.specs.States.{State, initial}
use Rattle.semantics.specs.Run.{run}
use Rattle.semantics.specs.Units.{entries, units, schedule_of}
use Rattle.reduction.proofs.Theorem.{words}
use Rattle.machine.specs.declared.machine.Stopped.{Stopped}
use Rattle.machine.specs.MachineValue.{MachineValue}
use Rattle.machine.specs.Standing.{program_run, IsStopped}
use Rattle.serialise.specs.declared.step.Step.{Step}
use Rattle.serialise.specs.Entries.{entries_of}
use Rattle.serialise.specs.Made.{HaveRun}
use Rattle.serialise.proofs.Endings.{runs_not_stops, stops_once}
use Rattle.serialise.specs.declared.run_end.RunEnd.{RunEnd}
use Rattle.serialise.specs.declared.run_end.RunEnd.TheVariants as ends
use Rattle.serialise.specs.NoRun.{IsNoRun}
use Rattle.serialise.specs.Opened.{IsOpened, IsOpening}
use Rattle.reduction.specs.Committing.{open_units}
use Rattle.serialise.specs.OpenOrder.{open_order}
use Rattle.serialise.specs.Whole.{IsGathered}
use Rattle.serialise.proofs.Gathered.{gathered, closed_order}

-- what came of a run
pub finished : (P : Program) → IsTyped P → IsAccepted P → (s : List ℕ) (m : MachineValue) (steps : List Step) (calls : ℕ → ℕ) → program_run m ≡ P → HaveRun m s steps calls
    → (r : List ℕ) → r ≡ schedule_of (open_units (units (entries_of 0 steps))) → IsOpened P s r
finished P typed accepted s m steps calls is done r ordered =
    let ran = ap (λ p. run p s) (sym is) ∙ done.ran in
    let order : r ≡ open_order P s = ordered ∙ ap (λ es. schedule_of (open_units (units es))) (done.noted ∙ ap (λ p. entries p s) is) in
    record {
      end = done.end;
      ran = ran;
      ordered = order;
      gathered = subst (λ x. IsGathered P s x done.end) (sym order) (gathered P typed s done.end ran (words P typed accepted s));
      closed = λ nobody. order ∙ closed_order P typed s done.end ran nobody;
    }

module _ (P : Program) (s : List ℕ) {T : Type 0} (items : T → List ℕ) where
  opens : (result : Result T RunEnd) (q : State) → run P s ≡ Some q → IfOk result (λ r. IsOpened P s (items r)) → IfErr result (IsNoRun P s) → MatchResult result (λ r. IsOpened P s (items r)) (λ e. e ≡ ends.NoMemory)
  opens (Ok r) q ran good refused = good
  opens (Err (ends.Stopped stopped)) q ran good refused = absurd (runs_not_stops P s q stopped ran refused)
  opens (Err ends.NoMemory) q ran good refused = refl

  stops : (result : Result T RunEnd) (stopped : Stopped) → IsStopped P (initial P) s stopped → IfOk result (λ r. IsOpened P s (items r)) → IfErr result (IsNoRun P s) → MatchResult result (λ _. ⊥) (λ e. (e ≡ ends.Stopped stopped) ⊎ (e ≡ ends.NoMemory))
  stops (Ok r) stopped is good refused = runs_not_stops P s good.end stopped good.ran is
  stops (Err (ends.Stopped other)) stopped is good refused = inl (ap ends.Stopped (stops_once P s other stopped refused is))
  stops (Err ends.NoMemory) stopped is good refused = inr refl

  pub opening : (result : Result T RunEnd) → IfOk result (λ r. IsOpened P s (items r)) → IfErr result (IsNoRun P s) → IsOpening P s result items
  opening result good refused = record {
    opened = good;
    refused = refused;
    opens = λ q ran. opens result q ran good refused;
    stops = λ stopped is. stops result stopped is good refused;
  }

  -- the order alone of an answer, and a refusal of any answer
  pub order_alone : {U : Type 0} (others : U → List ℕ) (r : T) (o : U) → others o ≡ items r → IsOpening P s (Ok r) items → IsOpening P s (Ok o) others
  order_alone others r o same told =
      let good = subst (IsOpened P s) (sym same) told.opened in
      record { opened = good; refused = told.refused; opens = λ q ran. good; stops = told.stops }

  pub refused_alone : {U : Type 0} (others : U → List ℕ) (e : RunEnd) → IsOpening P s (Err e) items → IsOpening P s (Err e) others
  refused_alone others e told = record { opened = told.opened; refused = told.refused; opens = told.opens; stops = told.stops }
