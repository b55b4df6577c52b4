-- The machine along a schedule.
use Rattle.std.proofs.Common.{◌≡◌, ◌≢◌, ℕ, ◌+◌, List, [], ◌∷◌, take, refl, sym, ap, subst, ◌∙◌, arith}
use Rattle.std.specs.Prelude.{Some, None, Ok, Err, option_and_then, slice_get}
use Rattle.base.proofs.Lists.{take_at}
use Rattle.core_program.specs.Core.{Program}
use Rattle.core_program.specs.Views.{program_of}
use Rattle.state.specs.States.{State}
use Rattle.semantics.specs.Step.{Outcome, Moves, Absent, IsDone, HadFaulted, Waits, outcome, moved, step, state_after}
use Rattle.semantics.specs.Run.{run_from}
use Rattle.semantics.proofs.RunLemmas.{run_from-append}
use Rattle.machine.specs.declared.deed.StepEnd.{StepEnd}
use Rattle.machine.specs.declared.deed.StepEnd.TheVariants as ends
use Rattle.machine.specs.Likeness.{StateStands}
use Rattle.machine.specs.MachineValue.{MachineValue}
use Rattle.machine.specs.Reasons.{IsReason}
use Rattle.machine.specs.Standing.{program_run, StandsFor, IsTurn, IsSame, HasRun, HasStopped}

-- after a step the machine stands for the next state
pub turned : (t : ℕ) (m : MachineValue) (q : State) (o : Outcome) → IsTurn t (Ok tt) m q o → (r : State) × (state_after q t o ≡ Some r) × StandsFor m r
turned t m q (Moves move) is = (moved t move q, refl, is)
turned t m q Absent is = absurd cc
turned t m q IsDone is = absurd cc
turned t m q (HadFaulted kind) is = absurd cc
turned t m q (Waits a holder) is = absurd cc

-- a refusal tells the reason
refused : (t : ℕ) (why : StepEnd) (m : MachineValue) (q : State) (o : Outcome) → IsTurn t (Err why) m q o → IsReason why o
refused t why m q (Moves move) is = is
refused t why m q Absent is = cc
refused t why m q IsDone is = cc
refused t why m q (HadFaulted kind) is = cc
refused t why m q (Waits a holder) is = cc

-- an outcome with another reason than want of memory is no step
pub no_step : (q : State) (t : ℕ) (why : StepEnd) (o : Outcome) → IsReason why o → why ≢ ends.NoMemory → state_after q t o ≡ None
no_step q t why (Moves move) is other = absurd (other is)
no_step q t why Absent is other = refl
no_step q t why IsDone is other = refl
no_step q t why (HadFaulted kind) is other = refl
no_step q t why (Waits a holder) is other = refl

-- the same machine stands for the same states
still_stands : (m n : MachineValue) (q : State) → IsSame m n → StandsFor n q → StandsFor m q
still_stands m n q same h = subst (λ X. X) (λ j. StateStands (program_of (sym same.program j)) ((sym same.code j).code.items) (sym same.state j) q) h

-- the machine came along so many entries of a schedule
pub record HasCome (start m : MachineValue) (schedule : List ℕ) (n : ℕ) : Type 0 where
  pub program : m.program ≡ start.program
  pub code : m.code ≡ start.code
  pub made : m.made ≡ start.made + n
  pub ran : (q : State) → StandsFor start q → HasRun m (program_run start) q (take n schedule)

pub at_start : (m : MachineValue) (schedule : List ℕ) → HasCome m m schedule 0
at_start m schedule = record { program = refl; code = refl; made = omega arith; ran = λ q h. (q, refl, h) }

module _ (start m new : MachineValue) (schedule : List ℕ) (n t : ℕ) (h : HasCome start m schedule n) (there : slice_get schedule n ≡ Some t) where
  abbrev P : Program
  P = program_run start

  same_program : program_run m ≡ P
  same_program = ap program_of h.program

  pub come_on : ((q : State) → StandsFor m q → IsTurn t (Ok tt) new q (outcome (program_run m) q t)) → new.program ≡ m.program → new.code ≡ m.code → new.made ≡ m.made + 1 → HasCome start new schedule (n + 1)
  come_on turn program code made = record {
    program = program ∙ h.program;
    code = code ∙ h.code;
    made = omega (arith, made, h.made);
    ran = λ q stands.
        let so_far = h.ran q stands in
        let next = turned t new so_far.0 (outcome (program_run m) so_far.0 t) (turn so_far.0 so_far.2) in
        let stepped : step P so_far.0 t ≡ Some next.0 = ap (λ p. step p so_far.0 t) (sym same_program) ∙ next.1 in (
          next.0,
          ap (run_from P q) (take_at schedule n t there) ∙ run_from-append P q (take n schedule) (t ∷ []) ∙ ap (option_and_then (λ r. run_from P r (t ∷ []))) so_far.1
              ∙ ap (option_and_then (λ r. Some r)) stepped,
          next.2,
        );
  }

  pub stops : (why : StepEnd) → ((q : State) → StandsFor m q → IsTurn t (Err why) new q (outcome (program_run m) q t)) → IsSame new m
      → (entry : ℕ) → entry ≡ n + 1 → (q : State) → StandsFor start q → HasStopped new P q schedule (record { entry = entry; thread = t; why = why })
  stops why turn same entry is q stands =
      let so_far = h.ran q stands in (
        so_far.0,
        record {
          place = n;
          entry = is;
          thread = there;
          ran = so_far.1;
          why = subst (λ p. IsReason why (outcome p so_far.0 t)) same_program (refused t why new so_far.0 (outcome (program_run m) so_far.0 t) (turn so_far.0 so_far.2));
        },
        still_stands new m so_far.0 same so_far.2,
      )
