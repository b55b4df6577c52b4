-- What a schedule's end and the judge's answers come to.
use Rattle.std.proofs.Common.{◌≡◌, ℕ, List, sym, ap, subst, ◌∙◌}
use Rattle.std.specs.Prelude.{Option, Some, None, Vec}
use Rattle.std.specs.declared.alloc.Global.{Global}
use Rattle.core_program.specs.Core.{Program}
use Rattle.state.specs.States.{State, initial}
use Rattle.semantics.specs.Run.{open_thread}
use Rattle.machine.specs.MachineValue.{MachineValue}
use Rattle.machine.specs.Standing.{program_run, StandsFor, HasRun}
use Rattle.witness.specs.Witness.{IsWitnessAs, IsFullWitnessAs}
use Rattle.witness.specs.declared.goal.Compared.{Compared}
use Rattle.witness.specs.declared.goal.Compared.TheVariants as by
use Rattle.witness.specs.declared.judge.Judged.{Judged}
use Rattle.witness.specs.declared.judge.Judged.TheVariants as answer
use Rattle.witness.specs.declared.verdict.NoVerdict.TheVariants as none
use Rattle.witness.specs.declared.verdict.Verdict.TheVariants as told
use Rattle.witness.specs.Judging.{AreLike, IsJudged, IsJudgedWhole}
use Rattle.witness.specs.Verdicts.{IsMachineEnd, IsVerdict, IsNoVerdict}

-- The end of a schedule that was run on a machine at the start, where this is the least thread inside an atomic call, or there is none.
module _ (P : Program) (s : List ℕ) (old m : MachineValue) (o : Option ℕ) (first : program_run old ≡ P) (last : program_run m ≡ P)
    (ran : HasRun m (program_run old) (initial (program_run old)) s) (opens : (q : State) → StandsFor m q → o ≡ open_thread (program_run m) q) where
  here : HasRun m P (initial P) s
  here = subst (λ Q. HasRun m Q (initial Q) s) first ran

  least : open_thread P here.0 ≡ o
  least = sym (opens here.0 here.2 ∙ ap (λ Q. open_thread Q here.0) last)

  pub closed_end : o ≡ None → IsMachineEnd P s m
  closed_end is = (here.0, record { runs = here.1; closed = least ∙ is }, here.2)

  pub open_end : (t : ℕ) → o ≡ Some t → IsNoVerdict P s (none.Open t)
  open_end t is = (here.0, here.1, least ∙ is)

-- What is shown of a schedule at whose end the machine stands.
module _ (P : Program) (s : List ℕ) (most : ℕ) (m : MachineValue) (end : IsMachineEnd P s m) where
  pub shown_whole : (c d : Compared) (j : Judged) → d ≡ c → ((q : State) → StandsFor m q → IsJudgedWhole P (AreLike d) most q j) → j ≡ answer.Broken → IsFullWitnessAs P (AreLike c) s
  shown_whole c d j same judged is = record {
    last = end.0;
    runs = end.1.runs;
    closed = end.1.closed;
    broken = subst (IsJudgedWhole P (AreLike c) most end.0) is (subst (λ x. IsJudgedWhole P (AreLike x) most end.0 j) same (judged end.0 end.2));
  }

  pub shown : (c d : Compared) (j : Judged) → d ≡ c → ((q : State) → StandsFor m q → IsJudged P (AreLike d) most s q j) → j ≡ answer.Broken → IsWitnessAs P (AreLike c) s
  shown c d j same judged is = record {
    last = end.0;
    runs = end.1.runs;
    closed = end.1.closed;
    broken = subst (IsJudged P (AreLike c) most s end.0) is (subst (λ x. IsJudged P (AreLike x) most s end.0 j) same (judged end.0 end.2));
  }

  pub kept : (d : Compared) (r : Vec ℕ Global) → d ≡ by.Objects → ((q : State) → StandsFor m q → IsJudged P (AreLike d) most s q (answer.Kept r)) → IsVerdict P most s (told.Kept r)
  kept d r same judged = (end.0, end.1, subst (λ x. IsJudged P (AreLike x) most s end.0 (answer.Kept r)) same (judged end.0 end.2))

  pub undecided : (d : Compared) (seen : ℕ) → ((q : State) → StandsFor m q → IsJudged P (AreLike d) most s q (answer.Undecided seen)) → IsVerdict P most s (told.Undecided seen)
  undecided d seen judged = (end.0, end.1, judged end.0 end.2)
