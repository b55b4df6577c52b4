-- What a watched machine keeps.
use Rattle.std.proofs.Common.{◌≡◌, ℕ, ◌+◌, List, [], ◌∷◌, ◌++◌, length, Some, Ok, Err, sym, ap, subst, ◌∙◌}
use Rattle.std.proofs.lemmas.List.{length-append}
use Rattle.std.specs.Prelude.{◌≢◌, option_and_then}
use Rattle.core_program.specs.Core.{Program}
use Rattle.core_program.specs.Views.{program_of}
use Rattle.core_program.specs.Typed.{IsTyped}
use Rattle.rules.specs.Rules.{IsAccepted}
use Rattle.state.specs.declared.value.StepKind.{StepKind}
use Rattle.state.specs.declared.value.StepKind.TheVariants.{Bare}
use Rattle.state.specs.States.{State, initial}
use Rattle.semantics.specs.Step.{Outcome, Moves, Absent, IsDone, HadFaulted, Waits, outcome, step, kind_of}
use Rattle.semantics.specs.Run.{run, run_from}
use Rattle.semantics.proofs.RunLemmas.{run_from-append}
use Rattle.machine.specs.declared.deed.StepEnd.{StepEnd}
use Rattle.machine.specs.declared.deed.StepEnd.TheVariants as ends
use Rattle.machine.specs.Likeness.{StateStands}
use Rattle.machine.specs.MachineValue.{MachineValue}
use Rattle.machine.specs.Standing.{program_run, StandsFor, IsTurn, IsSame}
use Rattle.machine.proofs.Schedules.{turned}
use Rattle.library.specs.Watching.{IsWatched, IsGuarded, IsWatchedTurn}
use Rattle.reduction.proofs.Theorem.{held, words}

pub guarded : (m : MachineValue) (s : List ℕ) → IsWatched m s → IsGuarded m s
guarded m s w = record {
  made = w.made;
  guards = λ q ran t. held (program_run m) w.typed w.accepted s q ran t;
  words = λ n u is call. words (program_run m) w.typed w.accepted s n u is;
}

pub at_start : (m : MachineValue) (P : Program) (s : List ℕ) → program_run m ≡ P → StandsFor m (initial P) → m.made ≡ 0 → s ≡ [] → IsTyped P → IsAccepted P → IsWatched m s
at_start m P s same stands made none typed accepted = record {
  typed = subst IsTyped (sym same) typed;
  accepted = subst IsAccepted (sym same) accepted;
  made = record {
    state = initial P;
    ran = ap (run (program_run m)) none ∙ ap (λ R. Some (initial R)) same;
    stands = stands;
    counted = made ∙ sym (ap length none);
  };
}

-- the same machine with the same steps
pub still : (m n : MachineValue) (s r : List ℕ) → IsSame m n → s ≡ r → IsWatched n r → IsWatched m s
still m n s r same e w =
    let P : program_run m ≡ program_run n = ap program_of same.program in
    record {
      typed = subst IsTyped (sym P) w.typed;
      accepted = subst IsAccepted (sym P) w.accepted;
      made = record {
        state = w.made.state;
        ran = (λ j. run (P j) (e j)) ∙ w.made.ran;
        stands = subst (λ X. X) (λ j. StateStands (program_of (sym same.program j)) ((sym same.code j).code.items) (sym same.state j) w.made.state) w.made.stands;
        counted = same.made ∙ w.made.counted ∙ sym (ap length e);
      };
    }

one_more : (P : Program) (s : List ℕ) (t : ℕ) (q r : State) → run P s ≡ Some q → step P q t ≡ Some r → run P (s ++ t ∷ []) ≡ Some r
one_more P s t q r ran is =
    run_from-append P (initial P) s (t ∷ []) ∙ ap (option_and_then (λ next. run_from P next (t ∷ []))) ran ∙ ap (option_and_then (λ next. run_from P next [])) is

pub more : (old new : MachineValue) (s r : List ℕ) (t : ℕ) → ((q : State) → StandsFor old q → IsTurn t (Ok tt) new q (outcome (program_run old) q t)) → new.program ≡ old.program → new.made ≡ old.made + 1
    → r ≡ s ++ t ∷ [] → IsWatched old s → IsWatched new r
more old new s r t turn same made e w =
    let P : program_run new ≡ program_run old = ap program_of same in
    let next = turned t new w.made.state (outcome (program_run old) w.made.state t) (turn w.made.state w.made.stands) in
    record {
      typed = subst IsTyped (sym P) w.typed;
      accepted = subst IsAccepted (sym P) w.accepted;
      made = record {
        state = next.0;
        ran = (λ j. run (P j) (e j)) ∙ one_more (program_run old) s t w.made.state next.0 w.made.ran next.1;
        stands = next.2;
        counted = made ∙ ap (λ n. n + 1) w.made.counted ∙ sym (length-append s (t ∷ [])) ∙ sym (ap length e);
      };
    }

-- no step of a watched machine is Bare
pub never_bare : (m : MachineValue) (s : List ℕ) (t : ℕ) (kind : StepKind) → IsWatched m s → ((q : State) → StandsFor m q → Some kind ≡ kind_of (program_run m) q t) → kind ≢ Bare
never_bare m s t kind w is bare = held (program_run m) w.typed w.accepted s w.made.state w.made.ran t (sym (is w.made.state w.made.stands) ∙ ap Some bare)

-- a refusal is the machine's
pub refused : (t : ℕ) (why : StepEnd) (m : MachineValue) (q : State) (o : Outcome) → IsTurn t (Err why) m q o → IsWatchedTurn t (Err why) m q o
refused t why m q (Moves move) is = is
refused t why m q Absent is = let e : why ≡ ends.Absent = cc in ap Err e
refused t why m q IsDone is = let e : why ≡ ends.Done = cc in ap Err e
refused t why m q (HadFaulted kind) is = let e : why ≡ ends.Faulted kind = cc in ap Err e
refused t why m q (Waits a holder) is = let e : why ≡ ends.Waits a holder = cc in ap Err e
