-- The kind of a thread's next step, where the machine stands for a state.
use Rattle.std.proofs.Common.{◌≡◌, ℕ, List, refl, sym, ap, ◌∙◌}
use Rattle.std.specs.Prelude.{Option, Some, None, slice_get}
use Rattle.std.specs.Option.{option_map}
use Rattle.std.proofs.lemmas.Option.{slice_get-map}
use Rattle.core_program.specs.Core.{Program}
use Rattle.state.specs.declared.value.StepKind.{StepKind}
use Rattle.state.specs.States.{ThreadOf, StateOf, State}
use Rattle.state.specs.Frames.{CellFrame, code_thread}
use Rattle.compile.specs.declared.stack.Code.{Code}
use Rattle.compile.specs.IsCode.{IsCodeOf}
use Rattle.semantics.specs.Step.{seen_by, outcome_kind, kind_of}
use Rattle.machine.specs.CodeMachine.{code_turn}
use Rattle.machine.specs.Likeness.{StateStands}
use Rattle.machine.specs.MachineValue.{code_state}
use Rattle.machine.specs.declared.deed.Turn.{Turn}
use Rattle.machine.specs.Turns.{cell_kind, next_turn, turn_kind}
use Rattle.machine.proofs.KindLemmas as lemmas
use Rattle.machine.proofs.Runs.{kind_like}

module _ (P : Program) (code : List Code) (entry room : List ℕ) (s : StateOf CellFrame) (t : ℕ) where
  -- the kind of a thread that may be absent
  abbrev pub some_kind : Option (ThreadOf CellFrame) → Option StepKind
  some_kind None = None
  some_kind (Some c) = cell_kind P code entry room (seen_by t (code_state s)) t c

  some_turn : (o : Option (ThreadOf CellFrame)) → outcome_kind (code_turn P code entry room (seen_by t (code_state s)) t (option_map code_thread o)) ≡ some_kind o
  some_turn None = refl
  some_turn (Some c) = lemmas.turn_kind P code entry room (seen_by t (code_state s)) t c

  pub kind_at : IsCodeOf P code entry room → (q : State) (o : Option (ThreadOf CellFrame)) → slice_get s.threads t ≡ o → StateStands P code (code_state s) q → some_kind o ≡ kind_of P q t
  kind_at is_code q o there h =
      sym (ap (λ x. outcome_kind (code_turn P code entry room (seen_by t (code_state s)) t x)) (slice_get-map code_thread s.threads t ∙ ap (option_map code_thread) there) ∙ some_turn o)
      ∙ kind_like P code entry room is_code (code_state s) q t h

  some_turn_is : (o : Option (ThreadOf CellFrame)) → lemmas.some_turn_kind P (seen_by t (code_state s)) t (next_turn P code entry room (seen_by t (code_state s)) t o) ≡ some_kind o
  some_turn_is None = refl
  some_turn_is (Some c) = lemmas.cell_turn_kind P code entry room (seen_by t (code_state s)) t c

  -- the kind of a turn is that of the definition's step, where there is one
  pub turn_kind_at : IsCodeOf P code entry room → (q : State) → StateStands P code (code_state s) q → (found : Turn) → found ≡ next_turn P code entry room (seen_by t (code_state s)) t (slice_get s.threads t)
      → (k : StepKind) → kind_of P q t ≡ Some k → turn_kind P (seen_by t (code_state s)) t found ≡ k
  turn_kind_at is_code q h found is k kind =
      lemmas.known_kind P (seen_by t (code_state s)) t found k
      (ap (lemmas.some_turn_kind P (seen_by t (code_state s)) t) is ∙ some_turn_is (slice_get s.threads t) ∙ kind_at is_code q (slice_get s.threads t) refl h ∙ kind)
