-- One more entry at the end of a run.
use Rattle.std.proofs.Common.{◌≡◌, ℕ, suc, ◌+◌, List, [], ◌∷◌, ◌++◌, length, Some, None, ap, ◌∙◌, arith}
use Rattle.std.specs.Prelude.{option_and_then, unwrap_or}
use Rattle.core_program.specs.Core.{Program}
use Rattle.state.specs.States.{State, initial}
use Rattle.semantics.specs.Step.{Move, Outcome, Moves, Absent, IsDone, HadFaulted, Waits, outcome, moved, state_after}
use Rattle.semantics.specs.Run.{run, run_from, inside}
use Rattle.semantics.specs.Units.{Entry, entry_then, entries_from, entries}

-- the entry of a step
abbrev pub entry_of : Program → State → (place t : ℕ) → Move → Entry
entry_of P q place t move = record { place = place; thread = t; kind = move.kind; inside = inside P (moved t move q) t }

module _ (P : Program) (t : ℕ) (move : Move) (r : State) (is : outcome P r t ≡ Moves move) where
  last_entry : (q : State) (place : ℕ) → q ≡ r → entries_from P q place (t ∷ []) ≡ entry_of P r (place + 0) t move ∷ []
  last_entry q place same =
      ap (λ x. entries_from P x place (t ∷ [])) same ∙ ap (λ o. entry_then P r place t o (λ next. [])) is ∙ ap (λ n. entry_of P r n t move ∷ []) (no_more place)
    where
      no_more : (n : ℕ) → n ≡ n + 0
      no_more n = omega arith

  some_same : (q : State) → Some q ≡ Some r → q ≡ r
  some_same q e = ap (λ o. unwrap_or o q) e

  more_from : (s : List ℕ) (q : State) (place : ℕ) → run_from P q s ≡ Some r → entries_from P q place (s ++ t ∷ []) ≡ entries_from P q place s ++ entry_of P r (place + length s) t move ∷ []
  more_from [] q place ran = last_entry q place (some_same q ran)
  more_from (u ∷ s) q place ran = by_outcome (outcome P q u) ran (λ next e. more_from s next (place + 1) e)
    where
      later : (n m : ℕ) → n + 1 + m ≡ n + suc m
      later n m = omega arith

      by_outcome : (o : Outcome) → option_and_then (λ next. run_from P next s) (state_after q u o) ≡ Some r
          → ((next : State) → run_from P next s ≡ Some r → entries_from P next (place + 1) (s ++ t ∷ []) ≡ entries_from P next (place + 1) s ++ entry_of P r (place + 1 + length s) t move ∷ [])
          → entry_then P q place u o (λ next. entries_from P next (place + 1) (s ++ t ∷ [])) ≡ entry_then P q place u o (λ next. entries_from P next (place + 1) s) ++ entry_of P r (place + suc (length s)) t move ∷ []
      by_outcome (Moves m) ran rec = ap (λ es. entry_of P q place u m ∷ es) (rec (moved u m q) ran ∙ ap (λ n. entries_from P (moved u m q) (place + 1) s ++ entry_of P r n t move ∷ []) (later place (length s)))
      by_outcome Absent ran rec = absurd (let k : None ≡ Some r = ran in cc)
      by_outcome IsDone ran rec = absurd (let k : None ≡ Some r = ran in cc)
      by_outcome (HadFaulted why) ran rec = absurd (let k : None ≡ Some r = ran in cc)
      by_outcome (Waits a h) ran rec = absurd (let k : None ≡ Some r = ran in cc)

  start_place : (n : ℕ) → 0 + n ≡ n
  start_place n = omega arith

pub more_entries : (P : Program) (s : List ℕ) (q : State) (t : ℕ) (move : Move) → run P s ≡ Some q → outcome P q t ≡ Moves move
    → entries P (s ++ t ∷ []) ≡ entries P s ++ record { place = length s; thread = t; kind = move.kind; inside = inside P (moved t move q) t } ∷ []
more_entries P s q t move ran is = more_from P t move q is s (initial P) 0 ran ∙ ap (λ n. entries P s ++ entry_of P q n t move ∷ []) (start_place P t move q is (length s))
