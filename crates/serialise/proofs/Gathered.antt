-- The open order of a schedule of the machine, as that of any system with movers.
use Rattle.std.proofs.Common.{◌≡◌, ℕ, ◌+◌, ◌<◌, ◌==◌, List, sym, ap, subst, ◌∙◌, Some, None}
use Rattle.std.specs.Prelude.{take, slice_get, count_by, is_some}
use Rattle.core_program.specs.Core.{Program}
use Rattle.core_program.specs.Typed.{IsTyped}
use Rattle.state.specs.States.{State, initial}
use Rattle.semantics.specs.Run.{run, open_thread, own_states, IsUninterrupted}
use Rattle.semantics.specs.Units.{Entry, entries, units, word_of, in_order, schedule_of, written_order}
use Rattle.semantics.specs.Words.{IsReducible}
use Rattle.reduction.proofs.SoundRuns.{sound_initial}
use Rattle.reduction.specs.Systems as of
use Rattle.reduction.specs.MachineSystem.{machine}
use Rattle.reduction.proofs.MachineSystem.{machine_moves, run_same, entries_same, owns_same}
use Rattle.reduction.proofs.WrittenOrder.{nobody_inside, written}
use Rattle.reduction.specs.Committing.{open_units}
use Rattle.reduction.specs.Gathering.{open_from, AreBlocksWhole, IsGatheredOrder, AreUnitsTogether}
use Rattle.reduction.proofs.Gathered as any
use Rattle.serialise.specs.Whole.{IsWhole, IsGathered, AreUnitsWhole}
use Rattle.serialise.specs.OpenOrder.{open_order}

-- no entry of another thread stands between two entries of one unit
abbrev AreApart : List Entry → Type 0
AreApart es = (n : ℕ) (u : List Entry) → slice_get (units es) n ≡ Some u →
    (i j k : ℕ) (e f g : Entry) → slice_get u i ≡ Some e → slice_get u j ≡ Some f → slice_get es k ≡ Some g → e.place < g.place → g.place < f.place → g.thread ≡ e.thread

module _ (P : Program) where
  -- blocks of the system are calls of the machine
  whole_calls : (r : List ℕ) → AreBlocksWhole (machine P) (initial P) r → IsWhole P r
  whole_calls r blocks = record {
    runs = sym (ap is_some (run_same P r (initial P))) ∙ blocks.runs;
    together = λ t first last begin at stays place u low less here.
        blocks.together t first last begin at (λ p z f_low lt is. stays p z f_low lt (sym (run_same P (take (p + 1) r) (initial P)) ∙ is)) place u low less here;
  }

  whole_units : (r : List ℕ) → AreUnitsTogether (machine P) (initial P) r → AreUnitsWhole P r
  whole_units r apart = subst AreApart (entries_same P r (initial P) 0) apart

module _ (P : Program) (typed : IsTyped P) (s : List ℕ) (q : State) (ran : run P s ≡ Some q) where
  same : of.system_entries_from (machine P) (initial P) 0 s ≡ entries P s
  same = entries_same P s (initial P) 0

  order : open_from (machine P) (initial P) s ≡ open_order P s
  order = ap (λ es. schedule_of (open_units (units es))) same

  ran_any : of.system_run_from (machine P) (initial P) s ≡ Some q
  ran_any = run_same P s (initial P) ∙ ran

  module _ (words : (n : ℕ) (u : List Entry) → slice_get (units (entries P s)) n ≡ Some u → IsReducible (word_of u)) where
    words_any : (n : ℕ) (u : List Entry) → slice_get (units (of.system_entries_from (machine P) (initial P) 0 s)) n ≡ Some u → IsReducible (word_of u)
    words_any n u at = words n u (ap (λ es. slice_get (units es) n) (sym same) ∙ at)

    gathered_any : IsGatheredOrder (machine P) (initial P) s (open_from (machine P) (initial P) s) q
    gathered_any = any.gathered (machine_moves P typed) s (initial P) q (sound_initial P) ran_any words_any

    pub gathered : IsGathered P s (open_order P s) q
    gathered = record {
      rearranges = λ t. gathered_any.rearranges t ∙ ap (λ r. count_by (λ u. u == t) r) order;
      runs = ap (run P) (sym order) ∙ sym (run_same P (open_from (machine P) (initial P) s) (initial P)) ∙ gathered_any.runs;
      whole = subst (IsWhole P) order (whole_calls P (open_from (machine P) (initial P) s) gathered_any.whole);
      owns = λ t. sym (owns_same P t s (initial P)) ∙ gathered_any.owns t ∙ owns_same P t (open_from (machine P) (initial P) s) (initial P) ∙ ap (own_states P (initial P) t) order;
    }

    pub units_gathered : AreUnitsWhole P (open_order P s)
    units_gathered = subst (AreUnitsWhole P) order
        (whole_units P (open_from (machine P) (initial P) s) (any.units_gathered (machine_moves P typed) s (initial P) q (sound_initial P) ran_any words_any))

  pub closed_order : open_thread P q ≡ None → open_order P s ≡ written_order P s
  closed_order nobody =
      sym order ∙ any.closed_order (machine_moves P typed) s (initial P) q (sound_initial P) ran_any (λ t there. nobody_inside P q nobody t)
      ∙ ap (λ es. schedule_of (in_order (units es))) same

  pub uninterrupted : ((n : ℕ) (u : List Entry) → slice_get (units (entries P s)) n ≡ Some u → IsReducible (word_of u)) → open_thread P q ≡ None → IsUninterrupted P (open_order P s)
  uninterrupted words nobody = subst (IsUninterrupted P) (sym (closed_order nobody)) (written P typed s q ran nobody words).uninterrupted
