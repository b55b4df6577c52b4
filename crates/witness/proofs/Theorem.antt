-- A schedule of an accepted program is kept.
use Rattle.std.proofs.Common.{◌≡◌, ℕ, List, refl}
use Rattle.std.specs.Prelude.{Some, None}
use Rattle.core_program.specs.Core.{Program}
use Rattle.core_program.specs.Typed.{IsTyped}
use Rattle.rules.specs.Rules.{IsAccepted}
use Rattle.state.specs.States.{State}
use Rattle.semantics.specs.Run.{run, open_thread}
use Rattle.semantics.specs.Units.{written_order}
use Rattle.reduction.proofs.Theorem.{words}
use Rattle.reduction.proofs.WrittenOrder.{written}
use Rattle.witness.specs.Witness.{Comparison, SameState, SameObjects, SameOutput, IsLike, IsKeptAs, IsWitnessAs}

-- each state is like itself
like_itself : (by : Comparison) (q : State) → IsLike by q q
like_itself SameState q = refl
like_itself SameObjects q = (refl, refl)
like_itself SameOutput q = refl

-- its written order is an order for it
kept : (P : Program) (by : Comparison) → IsTyped P → IsAccepted P → (s : List ℕ) (q : State) → run P s ≡ Some q → open_thread P q ≡ None → IsKeptAs P (IsLike by) s q
kept P by typed accepted s q ran closed =
    let serial = written P typed s q ran closed (words P typed accepted s) in
    (written_order P s, record { rearranges = serial.rearranges; uninterrupted = serial.uninterrupted; last = q; runs = serial.runs; like = like_itself by q })

pub no_witness : (P : Program) (by : Comparison) → IsTyped P → IsAccepted P → (s : List ℕ) → IsWitnessAs P (IsLike by) s → ⊥
no_witness P by typed accepted s w = w.broken (kept P by typed accepted s w.last w.runs w.closed)
