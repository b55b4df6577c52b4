use Rattle.std.proofs.Common.{◌≡◌, ◌+◌, sym, ap, subst}
use Rattle.std.specs.Prelude.{IfOk, slice_index_or}
use Rattle.core_program.specs.Views.{program_of}
use Rattle.semantics.specs.Step.{Moves, outcome, moved}
use Rattle.library.specs.Seen.{IsSeen}
use Rattle.library.proofs.Neighbours.{indexed}
use Rattle.library.proofs.swap.steps_at.Goals as goal

pub returns : goal.returns
returns c q t u m n near =
    let s = c.args.schedule.now in
    let first : slice_index_or s c.args.place 0 ≡ t = indexed s c.args.place t near.first in
    let second : slice_index_or s (c.args.place + 1) 0 ≡ u = indexed s (c.args.place + 1) u near.second in
    let same = sym (ap program_of c.in_ok-machine.ensures.program) in
    subst (λ b. IfOk c.steps_of.result (λ x. IsSeen x q m b n)) second
    (c.steps_of.ensures q m n (c.in_ok-machine.ensures.stands q near.ran)
    (subst (λ P. outcome P q (slice_index_or s c.args.place 0) ≡ Moves m) same (subst (λ x. outcome (program_of c.args.program.now) q x ≡ Moves m) (sym first) near.first_step))
    (subst (λ P. outcome P (moved (slice_index_or s c.args.place 0) m q) (slice_index_or s (c.args.place + 1) 0) ≡ Moves n) same
    (subst (λ x. outcome (program_of c.args.program.now) (moved x m q) (slice_index_or s (c.args.place + 1) 0) ≡ Moves n) (sym first)
    (subst (λ y. outcome (program_of c.args.program.now) (moved t m q) y ≡ Moves n) (sym second) near.second_step))))
