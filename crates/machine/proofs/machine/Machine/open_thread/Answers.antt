use Rattle.std.proofs.Common.{sym, ap, subst, ◌∙◌, arith}
use Rattle.std.specs.Prelude.{position}
use Rattle.std.proofs.lemmas.List.Quantifiers.{position-Some}
use Rattle.core_program.specs.Views.{program_of}
use Rattle.semantics.specs.Run.{open_thread}
use Rattle.state.specs.States.{Done}
use Rattle.machine.specs.Inside.{cell_inside}
use Rattle.machine.specs.Standing.{program_run, StandsFor}
use Rattle.machine.proofs.Insides.{open_same}
use Rattle.machine.proofs.machine.Machine.open_thread.Goals as goal

pub overflow_cast-result : goal.overflow_cast-result
overflow_cast-result c =
    let i = c.self.inside in
    let P = program_of i.program.now in
    let found = ap (position (cell_inside P)) (sym c.as_slice.ensures.value) ∙ sym c.first_inside.ensures ∙ c.in-Some.is in
    omega (arith, (position-Some (cell_inside P) i.threads.items c.in-Some.place Done found).0, c.self.invariant.1, c.self.invariant.2)

pub returns-in-Some : goal.returns-in-Some
returns-in-Some c q h =
    let i = c.self.inside in
    let P = program_of i.program.now in
    sym c.in-Some.is ∙ c.first_inside.ensures ∙ ap (position (cell_inside P)) c.as_slice.ensures.value
    ∙ open_same P i.code.now.code.items (record { heap = i.shared.heap; locks = i.shared.locks; threads = i.threads.items; output = i.shared.output.items }) q (subst (λ m. StandsFor m q) (sym c.self.view_is) h)
    ∙ ap (λ m. open_thread (program_run m) q) c.self.view_is

pub returns-in-None : goal.returns-in-None
returns-in-None c q h =
    let i = c.self.inside in
    let P = program_of i.program.now in
    sym c.in-None.is ∙ c.first_inside.ensures ∙ ap (position (cell_inside P)) c.as_slice.ensures.value
    ∙ open_same P i.code.now.code.items (record { heap = i.shared.heap; locks = i.shared.locks; threads = i.threads.items; output = i.shared.output.items }) q (subst (λ m. StandsFor m q) (sym c.self.view_is) h)
    ∙ ap (λ m. open_thread (program_run m) q) c.self.view_is
