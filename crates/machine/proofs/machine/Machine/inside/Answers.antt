use Rattle.std.proofs.Common.{length, refl, sym, ap, subst, ◌∙◌}
use Rattle.std.specs.Prelude.{Some, slice_get}
use Rattle.std.specs.Option.{option_map}
use Rattle.std.proofs.lemmas.Option.{slice_get_read, slice_get_past}
use Rattle.core_program.specs.Views.{program_of}
use Rattle.semantics.specs.Run.{is_inside}
use Rattle.machine.specs.Inside.{cell_inside}
use Rattle.machine.specs.Standing.{program_run, StandsFor}
use Rattle.machine.proofs.Insides.{inside_same}
use Rattle.machine.proofs.machine.Machine.inside.Goals as goal

pub returns-in-Some : goal.returns-in-Some
returns-in-Some c q h =
    let i = c.self.inside in
    let t = c.args.thread in
    let lent = c.deref.result.now in
    let P = program_of i.program.now in
    let cell = c.in-Some.cell.now in
    let there = sym (ap (λ xs. slice_get xs t) c.deref.ensures.value) ∙ slice_get_read lent (length lent) t cell refl c.in-Some.ensures.lookup.3.0 c.in-Some.ensures.lookup.1 in
    ap Some c.stands_inside.ensures ∙ sym (ap (option_map (cell_inside P)) there)
    ∙ inside_same P i.code.now.code.items (record { heap = i.shared.heap; locks = i.shared.locks; threads = i.threads.items; output = i.shared.output.items }) q t (subst (λ m. StandsFor m q) (sym c.self.view_is) h)
    ∙ ap (λ m. option_map (is_inside (program_run m)) (slice_get q.threads t)) c.self.view_is

pub returns-in-None : goal.returns-in-None
returns-in-None c q h =
    let i = c.self.inside in
    let t = c.args.thread in
    let lent = c.deref.result.now in
    let P = program_of i.program.now in
    let gone = sym (ap (λ xs. slice_get xs t) c.deref.ensures.value) ∙ slice_get_past lent t c.in-None.ensures.lookup.3 in
    sym (ap (option_map (cell_inside P)) gone)
    ∙ inside_same P i.code.now.code.items (record { heap = i.shared.heap; locks = i.shared.locks; threads = i.threads.items; output = i.shared.output.items }) q t (subst (λ m. StandsFor m q) (sym c.self.view_is) h)
    ∙ ap (λ m. option_map (is_inside (program_run m)) (slice_get q.threads t)) c.self.view_is
