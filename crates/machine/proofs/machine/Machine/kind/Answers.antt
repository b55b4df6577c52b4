use Rattle.std.proofs.Common.{length, refl, sym, ap, subst, ◌∙◌}
use Rattle.std.specs.Prelude.{Some, None, slice_get}
use Rattle.std.proofs.lemmas.Option.{slice_get_read, slice_get_past}
use Rattle.core_program.specs.Views.{program_of}
use Rattle.semantics.specs.Step.{kind_of}
use Rattle.machine.specs.Deeds.{seen_of}
use Rattle.machine.specs.Likeness.{StateStands}
use Rattle.machine.specs.MachineValue.{code_state}
use Rattle.machine.specs.Standing.{program_run}
use Rattle.machine.specs.Turns.{cell_kind}
use Rattle.machine.proofs.KindOf.{kind_at}
use Rattle.machine.proofs.machine.Machine.kind.Goals as goal

pub returns-in-Some : goal.returns-in-Some
returns-in-Some c q h =
    let i = c.self.inside in
    let t = c.args.thread in
    let lent = c.deref.result.now in
    let cell = c.in-Some.cell.now in
    let there = sym (ap (λ xs. slice_get xs t) c.deref.ensures.value) ∙ slice_get_read lent (length lent) t cell refl c.in-Some.ensures.lookup.3.0 c.in-Some.ensures.lookup.1 in
    let stands = subst (λ m. StateStands (program_run m) m.code.code.items (code_state m.state) q) (sym c.self.view_is) h in
    let run = ap (λ p. cell_kind (program_of p) i.code.now.code.items i.code.now.entry.items i.code.now.room.items (seen_of t i.shared.heap i.shared.locks) t cell) c.self.invariant.5 in
    c.cell_kind.ensures ∙ run
    ∙ kind_at (program_of i.program.now) i.code.now.code.items i.code.now.entry.items i.code.now.room.items (record { heap = i.shared.heap; locks = i.shared.locks; threads = i.threads.items; output = i.shared.output.items }) t c.self.invariant.0 q (Some cell) there stands
    ∙ ap (λ m. kind_of (program_run m) q t) c.self.view_is

pub returns-in-None : goal.returns-in-None
returns-in-None c q h =
    let i = c.self.inside in
    let t = c.args.thread in
    let lent = c.deref.result.now in
    let gone = sym (ap (λ xs. slice_get xs t) c.deref.ensures.value) ∙ slice_get_past lent t c.in-None.ensures.lookup.3 in
    let stands = subst (λ m. StateStands (program_run m) m.code.code.items (code_state m.state) q) (sym c.self.view_is) h in
    kind_at (program_of i.program.now) i.code.now.code.items i.code.now.entry.items i.code.now.room.items (record { heap = i.shared.heap; locks = i.shared.locks; threads = i.threads.items; output = i.shared.output.items }) t c.self.invariant.0 q None gone stands
    ∙ ap (λ m. kind_of (program_run m) q t) c.self.view_is
