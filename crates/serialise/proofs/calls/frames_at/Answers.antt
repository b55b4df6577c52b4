use Rattle.std.proofs.Common.{length, refl, sym, ap, ◌∙◌}
use Rattle.std.specs.Prelude.{slice_get}
use Rattle.std.proofs.lemmas.Option.{slice_get_read, slice_get_past}
use Rattle.machine.specs.Standing.{program_run}
use Rattle.serialise.specs.Calls.{frames_seen}
use Rattle.serialise.proofs.SeenFrames.{cell_methods, methods_same}
use Rattle.serialise.proofs.calls.frames_at.Goals as goal

pub returns-in-Some : goal.returns-in-Some
returns-in-Some c q h =
    let m = c.args.machine.now in
    let t = c.args.thread in
    let lent = c.threads.result.now in
    let there = sym (ap (λ xs. slice_get xs t) c.threads.ensures) ∙ slice_get_read lent (length lent) t c.in-Some.cell.now refl c.in-Some.ensures.lookup.3.0 c.in-Some.ensures.lookup.1 in
    c.frames_seen.ensures ∙ ap frames_seen (ap cell_methods (sym there) ∙ methods_same (program_run m) m.code.code.items m.state.threads q.threads h.threads t)

pub returns-in-None : goal.returns-in-None
returns-in-None c q h =
    let m = c.args.machine.now in
    let t = c.args.thread in
    let lent = c.threads.result.now in
    let gone = sym (ap (λ xs. slice_get xs t) c.threads.ensures) ∙ slice_get_past lent t c.in-None.ensures.lookup.3 in
    ap frames_seen (ap cell_methods (sym gone) ∙ methods_same (program_run m) m.code.code.items m.state.threads q.threads h.threads t)
