-- No bound is broken, or all is well.
use Rattle.std.proofs.Common.{◌≡◌, true, false, rules}
use Rattle.core_program.specs.Views.{program_of}
use Rattle.rules.specs.Near.{rel_of}
use Rattle.refutation.proofs.CheckLemmas.{is_certificate, placed_all, steps_all, breaks_is}
use Rattle.refutation.proofs.check.check_blame.Goals as goal

pub returns-then-not-breaks : goal.returns-then-not-breaks
returns-then-not-breaks c =
    let P = program_of c.args.program.now in
    let rel = rel_of c.args.sets.now in
    let same = c.lines-lines.ensures in
    let none : c.breaks.result ≡ false = search rules in (
      placed_all P rel c.unplaced.result c.lines-lines.result.now c.args.blame.now same c.in_default.is c.unplaced.ensures.first,
      steps_all P rel c.in-Ok.found c.lines-lines.result.now c.args.blame.now same c.in_default-found.is c.in-Ok.ensures.first,
      breaks_is P c.lines-lines.result.now c.args.blame.now c.breaks.result false same c.breaks.ensures none,
    )

pub returns : goal.returns
returns c =
    let P = program_of c.args.program.now in
    let rel = rel_of c.args.sets.now in
    let same = c.lines-lines.ensures in
    let broken : c.breaks.result ≡ true = search rules in
    is_certificate P rel c.args.blame.now
    (placed_all P rel c.unplaced.result c.lines-lines.result.now c.args.blame.now same c.in_default.is c.unplaced.ensures.first)
    (steps_all P rel c.in-Ok.found c.lines-lines.result.now c.args.blame.now same c.in_default-found.is c.in-Ok.ensures.first)
    (breaks_is P c.lines-lines.result.now c.args.blame.now c.breaks.result true same c.breaks.ensures broken)
