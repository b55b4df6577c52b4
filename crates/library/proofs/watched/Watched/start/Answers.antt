use Rattle.std.proofs.Common.{sym, ap, subst}
use Rattle.core_program.specs.Typed.{IsTyped}
use Rattle.rules.specs.Rules.{IsAccepted}
use Rattle.core_program.specs.Views.{program_of}
use Rattle.library.proofs.WatchedSteps.{at_start, guarded}
use Rattle.library.proofs.watched.Watched.start.Goals as goal

pub invariant_of-result : goal.invariant_of-result
invariant_of-result c =
    let P = program_of c.program.result.now in
    let same = sym (ap program_of c.program.ensures.program) in
    at_start c.in_ok-machine.machine P c.new.result.items (ap program_of c.in_ok-machine.ensures.program) c.in_ok-machine.ensures.stands c.in_ok-machine.ensures.made c.new.ensures.items
    (subst IsTyped same c.program.ensures.checked.typed) (subst IsAccepted same c.program.ensures.checked.accepted)

pub returns-clause-shown : goal.returns-clause-shown
returns-clause-shown c =
    let P = program_of c.program.result.now in
    let same = sym (ap program_of c.program.ensures.program) in
    guarded c.in_ok-machine.machine c.new.result.items
    (at_start c.in_ok-machine.machine P c.new.result.items (ap program_of c.in_ok-machine.ensures.program) c.in_ok-machine.ensures.stands c.in_ok-machine.ensures.made c.new.ensures.items
    (subst IsTyped same c.program.ensures.checked.typed) (subst IsAccepted same c.program.ensures.checked.accepted))
