use Rattle.std.proofs.Common.{sym, ap, ◌∙◌}
use Rattle.std.specs.Prelude.{is_some}
use Rattle.core_program.specs.Views.{program_of}
use Rattle.state.specs.States.{initial}
use Rattle.semantics.specs.Run.{run_from}
use Rattle.atomic_cli.proofs.machine_tests.run_whole.Goals as goal

pub returns-in-Ok : goal.returns-in-Ok
returns-in-Ok c =
    let P = program_of c.args.program.now in
    let s = c.args.schedule.now in
    let h = c.in-Ok.ensures.ran (initial P) c.in_ok-machine.ensures.stands in
    ap is_some (ap (λ R. run_from R (initial P) s) (sym (ap program_of c.in_ok-machine.ensures.program)) ∙ h.1)
