-- The text of the machine's own state is that of each state for which it stands.
use Rattle.std.proofs.Common.{◌≡◌, string_bytes, subst, IfOk}
use Rattle.classes.specs.Views.{table_data}
use Rattle.machine.specs.Standing.{program_run}
use Rattle.report.proofs.Sights.{same_text}
use Rattle.report.proofs.states.state_text.Goals as goal

pub returns : goal.returns
returns c = λ q stands.
    let m = c.args.machine.now in
    subst (λ t. IfOk c.machine_text.result (λ text. string_bytes text ≡ t)) (same_text (program_run m) m.code.code.items (table_data c.args.table.now) m.state q stands) c.machine_text.ensures
