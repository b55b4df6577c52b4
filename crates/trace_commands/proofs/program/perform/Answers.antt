-- What is found is found of the folder as it was.
use Rattle.std.proofs.Common.{Bor, List, option_map, subst, ℕ}
use Rattle.trace_commands.specs.Outcomes.{IsGuarding}
use Rattle.logs.specs.Views.{guards_data}
use Rattle.trace_commands.proofs.Judging.{given_then}
use Rattle.trace_commands.proofs.Ways.{moved_all}
use Rattle.trace_commands.proofs.program.perform.Goals as goal

pub returns-in-Ok-Guards : goal.returns-in-Ok-Guards
returns-in-Ok-Guards g c =
    let asked = option_map {T = Bor (List ℕ)} {U = List ℕ} (λ n. n.now) c.args.row.now.guards in
    let told = g.F.Folder.told c.args.folder.now in
    let before = g.F.Folder.faults c.args.folder.now in
    let middle = g.F.Folder.faults c.guards_for.new.folder in
    let found = subst (IsGuarding c.args.row.now.log.now asked told before middle) c.in-Ok-Guards.field-0-is c.in-Ok-Guards.ensures.guarding in
    moved_all c.args.row.now.log.now asked told before (g.F.Folder.faults c.judged.new.folder) c.judged.result (g.F.Folder.told c.guards_for.new.folder) middle c.guards_for.ensures.told found.0
    (c.judged.ensures asked (given_then asked told (g.F.Folder.told c.guards_for.new.folder) (guards_data c.in-Ok-Guards.guards) c.guards_for.ensures.told found.2))
