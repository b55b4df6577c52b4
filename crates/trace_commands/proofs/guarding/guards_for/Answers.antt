-- A file of guards is named.
use Rattle.std.proofs.Common.{Bor, IfOk, List, option_map, subst, sym, ℕ}
use Rattle.trace_commands.specs.Outcomes.{IsGuarding}
use Rattle.trace_commands.proofs.guarding.guards_for.Goals as goal

pub returns-in-Some-clause-guarding : goal.returns-in-Some-clause-guarding
returns-in-Some-clause-guarding g c =
    subst
    (λ o. IfOk c.given.result (IsGuarding c.args.row.now.log.now (option_map {T = Bor (List ℕ)} {U = List ℕ} (λ n. n.now) o) (g.F.Folder.told c.args.folder.now) (g.F.Folder.faults c.args.folder.now)
    (g.F.Folder.faults c.given.new.folder)))
    (sym c.in-Some.is) (c.given.ensures.guarding c.args.row.now.log.now)
