-- A table of them all, or no more than at most.
use Rattle.std.proofs.Common.{◌≡◌, true, rules}
use Rattle.core_program.specs.Views.{program_of}
use Rattle.rules.specs.Near.{rel_of}
use Rattle.refutation.proofs.OverTables.{whole_said, most_only}
use Rattle.refutation.proofs.overs.said_of_overriding.Goals as goal

pub returns-then-its-clause-said : goal.returns-then-its-clause-said
returns-then-its-clause-said c = λ lines says.
    let whole : c.in_ok-its.its.whole ≡ true = search rules in
    whole_said (program_of c.args.judged.now.program.now) (rel_of c.args.floors.now.sets.now) c.args.floors.now.tables.items c.args.method c.in_ok-its.its.table lines (c.in_ok-its.ensures.tells whole) says

pub returns-clause-said : goal.returns-clause-said
returns-clause-said c = λ lines says.
    most_only (program_of c.args.judged.now.program.now) (rel_of c.args.floors.now.sets.now) c.args.floors.now.tables.items c.args.method c.in_ok-its.its.table c.said_at_most-most.result lines c.said_at_most-most.ensures says
