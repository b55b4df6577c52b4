-- What the overriding methods take.
use Rattle.std.proofs.Common.{◌≡◌, true, false, rules, arith}
use Rattle.core_program.specs.Views.{program_of}
use Rattle.refutation.proofs.Rooms.{row_few}
use Rattle.refutation.proofs.looks.renew.Goals as goal

pub returns-then-not-spend-clause-less : goal.returns-then-not-spend-clause-less
returns-then-not-spend-clause-less c = λ e.
    let few = row_few (program_of c.args.judged.now.program.now) c.args.judged.now.over.now c.args.method c.of.result.now c.requires.over c.of.ensures in
    let none : c.spend.result ≡ false = search rules in
    omega (arith, few, c.overriding_cost.ensures, c.spend.ensures.over none)

pub over_table-requires-clause-known : goal.over_table-requires-clause-known
over_table-requires-clause-known c = λ m asleep. absurd (c.in_ok-none.ensures.none m asleep)

pub returns-clause-spent : goal.returns-clause-spent
returns-clause-spent c = λ e.
    let few = row_few (program_of c.args.judged.now.program.now) c.args.judged.now.over.now c.args.method c.of.result.now c.requires.over c.of.ensures in
    let some : c.spend.result ≡ true = search rules in
    omega (arith, few, c.overriding_cost.ensures, c.spend.ensures.spent some)
