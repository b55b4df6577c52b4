-- Where as much is said already, nothing new is to be said.
use Rattle.std.proofs.Common.{◌≡◌, true, rules, sym, ◌∙◌}
use Rattle.core_program.specs.Views.{program_of}
use Rattle.refutation.proofs.BodyLemmas.{over_said_at}
use Rattle.refutation.proofs.WaitLemmas.{adds_none}
use Rattle.refutation.proofs.ask.ask_unsaid.Goals as goal

pub returns-then-tells_as_much_at-clause-asked : goal.returns-then-tells_as_much_at-clause-asked
returns-then-tells_as_much_at-clause-asked c =
    let said = c.args.said.now in
    let over = c.args.over.now in
    let body : c.args.bodies.now.is_said ≡ true = search rules in
    let much : c.tells_as_much_at.result ≡ true = search rules in
    over_said_at (program_of c.args.judged.now.program.now) c.args.judged.now.sets.now said.floors.sets.now said.floors.tables.items said.lines.items c.requires.agrees over.method over.table over.whole over.most c.requires.said c.args.held.now
    c.requires.inside (c.requires.body.said body) (sym c.tells_as_much_at.ensures ∙ much)

pub returns-then-tells_as_much_at-clause-adds : goal.returns-then-tells_as_much_at-clause-adds
returns-then-tells_as_much_at-clause-adds c = adds_none c.args.over.now.method c.args.said.now.lines.items
