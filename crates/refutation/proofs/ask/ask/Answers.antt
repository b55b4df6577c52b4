-- What is known already adds nothing, and what is new its line.
use Rattle.std.proofs.Common.{◌≡◌, ◌∷◌, ◌++◌, [], false, rules, refl, ap, sym, ◌∙◌}
use Rattle.std.specs.Prelude.{not}
use Rattle.core_program.specs.Views.{program_of}
use Rattle.refutation.specs.Lines.{LineData}
use Rattle.refutation.proofs.BodyTables.{told_kept}
use Rattle.refutation.proofs.MakerLemmas.{said_kept, ask_known, ask_added, agrees_added}
use Rattle.refutation.proofs.WaitLemmas.{adds_none, adds_one}
use Rattle.refutation.proofs.ask.ask.Goals as goal

pub run_effect-requires-clause-said : goal.run_effect-requires-clause-said
run_effect-requires-clause-said c =
    said_kept (program_of c.args.judged.now.program.now) c.args.judged.now.sets.now c.args.said.now.floors.sets.now c.args.said.now.floors.tables.items c.args.said.now.lines.items c.requires.agrees c.args.over.now.method
    c.args.over.now.table c.args.over.now.whole c.args.over.now.most c.requires.said

pub run_effect-requires-clause-told : goal.run_effect-requires-clause-told
run_effect-requires-clause-told c =
    told_kept (program_of c.args.judged.now.program.now) c.args.judged.now.sets.now c.args.said.now.floors.sets.now c.args.said.now.floors.tables.items c.args.said.now.lines.items c.requires.agrees c.args.over.now.method
    c.args.held.now c.args.bodies.now.table c.args.bodies.now.is_told c.args.bodies.now.is_said c.requires.body

pub returns-then-below-clause-asked : goal.returns-then-below-clause-asked
returns-then-below-clause-asked c =
    ask_known (program_of c.args.judged.now.program.now) c.args.judged.now.sets.now c.args.said.now.floors.sets.now c.args.said.now.floors.tables.items c.args.said.now.lines.items c.requires.agrees c.args.over.now.method c.args.held.now
    c.in_ok-found.found c.at.result c.in_ok-found.ensures c.at.ensures (sym c.below.ensures ∙ c.if-below.true)

pub returns-clause-agrees : goal.returns-clause-agrees
returns-clause-agrees c =
    let lines = c.args.said.now.lines.items in
    let line : LineData = record { method = c.args.over.now.method; found = c.in_ok-found.found; held = c.args.held.now } in
    agrees_added (program_of c.args.judged.now.program.now) c.args.judged.now.sets.now c.args.said.now.floors.sets.now c.args.said.now.floors.tables.items lines c.requires.agrees c.add.new.self.sets.now c.add.new.self.tables.items
    line c.push.new.self.items c.add.ensures.sets c.add.ensures.size c.add.ensures.says
    (c.in_ok-push.ensures.items ∙ (λ i. lines ++ record { method = c.args.over.now.method; found = c.in_ok-found.found; held = c.in_ok-short.ensures i } ∷ [])) c.requires.ascends

pub returns-clause-asked : goal.returns-clause-asked
returns-clause-asked c =
    let high : c.below.result ≡ false = search rules in
    let line : LineData = record { method = c.args.over.now.method; found = c.in_ok-found.found; held = c.in_ok-short.short.items } in
    ask_added (program_of c.args.judged.now.program.now) c.args.judged.now.sets.now c.args.said.now.floors.sets.now c.args.said.now.floors.tables.items c.args.said.now.lines.items c.requires.agrees c.args.over.now.method c.args.held.now
    c.in_ok-found.found c.at.result line c.push.new.self.items (not c.keeps_bound.result) c.in_ok-found.ensures c.at.ensures (sym c.below.ensures ∙ high)
    (λ i. record { method = c.args.over.now.method; found = c.in_ok-found.found; held = c.in_ok-short.ensures i }) c.in_ok-push.ensures.items (ap not c.keeps_bound.ensures)

pub returns-then-below-clause-adds : goal.returns-then-below-clause-adds
returns-then-below-clause-adds c = adds_none c.args.over.now.method c.args.said.now.lines.items

pub returns-clause-adds : goal.returns-clause-adds
returns-clause-adds c =
    adds_one c.args.over.now.method c.args.said.now.lines.items (record { method = c.args.over.now.method; found = c.in_ok-found.found; held = c.in_ok-short.short.items }) c.push.new.self.items c.in_ok-push.ensures.items refl
