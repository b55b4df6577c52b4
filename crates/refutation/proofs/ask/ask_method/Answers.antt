-- Where as much is said already, nothing new is to be said. Else the parts of the relevant paths ascend.
use Rattle.std.proofs.Common.{◌≡◌, true, rules, sym, ◌∙◌, subst}
use Rattle.std.specs.Prelude.{filter}
use Rattle.std.specs.List.{AllByRecursion, list_all}
use Rattle.algebra.specs.HeldPaths.{has_path}
use Rattle.core_program.specs.Views.{program_of, method_of}
use Rattle.rules.specs.Near.{rel_of}
use Rattle.rules.specs.Rules.{IsSubset}
use Rattle.refutation.specs.Passes.{cells_in, subsets_of}
use Rattle.refutation.specs.Bodies.{IsBodyKnown}
use Rattle.refutation.proofs.BodyLemmas.{over_said, said_of_bodies}
use Rattle.refutation.proofs.MakerLemmas.{asked_ascend, asked_inside}
use Rattle.refutation.proofs.WaitLemmas.{said_asked}
use Rattle.refutation.proofs.ask.ask_method.Goals as goal

pub ask_sets-requires-clause-ascend : goal.ask_sets-requires-clause-ascend
ask_sets-requires-clause-ascend c =
    asked_ascend (program_of c.args.judged.now.program.now) c.args.judged.now.sets.now c.args.over.now.method c.rel.result.now c.as_slice.result.now c.as_slice-2.result.now c.requires.relevant c.rel.ensures
    (c.as_slice-2.ensures.value ∙ c.in_ok-parts.ensures)

pub ask_sets-requires-clause-inside : goal.ask_sets-requires-clause-inside
ask_sets-requires-clause-inside c =
    let rel = c.rel.result.now in
    let parts = c.as_slice-2.result.now in
    subst (λ ps. AllByRecursion (λ held. IsSubset (has_path held) (has_path ps)) parts) c.rel.ensures
    (asked_inside rel c.as_slice.result.now parts (c.as_slice-2.ensures.value ∙ c.in_ok-parts.ensures))

pub ask_sets-requires-clause-body : goal.ask_sets-requires-clause-body
ask_sets-requires-clause-body c =
    let P = program_of c.args.judged.now.program.now in
    let rel = rel_of c.args.judged.now.sets.now in
    let m = c.args.over.now.method in
    let bodies = c.args.bodies.now in
    let required = (method_of c.args.method.now).requires_ in
    let same : filter (λ held. list_all (has_path held) required) (subsets_of (rel m)) ≡ c.as_slice-2.result.now = search rules in
    subst (λ sets. IsBodyKnown P rel m sets c.args.said.now.lines.items bodies.table bodies.is_told bodies.is_said) same c.requires.body

pub returns-then-tells_as_much-clause-asked : goal.returns-then-tells_as_much-clause-asked
returns-then-tells_as_much-clause-asked c =
    let P = program_of c.args.judged.now.program.now in
    let sets = c.args.judged.now.sets.now in
    let rel = rel_of sets in
    let m = c.args.over.now.method in
    let lines = c.args.said.now.lines.items in
    let floors = c.args.said.now.floors in
    let required = (method_of c.args.method.now).requires_ in
    let over = c.args.over.now in
    let agrees = c.requires.agrees in
    let body : c.args.bodies.now.is_said ≡ true = search rules in
    let much : c.tells_as_much.result ≡ true = search rules in
    said_asked P rel (cells_in m required (subsets_of (rel m))) lines
    (said_of_bodies P rel m required lines (over_said P sets floors.sets.now floors.tables.items lines agrees m over.table over.whole over.most c.requires.said (sym c.tells_as_much.ensures ∙ much)) (c.requires.body.said body))
