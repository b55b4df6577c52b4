-- There are no others.
use Rattle.std.proofs.Common.{◌≡◌, ◌++◌, [], length, sym, ap, ◌∙◌}
use Rattle.std.proofs.lemmas.Bool.{eqb-true}
use Rattle.std.proofs.lemmas.List.{nil_from_length}
use Rattle.algebra.specs.HeldPaths.{has_path}
use Rattle.core_program.specs.Views.{program_of}
use Rattle.rules.specs.Near.{rel_of}
use Rattle.refutation.specs.Bodies.{body_under}
use Rattle.refutation.specs.Tables.{said_by}
use Rattle.refutation.proofs.bodies.body_with.Goals as goal

pub returns-then-is_empty : goal.returns-then-is_empty
returns-then-is_empty c =
    let look = c.args.look.now in
    let none : c.args.others.now ≡ [] = nil_from_length c.args.others.now (eqb-true (length c.args.others.now) 0 (sym c.is_empty.ensures ∙ c.if-is_empty.true)) in
    c.requires ∙ ap (λ xs. body_under (program_of look.judged.now.program.now) (rel_of look.judged.now.sets.now) (said_by (rel_of look.floors.now.sets.now) look.floors.now.tables.items) look.method (has_path (xs ++ c.args.held.now))) (sym none)
