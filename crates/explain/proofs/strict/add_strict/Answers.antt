-- A method that keeps its bound, and one that breaks it.
use Rattle.std.proofs.Common.{ap, map, ◌∙◌, true}
use Rattle.core_program.specs.Views.{method_of, program_of}
use Rattle.rules.specs.Near.{rel_of}
use Rattle.rules.specs.Search.{row_at}
use Rattle.explain.specs.Programs.{explained}
use Rattle.explain.specs.Views.{explained_data}
use Rattle.explain.proofs.Strictly.{broken_told, kept_told}
use Rattle.explain.proofs.strict.add_strict.Goals as goal

pub returns-then-keeps_strictly : goal.returns-then-keeps_strictly
returns-then-keeps_strictly g c =
    kept_told (program_of c.args.basis.now.walk.now.program.now) (rel_of c.args.basis.now.walk.now.sets.now) (g.A.Assigned.assigned c.args.basis.now.walk.now.assigned.now) (row_at c.args.basis.now.over.now) c.args.basis.now.grounds.now c.args.id (method_of c.args.method.now)
    c.keeps_strictly.result c.keeps_strictly.ensures c.if-keeps_strictly.true (map explained_data c.args.all.now.items)

pub returns : goal.returns
returns g c =
    let P = program_of c.args.basis.now.walk.now.program.now in let rel = rel_of c.args.basis.now.walk.now.sets.now in let A = g.A.Assigned.assigned c.args.basis.now.walk.now.assigned.now in let overs = row_at c.args.basis.now.over.now in
    let method = method_of c.args.method.now in
    broken_told P rel A overs c.args.basis.now.grounds.now c.args.id method c.keeps_strictly.result c.keeps_strictly.ensures c.if-keeps_strictly.false c.args.all.now.items c.push.new.self.items c.in_ok-x.x
    (c.in_ok-x.ensures ∙ ap (λ b. explained P rel A overs c.args.basis.now.grounds.now true b c.args.id method) c.strict_bound-limit.ensures) c.in_ok-push.ensures.items
