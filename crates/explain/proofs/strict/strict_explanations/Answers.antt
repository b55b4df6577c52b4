-- The entries behind the others.
use Rattle.std.proofs.Common.{ap, map, ◌∙◌}
use Rattle.core_program.specs.Views.{program_of}
use Rattle.rules.specs.Near.{rel_of}
use Rattle.rules.specs.Search.{row_at}
use Rattle.explain.specs.Strict.{entries_behind, settled_from}
use Rattle.explain.specs.Views.{explained_data}
use Rattle.explain.proofs.Strictly.{behind_refused}
use Rattle.explain.proofs.strict.strict_explanations.Goals as goal

pub returns : goal.returns
returns g c =
    let P = program_of c.args.walk.now.program.now in let rel = rel_of c.args.walk.now.sets.now in let A = g.A.Assigned.assigned c.args.walk.now.assigned.now in let overs = row_at c.args.over.now in let grounds = c.args.grounds.now in
    behind_refused P rel A overs grounds c.in_ok-all.all.items c.in_ok-behind.behind.items c.append.new.self.items c.in_ok-all.ensures
    (c.in_ok-behind.ensures ∙ ap (λ xs. entries_behind P rel A overs grounds (settled_from P A 0 P.methods) (map explained_data xs)) c.as_slice-3.ensures.value) c.in_ok-append.ensures.items
