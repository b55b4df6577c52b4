-- Of a walk the parts that can't be moved are asked alone.
use Rattle.std.proofs.Common.{None, ap, sym, ◌∙◌}
use Rattle.std.specs.List.{list_all}
use Rattle.algebra.specs.HeldPaths.{has_path}
use Rattle.core_program.specs.Views.{program_of, stmt_of}
use Rattle.rules.specs.Near.{rel_of}
use Rattle.explain.specs.Visits.{stmt_visits}
use Rattle.explain.specs.Takings.{locks}
use Rattle.explain.specs.Views.{visits_of}
use Rattle.explain.proofs.Taken.{only_heavy}
use Rattle.explain.proofs.takings.body_takes.Goals as goal

pub returns : goal.returns
returns g c =
    let P = program_of c.args.walk.now.program.now in let rel = rel_of c.args.walk.now.sets.now in let A = g.A.Assigned.assigned c.args.walk.now.assigned.now in
    let q = c.args.lock.now in
    c.all_lock.ensures ∙ ap (λ vs. list_all (λ v. locks q v.part) (visits_of vs)) c.as_slice.ensures.value
    ∙ ap (list_all (λ v. locks q v.part)) c.in_ok-walked.ensures.heavy
    ∙ sym (only_heavy P rel A q (stmt_visits P (stmt_of c.args.body.now) 0 (has_path c.args.held.now) None))
