-- The parts that can't be moved have all writes of the method.
use Rattle.std.proofs.Common.{◌≡◌, ◌++◌, List, None, ap, ◌∙◌, subst, OnOk}
use Rattle.algebra.specs.HeldPaths.{has_path}
use Rattle.core_program.specs.Views.{method_of, program_of, stmt_of}
use Rattle.rules.specs.Near.{rel_of}
use Rattle.explain.specs.declared.unguarded.BareWrite.{BareWrite as Write}
use Rattle.explain.specs.Unguarded.{first_writes, writes_of}
use Rattle.explain.specs.Views.{heavy_in, visits_of}
use Rattle.explain.specs.Visits.{stmt_visits}
use Rattle.explain.proofs.Writing.{heavy_writes}
use Rattle.explain.proofs.unguarded.add_method.Goals as goal

pub returns : goal.returns
returns g c =
    let P = program_of c.args.walk.now.program.now in let rel = rel_of c.args.walk.now.sets.now in let A = g.A.Assigned.assigned c.args.walk.now.assigned.now in
    let method = c.args.method.now in
    let same = ap visits_of c.as_slice-2.ensures.value ∙ c.in_ok-walked.ensures.heavy
    ∙ ap (λ qs. heavy_in P rel A (stmt_visits P (stmt_of method.body) 0 (has_path qs) None)) c.as_slice.ensures.value in
    subst (λ ws. OnOk c.add_each.result ((rest : List Write) → c.add_each.new.writes.items ++ first_writes c.add_each.new.writes.items rest
    ≡ c.args.writes.now.items ++ first_writes c.args.writes.now.items (ws ++ rest)))
    (ap (writes_of P c.args.id) same ∙ heavy_writes P rel A c.args.id (stmt_visits P (stmt_of method.body) 0 (has_path (method_of method).requires_) None)) c.add_each.ensures
