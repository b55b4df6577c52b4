-- A statement that is an error by itself.
use Rattle.std.proofs.Common.{ap, sym, ◌∙◌}
use Rattle.algebra.specs.HeldPaths.{has_path}
use Rattle.core_program.specs.Views.{program_of, stmt_of}
use Rattle.effects.specs.Parts.{StmtP}
use Rattle.rules.specs.Near.{rel_of}
use Rattle.explain.specs.PartEffects.{own_of}
use Rattle.explain.specs.StepReadings.{is_error}
use Rattle.explain.specs.Views.{part_of_walk}
use Rattle.explain.proofs.errors.is_wrong.Goals as goal

pub returns-in-Stmt : goal.returns-in-Stmt
returns-in-Stmt g c =
    let P = program_of c.args.walk.now.program.now in let rel = rel_of c.args.walk.now.sets.now in let A = g.A.Assigned.assigned c.args.walk.now.assigned.now in
    c.is_wrong_stmt.ensures rel A
    ∙ ap (λ h. is_error (own_of P rel A (StmtP (stmt_of c.in-Stmt.s.now)) (has_path h))) c.as_slice-held.ensures.value
    ∙ ap (λ p. is_error (own_of P rel A (part_of_walk p) (has_path c.args.v.now.held.items))) (sym c.in-Stmt.is)
