use Rattle.std.proofs.Common.{◌+◌}
use Rattle.core_program.specs.Views.{stmt_of, stmts_from}
use Rattle.explain.proofs.FinalParts.{AreStmtsMade}
use Rattle.explain.proofs.Measures.{stmt_measure, stmts_measure}
use Rattle.explain.proofs.finals.+statements.Given as goal

abbrev pub decreases-final_stmt : goal.decreases-final_stmt
decreases-final_stmt l = stmt_measure (stmt_of l.s.now)

abbrev pub decreases-boxed_stmt : goal.decreases-boxed_stmt
decreases-boxed_stmt l = 1 + stmt_measure (stmt_of l.s.now)

abbrev pub decreases-final_choice : goal.decreases-final_choice
decreases-final_choice l = 2 + (stmt_measure (stmt_of l.a.now) + stmt_measure (stmt_of l.b.now))

abbrev pub decreases-final_loop : goal.decreases-final_loop
decreases-final_loop l = 2 + stmt_measure (stmt_of l.body.now)

abbrev pub decreases-final_stmts : goal.decreases-final_stmts
decreases-final_stmts l = stmts_measure (stmts_from l.body.now)

-- the statements so far, with what is made of the rest, are what is made of all
abbrev pub invariant-final_stmts-loop-s : goal.invariant-final_stmts-loop-s
invariant-final_stmts-loop-s l = AreStmtsMade l.slot l.body l.s-index l.made.items
