use Rattle.std.proofs.Common.{◌≡◌, ℕ, ◌+◌, ◌≤◌, List, ◌++◌, length, drop}
use Rattle.core_program.specs.declared.tree.CoreStmt.{CoreStmt}
use Rattle.core_program.specs.Views.{stmt_of, stmts_from}
use Rattle.compile.specs.declared.stack.Code.{Code}
use Rattle.compile.specs.Emission.{KeepsCode, stmts_weight, stmts_entry, emitted_stmts}
use Rattle.compile.proofs.Measures.{stmt_measure, stmts_measure}
use Rattle.compile.proofs.emit.+stmts.Given as goal

abbrev pub decreases-emit_stmt : goal.decreases-emit_stmt
decreases-emit_stmt l = stmt_measure (stmt_of l.s.now)

abbrev pub decreases-emit_loop : goal.decreases-emit_loop
decreases-emit_loop l = 1 + stmt_measure (stmt_of l.body.now)

abbrev pub decreases-emit_sync : goal.decreases-emit_sync
decreases-emit_sync l = 1 + stmt_measure (stmt_of l.body.now)

abbrev pub decreases-emit_stmts : goal.decreases-emit_stmts
decreases-emit_stmts l = stmts_measure (stmts_from l.body.now)

-- the statements from a place on are put down, and begin at `later`
pub record IsDown (old new : List Code) (later : ℕ) (ss : List CoreStmt) (place count next ret : ℕ) : Type 0 where
  pub within : place ≤ count
  pub code : new ≡ old ++ emitted_stmts (stmts_from (drop place ss)) (length old) next ret
  pub len : length new ≡ length old + stmts_weight (stmts_from (drop place ss))
  pub entry : later ≡ stmts_entry (stmts_from (drop place ss)) (length old) next ret
  pub kept : (front : List Code) → KeepsCode front old → KeepsCode front new

abbrev pub invariant-emit_stmts-loop-place : goal.invariant-emit_stmts-loop-place
invariant-emit_stmts-loop-place l = IsDown l.initial.code.items l.code.items l.later l.body l.place (length l.body) l.next l.ret

abbrev pub decreases-emit_stmts-loop-place : goal.decreases-emit_stmts-loop-place
decreases-emit_stmts-loop-place l = l.place
