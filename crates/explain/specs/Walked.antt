-- What a walk through a part adds to what was found before it.
use Rattle.std.specs.Prelude.{◌≡◌, ℕ, ◌+◌, List, ◌++◌, Option, length}
use Rattle.paths.specs.Paths.{PathData}
use Rattle.algebra.specs.declared.basic.Basic.{Basic}
use Rattle.algebra.specs.Basics.{join_of, seq_of}
use Rattle.algebra.specs.HeldPaths.{Held}
use Rattle.core_program.specs.Core.{Program, Expr, Exprs, Stmt, Stmts}
use Rattle.core_program.specs.Sizes.{stmt_nodes}
use Rattle.rules.specs.Effect.{Assignment, expr_effect, exprs_effect, effect, block_effect}
use Rattle.explain.specs.Visits.{Visit, expr_visits, exprs_visits, stmt_visits, block_visits}
use Rattle.explain.specs.Steps.{of_greater, expr_steps, exprs_steps, stmt_steps, block_steps}
use Rattle.explain.specs.declared.found.Found.{Found}
use Rattle.explain.specs.Basics.{expr_basics, exprs_basics, stmt_basics, block_basics}
use Rattle.explain.specs.Views.{visits_of, heavy_in, inner}

-- the number of the next part
abbrev pub next : Found → ℕ
next found = length found.basics.items

-- a walk that comes to these parts gave this effect, and added their basics, their steps, and those that can't be moved by themselves
pub record Walked (P : Program) (rel : ℕ → List PathData) (A : Assignment) (visits steps : List Visit) (basics : List Basic) (effect : Basic) (old : Found) (given : Basic) (new : Found) : Type 0 where
  pub effect_is : given ≡ effect
  pub basics_are : new.basics.items ≡ old.basics.items ++ basics
  pub steps_are : visits_of new.steps.items ≡ visits_of old.steps.items ++ steps
  pub heavy_are : visits_of new.heavy.items ≡ visits_of old.heavy.items ++ heavy_in P rel A visits

module _ (P : Program) (rel : ℕ → List PathData) (A : Assignment) where
  -- the walk through an expression; through its parts, where there is room for its own basic already; through arguments
  abbrev pub WalkedExpr : Expr → Held → Option ℕ → Found → Basic → Found → Type 0
  WalkedExpr e H loop old given new =
      Walked P rel A (expr_visits e (next old) H loop) (expr_steps P rel A e (next old) H loop) (expr_basics P rel A e H) (expr_effect P rel A e H) old given new

  -- the walk through the parts of an expression of this number, whose own basic has its place already
  abbrev pub InsideExpr : Expr → ℕ → Held → Option ℕ → Found → Basic → Found → Type 0
  InsideExpr e n H loop old given new =
      Walked P rel A (expr_visits e n H loop) (expr_steps P rel A e n H loop) (inner (expr_basics P rel A e H)) (expr_effect P rel A e H) old given new

  -- the walk through arguments, one after the other
  abbrev pub WalkedExprs : Exprs → Held → Option ℕ → Found → Basic → Found → Type 0
  WalkedExprs es H loop old given new =
      Walked P rel A (exprs_visits es (next old) H loop) (exprs_steps P rel A es (next old) H loop) (exprs_basics P rel A es H) (exprs_effect P rel A es H) old given new

  -- the walk through two expressions, one after the other
  pub record WalkedTwo (e f : Expr) (H : Held) (loop : Option ℕ) (old : Found) (given : Basic) (new : Found) : Type 0 where
    pub between : Found
    pub first : Basic
    pub second : Basic
    pub one : WalkedExpr e H loop old first between
    pub other : WalkedExpr f H loop between second new
    pub is : given ≡ seq_of first second

  -- the same of statements; and of both branches of an `if`
  abbrev pub WalkedStmt : Stmt → Held → Option ℕ → Found → Basic → Found → Type 0
  WalkedStmt s H loop old given new =
      Walked P rel A (stmt_visits P s (next old) H loop) (stmt_steps P rel A s (next old) H loop) (stmt_basics P rel A s H) (effect P rel A s H) old given new

  -- the walk through the parts of a statement of this number, whose own basic has its place already
  abbrev pub InsideStmt : Stmt → ℕ → Held → Option ℕ → Found → Basic → Found → Type 0
  InsideStmt s n H loop old given new =
      Walked P rel A (stmt_visits P s n H loop) (stmt_steps P rel A s n H loop) (inner (stmt_basics P rel A s H)) (effect P rel A s H) old given new

  -- the walk through the statements of a block, one after the other
  abbrev pub WalkedBlock : Stmts → Held → Option ℕ → Found → Basic → Found → Type 0
  WalkedBlock ss H loop old given new =
      Walked P rel A (block_visits P ss (next old) H loop) (block_steps P rel A ss (next old) H loop) (block_basics P rel A ss H) (block_effect P rel A ss H) old given new

  -- the walk through both branches of an `if`, which keeps the steps of the greater one alone
  abbrev pub WalkedBranches : Stmt → Stmt → Held → Option ℕ → Found → Basic → Found → Type 0
  WalkedBranches s t H loop old given new =
      Walked P rel A
      (stmt_visits P s (next old) H loop ++ stmt_visits P t (next old + stmt_nodes s) H loop)
      (of_greater (effect P rel A s H) (effect P rel A t H) (stmt_steps P rel A s (next old) H loop) (stmt_steps P rel A t (next old + stmt_nodes s) H loop))
      (stmt_basics P rel A s H ++ stmt_basics P rel A t H)
      (join_of (effect P rel A s H) (effect P rel A t H)) old given new
