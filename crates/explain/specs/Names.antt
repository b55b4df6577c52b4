-- Names of locks: a second name of a lock, and why an expression has no path.
use Rattle.std.specs.Prelude.{ℕ, zero, suc, true, false, ◌==◌, List, [], ◌∷◌, ◌++◌, Option, Some, None, find, unwrap_or, slice_get, if◌then◌else◌}
use Rattle.std.specs.List.{filter_map}
use Rattle.paths.specs.Paths.{PathData, extended}
use Rattle.algebra.specs.HeldPaths.{Held}
use Rattle.effects.specs.HeldLists.{name_from_local}
use Rattle.core_program.specs.Core.{Program, Expr, Exprs, no_exprs, and_expr, ThisE, VarE, GetE}
use Rattle.core_program.specs.Core.{Stmt, Stmts, BlockS, LocalS, IfS, WhileS, SyncS, no_stmts, and_stmt}
use Rattle.core_program.specs.Locks.{path_of, leads_on}
use Rattle.explain.specs.declared.names.Alias.{Alias}
use Rattle.explain.specs.declared.names.Lack.{Lack}
use Rattle.explain.specs.declared.names.Lack.TheVariants as lack

-- the argument at a place, where there is one
abbrev pub argument : Exprs → ℕ → Option Expr
argument no_exprs k = None
argument (and_expr e es) zero = Some e
argument (and_expr e es) (suc k) = argument es k

-- what stands for a callee's slot at a call: the receiver, then the arguments
abbrev pub passed_expr : Expr → Exprs → ℕ → Option Expr
passed_expr e args zero = Some e
passed_expr e args (suc k) = argument args k

-- the path of a final local's value, extended by these fields; this path where that is too long
abbrev pub through_final : PathData → PathData → PathData
through_final start p = unwrap_or (extended start p.fields) p

-- the path that a path means, where these final locals have these values
abbrev pub meant : List Alias → PathData → PathData
meant [] p = p
meant (a ∷ rest) p = if a.slot == p.root then through_final a.path p else meant rest p

-- the names of a lock from these locals
abbrev pub names_from : List Alias → PathData → List PathData
names_from aliases p = filter_map (λ a. name_from_local a.slot a.path p) aliases

-- the first other name of a path's lock that is held
abbrev pub second_name : List Alias → Held → PathData → Option PathData
second_name aliases H p = find H (meant aliases p ∷ names_from aliases (meant aliases p))

-- a final local whose value has this path or none, behind those before it
abbrev pub with_alias : List Alias → ℕ → Option PathData → List Alias
with_alias aliases x None = aliases
with_alias aliases x (Some p) = aliases ++ record { slot = x; path = meant aliases p } ∷ []

module _ (P : Program) where
  abbrev mutual
    -- the final locals with the paths that they mean, after a statement, where they were these before it
    pub aliases_after : List Alias → Stmt → List Alias
    aliases_after known (BlockS ss) = aliases_after_each known ss
    aliases_after known (LocalS x true ty e) = with_alias known x (path_of P e)
    aliases_after known (IfS c s t) = aliases_after (aliases_after known s) t
    aliases_after known (WhileS c s) = aliases_after known s
    aliases_after known (SyncS p s) = aliases_after known s
    aliases_after known _ = known

    -- the same after the statements of a block, one after the other
    pub aliases_after_each : List Alias → Stmts → List Alias
    aliases_after_each known no_stmts = known
    aliases_after_each known (and_stmt s ss) = aliases_after_each (aliases_after known s) ss

  -- why no path through an expression is there: of a path that would be too long, that it would
  abbrev pub lack_of : Expr → Lack
  lack_of (VarE x false ty) = lack.Variable x
  lack_of (VarE x true ty) = lack.Long
  lack_of ThisE = lack.Long
  lack_of (GetE e f) = if leads_on (slice_get P.fields f) then lack_of e else lack.Field f
  lack_of _ = lack.Value
