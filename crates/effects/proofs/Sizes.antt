-- The parts of a part are smaller and lower than it.
use Rattle.std.proofs.Common.{◌≡◌, ℕ, ◌+◌, ◌<◌, List, [], ◌∷◌, Some, None, refl, ap, arith, max}
use Rattle.core_program.specs.Core.{Exprs, IntE, TruthE, NullE, ThisE, VarE, NotE, NegE, BinaryE, AndE, OrE, GetE, CallE, NewE, no_exprs, and_expr}
use Rattle.core_program.specs.Core.{Stmts, EmptyS, BlockS, LocalS, SetVarS, SetFieldS, DoS, IfS, WhileS, SyncS, ReturnS, PrintS, StartS, no_stmts, and_stmt}
use Rattle.core_program.specs.Sizes.{height_of, highest_of, nodes_of, nodes_of_each, stmt_height, highest_stmt, stmt_nodes, stmt_nodes_each}
use Rattle.effects.specs.Parts.{Part, ExprP, StmtP, parts_of, args_parts, block_parts}

-- how many nodes a part has
abbrev pub size_part : Part → ℕ
size_part (ExprP e) = nodes_of e
size_part (StmtP s) = stmt_nodes s

abbrev pub size_parts : List Part → ℕ
size_parts [] = 0
size_parts (x ∷ xs) = size_part x + size_parts xs

-- how many stand within each other
abbrev pub high_part : Part → ℕ
high_part (ExprP e) = height_of e
high_part (StmtP s) = stmt_height s

abbrev pub high_parts : List Part → ℕ
high_parts [] = 0
high_parts (x ∷ xs) = max (high_part x) (high_parts xs)

args_size : (es : Exprs) → size_parts (args_parts es) ≡ nodes_of_each es
args_size no_exprs = refl
args_size (and_expr e es) = ap (λ n. nodes_of e + n) (args_size es)

block_size : (ss : Stmts) → size_parts (block_parts ss) ≡ stmt_nodes_each ss
block_size no_stmts = refl
block_size (and_stmt s ss) = ap (λ n. stmt_nodes s + n) (block_size ss)

args_high : (es : Exprs) → high_parts (args_parts es) ≡ highest_of es
args_high no_exprs = refl
args_high (and_expr e es) = ap (λ n. max (height_of e) n) (args_high es)

block_high : (ss : Stmts) → high_parts (block_parts ss) ≡ highest_stmt ss
block_high no_stmts = refl
block_high (and_stmt s ss) = ap (λ n. max (stmt_height s) n) (block_high ss)

pub parts_smaller : (x : Part) → size_parts (parts_of x) < size_part x
parts_smaller (ExprP (IntE n)) = omega arith
parts_smaller (ExprP (TruthE b)) = omega arith
parts_smaller (ExprP NullE) = omega arith
parts_smaller (ExprP ThisE) = omega arith
parts_smaller (ExprP (VarE x is_final ty)) = omega arith
parts_smaller (ExprP (NotE e)) = omega arith
parts_smaller (ExprP (NegE e)) = omega arith
parts_smaller (ExprP (BinaryE op a b)) = omega arith
parts_smaller (ExprP (AndE a b)) = omega arith
parts_smaller (ExprP (OrE a b)) = omega arith
parts_smaller (ExprP (GetE e f)) = omega arith
parts_smaller (ExprP (CallE e m args)) = omega (arith, args_size args)
parts_smaller (ExprP (NewE c args)) = omega (arith, args_size args)
parts_smaller (StmtP EmptyS) = omega arith
parts_smaller (StmtP (BlockS ss)) = omega (arith, block_size ss)
parts_smaller (StmtP (LocalS x is_final ty e)) = omega arith
parts_smaller (StmtP (SetVarS x e)) = omega arith
parts_smaller (StmtP (SetFieldS e f g)) = omega arith
parts_smaller (StmtP (DoS e drops)) = omega arith
parts_smaller (StmtP (IfS c s t)) = omega arith
parts_smaller (StmtP (WhileS c s)) = omega arith
parts_smaller (StmtP (SyncS p s)) = omega arith
parts_smaller (StmtP (ReturnS None)) = omega arith
parts_smaller (StmtP (ReturnS (Some e))) = omega arith
parts_smaller (StmtP (PrintS e)) = omega arith
parts_smaller (StmtP (StartS e)) = omega arith

pub parts_lower : (x : Part) → high_parts (parts_of x) < high_part x
parts_lower (ExprP (IntE n)) = omega arith
parts_lower (ExprP (TruthE b)) = omega arith
parts_lower (ExprP NullE) = omega arith
parts_lower (ExprP ThisE) = omega arith
parts_lower (ExprP (VarE x is_final ty)) = omega arith
parts_lower (ExprP (NotE e)) = omega arith
parts_lower (ExprP (NegE e)) = omega arith
parts_lower (ExprP (BinaryE op a b)) = omega arith
parts_lower (ExprP (AndE a b)) = omega arith
parts_lower (ExprP (OrE a b)) = omega arith
parts_lower (ExprP (GetE e f)) = omega arith
parts_lower (ExprP (CallE e m args)) = omega (arith, args_high args)
parts_lower (ExprP (NewE c args)) = omega (arith, args_high args)
parts_lower (StmtP EmptyS) = omega arith
parts_lower (StmtP (BlockS ss)) = omega (arith, block_high ss)
parts_lower (StmtP (LocalS x is_final ty e)) = omega arith
parts_lower (StmtP (SetVarS x e)) = omega arith
parts_lower (StmtP (SetFieldS e f g)) = omega arith
parts_lower (StmtP (DoS e drops)) = omega arith
parts_lower (StmtP (IfS c s t)) = omega arith
parts_lower (StmtP (WhileS c s)) = omega arith
parts_lower (StmtP (SyncS p s)) = omega arith
parts_lower (StmtP (ReturnS None)) = omega arith
parts_lower (StmtP (ReturnS (Some e))) = omega arith
parts_lower (StmtP (PrintS e)) = omega arith
parts_lower (StmtP (StartS e)) = omega arith
