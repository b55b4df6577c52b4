-- The parts of a body in memory.
use Rattle.std.specs.Prelude.{List, [], ◌∷◌}
use Rattle.core_program.specs.Views.{expr_of, exprs_from, stmt_of, stmts_from}
use Rattle.effects.specs.declared.parts.BodyPart.{BodyPart}
use Rattle.effects.specs.declared.parts.BodyPart.TheVariants.{Expr, Stmt}
use Rattle.effects.specs.declared.parts.InnerParts.{InnerParts}
use Rattle.effects.specs.declared.parts.InnerParts.TheVariants as parts
use Rattle.effects.specs.Parts.{Part, ExprP, StmtP, args_parts, block_parts}

-- a part as plain data
abbrev pub part_of : BodyPart → Part
part_of (Expr e) = ExprP (expr_of e.now)
part_of (Stmt s) = StmtP (stmt_of s.now)

-- the parts that are still to come, as plain data
abbrev pub list_of : InnerParts → List Part
list_of parts.End = []
list_of (parts.One a) = part_of a ∷ []
list_of (parts.Two a b) = part_of a ∷ part_of b ∷ []
list_of (parts.Three a b c) = part_of a ∷ part_of b ∷ part_of c ∷ []
list_of (parts.Call e args) = ExprP (expr_of e.now) ∷ args_parts (exprs_from args.now)
list_of (parts.Args args) = args_parts (exprs_from args.now)
list_of (parts.Block body) = block_parts (stmts_from body.now)
