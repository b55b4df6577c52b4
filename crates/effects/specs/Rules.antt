-- The value that the rule of a part gives, from the values of the parts that it is made of, at every set of held paths.
use Rattle.std.specs.Prelude.{ℕ, true, false, List, [], ◌∷◌, Option}
use Rattle.paths.specs.Paths.{PathData}
use Rattle.algebra.specs.declared.basic.Basic.{Basic}
use Rattle.algebra.specs.declared.basic.Basic.TheVariants.{Const, Mover, Atomic}
use Rattle.algebra.specs.Basics.{seq_of, join_of, star_of}
use Rattle.algebra.specs.HeldPaths.{Held}
use Rattle.algebra.specs.Values.{sync_of}
use Rattle.core_program.specs.Core.{Program, Expr, IntE, TruthE, NullE, ThisE, VarE, NotE, NegE, BinaryE, AndE, OrE, GetE, CallE, NewE}
use Rattle.core_program.specs.Core.{Stmt, Stmts, EmptyS, BlockS, LocalS, SetVarS, SetFieldS, DoS, IfS, WhileS, SyncS, ReturnS, PrintS, StartS, and_stmt}
use Rattle.core_program.specs.Locks.{path_of}
use Rattle.rules.specs.Mentions.{paths_of}
use Rattle.rules.specs.Effect.{Assignment, variable_effect, access_of, call_of, after_stmt}
use Rattle.effects.specs.Parts.{Part, ExprP, StmtP}

-- a basic at every set of held paths
abbrev pub Value : Type 0
Value = Held → Basic

-- values one after another
abbrev pub in_sequence : List Value → Held → Basic
in_sequence [] H = Const
in_sequence (v ∷ vs) H = seq_of (v H) (in_sequence vs H)

-- the condition, then either branch
abbrev pub choice_value : List Value → Held → Basic
choice_value (c ∷ v ∷ w ∷ vs) H = seq_of (c H) (join_of (v H) (w H))
choice_value _ H = Const

-- the condition, then the body and the condition again, any number of times
abbrev pub loop_value : List Value → Held → Basic
loop_value (c ∷ v ∷ vs) H = seq_of (c H) (star_of (seq_of (v H) (c H)))
loop_value _ H = Const

-- the body where the lock is held, and elsewhere the lift of the body with the lock
abbrev pub lock_value : PathData → List Value → Held → Basic
lock_value p (v ∷ vs) H = sync_of p v H
lock_value p [] H = Const

-- what a method gives at a call on a receiver and with arguments that have these paths or none
abbrev pub Called : Type 0
Called = ℕ → Option PathData → List (Option PathData) → Value

-- the set of held paths that a statement of a block leaves
abbrev pub After : Type 0
After = Stmt → Held → Held

-- the statements one after another, each at the set that the ones before it leave
abbrev pub block_value_at : After → Stmts → List Value → Held → Basic
block_value_at after (and_stmt s ss) (v ∷ vs) H = seq_of (v H) (block_value_at after ss vs (after s H))
block_value_at after _ _ H = Const

-- the rules of expressions
abbrev pub expr_rule_in : Program → Called → Expr → List Value → Held → Basic
expr_rule_in P called (IntE n) vs H = Const
expr_rule_in P called (TruthE b) vs H = Const
expr_rule_in P called NullE vs H = Const
expr_rule_in P called ThisE vs H = Const
expr_rule_in P called (VarE x is_final ty) vs H = variable_effect is_final
expr_rule_in P called (NotE e) vs H = in_sequence vs H
expr_rule_in P called (NegE e) vs H = in_sequence vs H
expr_rule_in P called (BinaryE op a b) vs H = in_sequence vs H
expr_rule_in P called (AndE a b) vs H = in_sequence vs H
expr_rule_in P called (OrE a b) vs H = in_sequence vs H
expr_rule_in P called (GetE e f) vs H = seq_of (in_sequence vs H) (access_of P false f (path_of P e) H)
expr_rule_in P called (CallE e m args) vs H = seq_of (in_sequence vs H) (called m (path_of P e) (paths_of P args) H)
expr_rule_in P called (NewE c args) vs H = seq_of (in_sequence vs H) Mover

-- the rules of statements
abbrev pub stmt_rule_in : Program → After → Stmt → List Value → Held → Basic
stmt_rule_in P after EmptyS vs H = Const
stmt_rule_in P after (BlockS ss) vs H = block_value_at after ss vs H
stmt_rule_in P after (LocalS x is_final ty e) vs H = seq_of (in_sequence vs H) Mover
stmt_rule_in P after (SetVarS x e) vs H = seq_of (in_sequence vs H) Mover
stmt_rule_in P after (SetFieldS e f g) vs H = seq_of (in_sequence vs H) (access_of P true f (path_of P e) H)
stmt_rule_in P after (DoS e drops) vs H = in_sequence vs H
stmt_rule_in P after (IfS c s t) vs H = choice_value vs H
stmt_rule_in P after (WhileS c s) vs H = loop_value vs H
stmt_rule_in P after (SyncS p s) vs H = lock_value p vs H
stmt_rule_in P after (ReturnS e) vs H = in_sequence vs H
stmt_rule_in P after (PrintS e) vs H = seq_of (in_sequence vs H) Atomic
stmt_rule_in P after (StartS e) vs H = seq_of (in_sequence vs H) Atomic

-- the rule of a part, with what methods give where they are called, and with what statements leave
abbrev pub rule_in : Program → Called → After → Part → List Value → Held → Basic
rule_in P called after (ExprP e) = expr_rule_in P called e
rule_in P called after (StmtP s) = stmt_rule_in P after s

-- the same of a program's own calls and statements
abbrev pub block_value : Program → Stmts → List Value → Held → Basic
block_value P = block_value_at (after_stmt P)

module _ (P : Program) (rel : ℕ → List PathData) (A : Assignment) where
  -- the rule of an expression, for the values of its parts
  abbrev pub expr_rule : Expr → List Value → Held → Basic
  expr_rule = expr_rule_in P (call_of P rel A)

  -- the rule of a statement, for the values of its parts
  abbrev pub stmt_rule : Stmt → List Value → Held → Basic
  stmt_rule = stmt_rule_in P (after_stmt P)

  -- the rule of a part, whichever it is
  abbrev pub rule_of : Part → List Value → Held → Basic
  rule_of = rule_in P (call_of P rel A) (after_stmt P)

-- each of these values is known to its store
abbrev pub AreAllKnown : {S A : Type 0} → (S → A → Type 0) → S → List A → Type 0
AreAllKnown IsKnown store [] = Unit {0}
AreAllKnown IsKnown store (a ∷ others) = IsKnown store a × AreAllKnown IsKnown store others
