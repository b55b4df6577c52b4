-- Values of premises, parts of bodies, and derivations.
use Rattle.std.specs.Prelude.{pos, true, List, [], ◌∷◌, Some, None}
use Rattle.algebra.specs.declared.basic.Basic.{Basic}
use Rattle.algebra.specs.declared.basic.Basic.TheVariants.{Const, Mover, Atomic}
use Rattle.core_program.specs.declared.types.CoreOp.TheVariants.{Add}
use Rattle.core_program.specs.declared.types.CoreType.TheVariants as type
use Rattle.core_program.specs.Core.{Exprs, IntE, TruthE, NullE, ThisE, VarE, NotE, NegE, BinaryE, AndE, OrE, GetE, CallE, NewE, no_exprs, and_expr}
use Rattle.core_program.specs.Core.{Stmts, EmptyS, BlockS, LocalS, SetVarS, SetFieldS, DoS, IfS, WhileS, SyncS, ReturnS, PrintS, StartS, no_stmts, and_stmt}
use Rattle.core_program.specs.Examples.{this_path}
use Rattle.conditions.specs.Conditions.{Cond, LeafC, TestC}
use Rattle.books.specs.declared.word.Word.TheVariants as w
use Rattle.books.specs.Derivations.{Node, node, no_nodes, and_node}
use Rattle.effects.specs.Parts.{Part, ExprP, StmtP}
use Rattle.book_check.specs.Parts.{PlacedNode}
use Rattle.effects.specs.Rules.{Value}
use Rattle.core_examples.specs.Small.{one, two}

-- a basic at every set
abbrev pub always : Basic → Value
always b H = b

-- a constant at every set
abbrev pub con : Value
con = always Const

-- a mover at every set
abbrev pub mov : Value
mov = always Mover

-- atomic at every set
abbrev pub ato : Value
ato = always Atomic

-- the arguments 1 and 2, and two statements
abbrev pub two_arguments : Exprs
two_arguments = and_expr one (and_expr two no_exprs)

-- `; System.out.println(1);`
abbrev pub two_statements : Stmts
two_statements = and_stmt EmptyS (and_stmt (PrintS one) no_stmts)

-- a part of each kind, in the order of the rules
abbrev pub expressions : List Part
expressions =
    ExprP (IntE (pos 1)) ∷ ExprP (TruthE true) ∷ ExprP NullE ∷ ExprP ThisE ∷ ExprP (VarE 1 true type.Int)
    ∷ ExprP (NotE one) ∷ ExprP (NegE one) ∷ ExprP (BinaryE Add one two) ∷ ExprP (AndE one two) ∷ ExprP (OrE one two)
    ∷ ExprP (GetE one 0) ∷ ExprP (CallE ThisE 0 two_arguments) ∷ ExprP (NewE 0 two_arguments) ∷ []

-- a statement of each kind, in the order of the rules
abbrev pub statements : List Part
statements =
    StmtP EmptyS ∷ StmtP (BlockS two_statements) ∷ StmtP (LocalS 1 true type.Int one) ∷ StmtP (SetVarS 1 one) ∷ StmtP (SetFieldS one 0 two)
    ∷ StmtP (DoS one true) ∷ StmtP (IfS one EmptyS (PrintS two)) ∷ StmtP (WhileS one EmptyS) ∷ StmtP (SyncS this_path EmptyS)
    ∷ StmtP (ReturnS (Some one)) ∷ StmtP (ReturnS None) ∷ StmtP (PrintS one) ∷ StmtP (StartS one) ∷ []

-- a mover where the lock of `this` is held, else atomic, and the second of these alone
abbrev pub mover_under_this : Cond
mover_under_this = TestC this_path (LeafC Mover) (LeafC Atomic)

-- a table of two trees, of which the second is a constant
abbrev pub table : List Cond
table = mover_under_this ∷ LeafC Const ∷ []

-- a node with no premises
abbrev pub leaf_node : Node
leaf_node = node w.Lit 1 no_nodes

-- the derivation of `synchronized (this) { this.v = 7; }`, and its part and premise
abbrev pub sync_put_node : Node
sync_put_node = node w.Put 0 (and_node (node w.This 1 no_nodes) (and_node leaf_node no_nodes))

-- the derivation of the `synchronized` around it
abbrev pub sync_node : Node
sync_node = node w.Sync 0 (and_node sync_put_node no_nodes)

-- a part beside its node
abbrev pub part_at_node : Part → Node → PlacedNode
part_at_node part at = record { part = part; at = at }
