-- The nodes of a derivation at the parts of a body that they stand for.
use Rattle.std.specs.Prelude.{◌≡◌, ℕ, ◌<◌, List, [], ◌∷◌, ◌++◌, length, Some, slice_get}
use Rattle.core_program.specs.Core.{IntE, TruthE, NullE, ThisE, VarE, NotE, NegE, BinaryE, AndE, OrE, GetE, CallE, NewE}
use Rattle.core_program.specs.Core.{EmptyS, BlockS, LocalS, SetVarS, SetFieldS, DoS, IfS, WhileS, SyncS, ReturnS, PrintS, StartS}
use Rattle.books.specs.declared.word.Word.{Word}
use Rattle.books.specs.declared.word.Word.TheVariants as w
use Rattle.books.specs.Derivations.{Node, node, Nodes, and_node, word_at, premises_of, count_nodes}
use Rattle.effects.specs.Parts.{Part, ExprP, StmtP, parts_of}

-- the word of a part's node
abbrev pub node_word : Part → Word
node_word (ExprP (IntE n)) = w.Lit
node_word (ExprP (TruthE b)) = w.Lit
node_word (ExprP NullE) = w.Lit
node_word (ExprP ThisE) = w.This
node_word (ExprP (VarE x is_final ty)) = w.Var
node_word (ExprP (NotE e)) = w.Un
node_word (ExprP (NegE e)) = w.Un
node_word (ExprP (BinaryE op a b)) = w.Bin
node_word (ExprP (AndE a b)) = w.And
node_word (ExprP (OrE a b)) = w.Or
node_word (ExprP (GetE e f)) = w.Get
node_word (ExprP (CallE e m args)) = w.Call
node_word (ExprP (NewE c args)) = w.New
node_word (StmtP EmptyS) = w.Skip
node_word (StmtP (BlockS ss)) = w.Block
node_word (StmtP (LocalS x is_final ty e)) = w.Local
node_word (StmtP (SetVarS x e)) = w.Set
node_word (StmtP (SetFieldS e f g)) = w.Put
node_word (StmtP (DoS e drops)) = w.Do
node_word (StmtP (IfS c s t)) = w.If
node_word (StmtP (WhileS c s)) = w.While
node_word (StmtP (SyncS p s)) = w.Sync
node_word (StmtP (ReturnS e)) = w.Return
node_word (StmtP (PrintS e)) = w.Print
node_word (StmtP (StartS e)) = w.Start

-- a node at the part that it stands for
pub record PlacedNode : Type 0 where
  pub part : Part
  pub at : Node

-- A node at the part that it stands for, and its premises at that part's own parts.
abbrev mutual
  -- the places of a derivation, numbered from 0 in the order in which its nodes are written
  pub places : Part → Node → List PlacedNode
  places part (node w n ds) = record { part = part; at = node w n ds } ∷ places_of (parts_of part) ds

  -- the places of premises, as far as there are both parts and nodes
  pub places_of : List Part → Nodes → List PlacedNode
  places_of (part ∷ parts) (and_node d ds) = places part d ++ places_of parts ds
  places_of _ _ = []

-- a node has the word and the number of premises of its part
pub record FitsPart (x : PlacedNode) : Type 0 where
  pub word : word_at x.at ≡ node_word x.part
  pub count : count_nodes (premises_of x.at) ≡ length (parts_of x.part)

-- all places are good
abbrev pub Each : (PlacedNode → Type 0) → List PlacedNode → Type 0
Each Good xs = (k : ℕ) (x : PlacedNode) → slice_get xs k ≡ Some x → Good x

-- the least place that is not good
pub record IsLeastBad (Good : PlacedNode → Type 0) (xs : List PlacedNode) (k : ℕ) : Type 0 where
  pub place : PlacedNode
  pub is : slice_get xs k ≡ Some place
  pub bad : Good place → ⊥
  pub first : (j : ℕ) (x : PlacedNode) → j < k → slice_get xs j ≡ Some x → Good x
