-- The names of a method's slots: `this`, the parameters, and the locals in the order of their declarations.
use Rattle.std.specs.Prelude.{ℕ, List, [], ◌∷◌, ◌++◌, map, codes}
use Rattle.syntax.specs.Trees.{StmtTree, StmtTrees, EmptyS, BlockS, LocalS, SetVarS, SetFieldS, DoS, IfS, IfElseS, WhileS, SyncS, ReturnS, PrintS, StartS, no_stmts, more_stmts}
use Rattle.syntax.specs.Trees.{MethodTree, MemberTree, FieldM, CtorM, MethodM}

-- The names of the locals of a statement and of a block.
abbrev mutual
  -- the names of the locals that a statement declares
  pub local_names : StmtTree → List (List ℕ)
  local_names (EmptyS at) = []
  local_names (BlockS ss at) = block_locals ss
  local_names (LocalS fin ty n e at) = n.text ∷ []
  local_names (SetVarS n e at) = []
  local_names (SetFieldS e n value at) = []
  local_names (DoS e at) = []
  local_names (IfS c s at) = local_names s
  local_names (IfElseS c s u at) = local_names s ++ local_names u
  local_names (WhileS c s at) = local_names s
  local_names (SyncS l ss at) = block_locals ss
  local_names (ReturnS value at) = []
  local_names (PrintS e at) = []
  local_names (StartS e at) = []

  -- the names of the locals that the statements of a block declare, one statement after the other
  pub block_locals : StmtTrees → List (List ℕ)
  block_locals no_stmts = []
  block_locals (more_stmts s ss) = local_names s ++ block_locals ss

-- the names of the slots of a method
abbrev pub slot_names : MethodTree → List (List ℕ)
slot_names m = codes "this" ∷ (map (λ p. p.name.text) m.params ++ block_locals m.body)

-- those of a member that is a method; another has none
abbrev pub member_slots : MemberTree → List (List ℕ)
member_slots (FieldM f) = []
member_slots (CtorM n params sets) = []
member_slots (MethodM m) = slot_names m
