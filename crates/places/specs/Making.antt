-- Nodes and what they were made of: elaboration's own rule says which core node comes from which part of the tree.
use Rattle.std.specs.Prelude.{◌≡◌, ℕ, ◌+◌, List, [], ◌∷◌, length, Option, Some, slice_get, codes}
use Rattle.syntax.specs.Trees.{ExprTree, LockTree, StmtTree, StmtTrees, MethodTree, ProgramTree}
use Rattle.syntax.specs.Trees as tree
use Rattle.core_program.specs.declared.types.CoreType.{CoreType}
use Rattle.core_program.specs.Core.{Method, Stmt, Stmts, EmptyS, BlockS}
use Rattle.effects.specs.Parts.{Part, ExprP, StmtP}
use Rattle.explain.specs.PartEffects.{stmt_parts}
use Rattle.explain.specs.Visits.{Visit}
use Rattle.classes.specs.Table.{TableData}
use Rattle.typing.specs.Rules.{TypedData}
use Rattle.typing.specs.Scopes.{Scope}
use Rattle.typing.specs.Exprs.{elaborated}
use Rattle.typing.specs.Stmts.{stmt_core, block_core}
use Rattle.typing.specs.Programs.{method_result}
use Rattle.places.specs.Slots.{slot_names}
use Rattle.places.specs.Sources.{Source, FromExpr, FromStmt, InSync, NoElse, FromBody, method_places, method_sources, methods_in, source_offset}

-- each variable in scope has its own name in these, at its slot
abbrev pub IsEachNamed : List (List ℕ) → Scope → Type 0
IsEachNamed names [] = Unit {0}
IsEachNamed names (b ∷ bs) = (slice_get names b.variable.slot ≡ Some b.name) × IsEachNamed names bs

-- these are the names of slots where these variables are in scope: slot 0 is `this`, and the slot of each variable has the name by which
-- the source reads it there
pub record AreNamed (names : List (List ℕ)) (scope : Scope) : Type 0 where
  pub this : slice_get names 0 ≡ Some (codes "this")
  pub variables : IsEachNamed names scope

-- any variables may be in scope
abbrev pub AnyScope : Scope → Type 0
AnyScope scope = Unit {0}

-- with this class table, in a method of this class and with this result, whose first declared local has this slot, and where this is so of the
-- variables in scope
module _ (t : TableData) (class : ℕ) (returns : Option CoreType) (first : ℕ) (Within : Scope → Type 0) where
  -- a part is what elaboration makes of a source, with some variables in scope and so many locals declared before it: the node of an
  -- expression or a statement; the block of a `synchronized`; the empty statement of an `if` without `else`; the block of a body
  pub data IsMadeFrom : Part → Source → Type 0 where
    expr : (scope : Scope) (u : ExprTree) (d : TypedData) → Within scope → elaborated t class scope u ≡ Some d → IsMadeFrom (ExprP d.node) (FromExpr u)
    stmt : (scope : Scope) (before : ℕ) (u : StmtTree) (s : Stmt) → Within scope → stmt_core t class returns first scope before u ≡ Some s → IsMadeFrom (StmtP s) (FromStmt u)
    sync : (scope : Scope) (before : ℕ) (l : LockTree) (us : StmtTrees) (at : ℕ) (ss : Stmts) → Within scope →
        block_core t class returns first scope before us ≡ Some ss → IsMadeFrom (StmtP (BlockS ss)) (InSync (tree.SyncS l us at))
    none : (c : ExprTree) (u : StmtTree) (at : ℕ) → IsMadeFrom (StmtP EmptyS) (NoElse (tree.IfS c u at))
    body : (scope : Scope) (m : MethodTree) (ss : Stmts) → Within scope → block_core t class returns first scope 0 m.body ≡ Some ss
        → IsMadeFrom (StmtP (BlockS ss)) (FromBody m)

  -- each part is made of the source at its place, and there are as many of both
  pub data AreMade : List Part → List Source → Type 0 where
    end : AreMade [] []
    more : (x : Part) (u : Source) (xs : List Part) (us : List Source) → IsMadeFrom x u → AreMade xs us → AreMade (x ∷ xs) (u ∷ us)

  -- a part is made of the source with this number
  pub record IsMadeAt (us : List Source) (k : ℕ) (x : Part) : Type 0 where
    pub source : Source
    pub is : slice_get us k ≡ Some source
    pub made : IsMadeFrom x source

-- the parts of a method's body are in step with the sources of this method of the tree, with variables in scope whose slots have the names that
-- the tree gives (`this`, the parameters, the locals in the order of their declarations); and it stands where that one's name stands
pub record IsMadeOf (t : TableData) (method : Method) (m : MethodTree) : Type 0 where
  pub made : AreMade t method.class (method_result t m) (1 + length m.params) (AreNamed (slot_names m)) (stmt_parts method.body) (method_sources m)
  pub name : method.place_at ≡ m.name.at

-- the method with this number was made of the method of the tree with the same number
pub record HasTree (t : TableData) (tree : ProgramTree) (k : ℕ) (method : Method) : Type 0 where
  pub m : MethodTree
  pub is : slice_get (methods_in tree) k ≡ Some m
  pub made : IsMadeOf t method m

-- what a visited part of a method was made of, with variables in scope whose slots have the method's names of slots, and that this stands at
-- the offset with the part's number
pub record IsToldAt (t : TableData) (method : Method) (m : MethodTree) (v : Visit) : Type 0 where
  pub source : Source
  pub made : IsMadeFrom t method.class (method_result t m) (1 + length m.params) (AreNamed (slot_names m)) v.part source
  pub place : slice_get (method_places m) v.node ≡ Some (source_offset source)
