-- A walk through a body: it carries a set of held paths, and the greatest level of a lock that may be held.
use Rattle.std.specs.Prelude.{ℕ, ◌+◌, Bool, true, false, nat_lt, max, List, [], ◌∷◌, ◌++◌, Option, Some, None, slice_get, unwrap_or, if◌then◌else◌}
use Rattle.paths.specs.Paths.{PathData}
use Rattle.algebra.specs.HeldPaths.{Held, with_path}
use Rattle.core_program.specs.declared.types.CoreType.{CoreType}
use Rattle.core_program.specs.declared.types.CoreType.TheVariants as type
use Rattle.core_program.specs.Core.{Program, Method, Expr, Exprs, NotE, NegE, BinaryE, AndE, OrE, GetE, CallE, NewE, no_exprs, and_expr}
use Rattle.core_program.specs.Core.{Stmt, Stmts, EmptyS, BlockS, LocalS, SetVarS, SetFieldS, DoS, IfS, WhileS, SyncS, ReturnS, PrintS, StartS, no_stmts, and_stmt}
use Rattle.core_program.specs.Locks.{path_of}
use Rattle.core_program.specs.Types.{field_type}
use Rattle.rules.specs.Mentions.{paths_of}
use Rattle.rules.specs.Effect.{held_under, after_stmt}
use Rattle.levels.specs.SlotTypes.{SlotType, slot_types}

-- what a walk comes to
pub data LevelVisit : Type 0 where
  -- a call of this method, with what is held there as each method that may run knows it, under this level
  Comes : ℕ → (ℕ → Held) → ℕ → LevelVisit
  -- a `synchronized` on a lock of this class, which isn't above the walk's level; its place among those of the body, in written order
  Bad : (place class under : ℕ) → LevelVisit

-- the level of a class in a list; 0 for one that has none
abbrev pub level_in : List ℕ → ℕ → ℕ
level_in levels c = unwrap_or (slice_get levels c) 0

-- the class of a type, where it is one
abbrev pub class_of_slot : SlotType → ℕ
class_of_slot (Some (type.Class c)) = c
class_of_slot _ = 0

-- the type that these fields lead to from a value of a type
abbrev pub last_type : Program → SlotType → List ℕ → SlotType
last_type P t [] = t
last_type P t (f ∷ fs) = last_type P (field_type (slice_get P.fields f)) fs

-- the class of the lock of a path, for slots of these types
abbrev pub lock_class : Program → List CoreType → PathData → ℕ
lock_class P slots p = class_of_slot (last_type P (slice_get slots p.root) p.fields)

-- How many `synchronized` a statement and a block have.
abbrev mutual
  -- how many `synchronized` a statement has
  pub syncs_in : Stmt → ℕ
  syncs_in (BlockS ss) = syncs_in_each ss
  syncs_in (IfS c s t) = syncs_in s + syncs_in t
  syncs_in (WhileS c s) = syncs_in s
  syncs_in (SyncS p s) = 1 + syncs_in s
  syncs_in _ = 0

  -- how many the statements of a block have together
  pub syncs_in_each : Stmts → ℕ
  syncs_in_each no_stmts = 0
  syncs_in_each (and_stmt s ss) = syncs_in s + syncs_in_each ss

-- a program with its relevant paths
module _ (P : Program) (rel : ℕ → List PathData) where
  -- a call of a method on a receiver with arguments that have these paths or none
  abbrev pub call_visits : ℕ → Option PathData → List (Option PathData) → Held → ℕ → List LevelVisit
  call_visits m receiver args H under = Comes m (λ k. held_under (rel k) receiver args H) under ∷ []

  abbrev mutual
    -- the parts of an expression, at a set and under a level
    pub expr_visits : Expr → Held → ℕ → List LevelVisit
    expr_visits (NotE e) H under = expr_visits e H under
    expr_visits (NegE e) H under = expr_visits e H under
    expr_visits (BinaryE op a b) H under = expr_visits a H under ++ expr_visits b H under
    expr_visits (AndE a b) H under = expr_visits a H under ++ expr_visits b H under
    expr_visits (OrE a b) H under = expr_visits a H under ++ expr_visits b H under
    expr_visits (GetE e f) H under = expr_visits e H under
    expr_visits (CallE e m args) H under = expr_visits e H under ++ (exprs_visits args H under ++ call_visits m (path_of P e) (paths_of P args) H under)
    expr_visits (NewE c args) H under = exprs_visits args H under
    expr_visits _ H under = []

    -- the parts of some arguments, one argument after the other
    pub exprs_visits : Exprs → Held → ℕ → List LevelVisit
    exprs_visits no_exprs H under = []
    exprs_visits (and_expr e es) H under = expr_visits e H under ++ exprs_visits es H under

  -- with levels of classes, for slots of these types
  module _ (level : ℕ → ℕ) (slots : List CoreType) where
    -- a `synchronized` on a lock of this class at this place: the part as it is where the lock is held already; else the part with the lock taken,
    -- after a bad one where the lock isn't above the walk's level
    abbrev pub sync_visits : (held : Bool) → (place class under : ℕ) → (as_it_is taken : List LevelVisit) → List LevelVisit
    sync_visits true place class under as_it_is taken = as_it_is
    sync_visits false place class under as_it_is taken = if nat_lt under (level class) then taken else Bad place class under ∷ taken

    abbrev mutual
      -- the parts of a statement, whose first `synchronized` has this place
      pub visits : Stmt → ℕ → Held → ℕ → List LevelVisit
      visits EmptyS place H under = []
      visits (BlockS ss) place H under = block_visits ss place H under
      visits (LocalS x is_final ty e) place H under = expr_visits e H under
      visits (SetVarS x e) place H under = expr_visits e H under
      visits (SetFieldS e f g) place H under = expr_visits e H under ++ expr_visits g H under
      visits (DoS e drops) place H under = expr_visits e H under
      visits (IfS c s t) place H under = expr_visits c H under ++ (visits s place H under ++ visits t (place + syncs_in s) H under)
      visits (WhileS c s) place H under = expr_visits c H under ++ visits s place H under
      visits (SyncS p s) place H under = sync_visits (H p) place (lock_class P slots p) under
          (visits s (place + 1) H under) (visits s (place + 1) (with_path p H) (max under (level (lock_class P slots p))))
      visits (ReturnS None) place H under = []
      visits (ReturnS (Some e)) place H under = expr_visits e H under
      visits (PrintS e) place H under = expr_visits e H under
      visits (StartS e) place H under = expr_visits e H under

      -- the statements of a block, each at the set that those before it leave
      pub block_visits : Stmts → ℕ → Held → ℕ → List LevelVisit
      block_visits no_stmts place H under = []
      block_visits (and_stmt s ss) place H under = visits s place H under ++ block_visits ss (place + syncs_in s) (after_stmt P s H) under

  -- the walk through a method's body, at a set and under a level
  abbrev pub body_visits : (ℕ → ℕ) → Method → Held → ℕ → List LevelVisit
  body_visits level method H under = visits level (slot_types method) method.body 0 H under
