-- When a list of work is suited to the types of its slots and operands: what is stored, written, passed and returned has the type of its place.
use Rattle.std.specs.Prelude.{◌≡◌, ℕ, true, List, [], ◌∷◌, ◌++◌, Option, Some, None, slice_get, if◌then◌else◌}
use Rattle.core_program.specs.declared.types.CoreType.{CoreType}
use Rattle.core_program.specs.declared.types.CoreType.TheVariants as type
use Rattle.core_program.specs.Core.{Program, Expr, Exprs, NotE, NegE, BinaryE, AndE, OrE, GetE, CallE, NewE, no_exprs, and_expr}
use Rattle.core_program.specs.Core.{Stmt, Stmts, EmptyS, BlockS, LocalS, SetVarS, SetFieldS, DoS, IfS, WhileS, SyncS, ReturnS, PrintS, StartS, no_stmts, and_stmt}
use Rattle.core_program.specs.Types.{field_type}
use Rattle.state.specs.declared.value.Value.{Value}
use Rattle.state.specs.declared.value.Value.TheVariants as value
use Rattle.state.specs.Work as W
use Rattle.state.specs.Work.{Action, Item, Ex, St, Act, Next}
use Rattle.reduction.specs.Fits.{arity_of, final_field_count, valued, TidyE, TidyS}
use Rattle.levels.specs.SlotTypes.{SlotType, result_slot_type, taken_by_method, taken_by_new, expression_type, Suits, SuitEach, top_type, under_types, taken_types, dropped_types}

-- the value is no reference
abbrev pub IsPlain : Value → Type 0
IsPlain (value.Ref a) = ⊥
IsPlain _ = Unit {0}

-- the operand that a call of a method with this result or none brings
abbrev pub brought : Option CoreType → List SlotType
brought None = []
brought (Some t) = Some t ∷ []

-- the topmost operand has the type of the result, where there is one
abbrev pub SuitsResult : (ℕ → ℕ) → Option CoreType → List SlotType → Type 0
SuitsResult mark None ts = Unit {0}
SuitsResult mark (Some t) ts = Suits mark (top_type ts) (Some t)

-- in a program with marks, for slots of these types
module _ (P : Program) (mark : ℕ → ℕ) (slots : List CoreType) where
  abbrev mutual
    -- the arguments of each call and each `new` have the types of their places
    pub SuitedE : Expr → Type 0
    SuitedE (NotE e) = SuitedE e
    SuitedE (NegE e) = SuitedE e
    SuitedE (BinaryE op a b) = SuitedE a × SuitedE b
    SuitedE (AndE a b) = SuitedE a × SuitedE b
    SuitedE (OrE a b) = SuitedE a × SuitedE b
    SuitedE (GetE e f) = SuitedE e
    SuitedE (CallE e m args) = SuitedE e × SuitedEach args (taken_by_method (slice_get P.methods m))
    SuitedE (NewE c args) = SuitedEach args (taken_by_new P (slice_get P.classes c))
    SuitedE _ = Unit {0}

    -- as many arguments as types, each of which is suited and has its type
    pub SuitedEach : Exprs → List CoreType → Type 0
    SuitedEach no_exprs [] = Unit {0}
    SuitedEach no_exprs (t ∷ ts) = ⊥
    SuitedEach (and_expr e es) [] = ⊥
    SuitedEach (and_expr e es) (t ∷ ts) = SuitedE e × Suits mark (expression_type P slots e) (Some t) × SuitedEach es ts

  -- the types of the operands after an expression
  abbrev pub pushed_types : Expr → List SlotType → List SlotType
  pushed_types e ts = if valued P e then expression_type P slots e ∷ ts else ts

  module _ (result : Option CoreType) where
    abbrev mutual
      -- the same of the parts of a statement; what it stores, writes or returns has the type of its place
      pub SuitedS : Stmt → Type 0
      SuitedS EmptyS = Unit {0}
      SuitedS (BlockS ss) = SuitedBlock ss
      SuitedS (LocalS x is_final ty e) = SuitedE e × Suits mark (expression_type P slots e) (slice_get slots x)
      SuitedS (SetVarS x e) = SuitedE e × Suits mark (expression_type P slots e) (slice_get slots x)
      SuitedS (SetFieldS e f g) = SuitedE e × SuitedE g × Suits mark (expression_type P slots g) (field_type (slice_get P.fields f))
      SuitedS (DoS e drops) = SuitedE e
      SuitedS (IfS c s t) = SuitedE c × SuitedS s × SuitedS t
      SuitedS (WhileS c s) = SuitedE c × SuitedS s
      SuitedS (SyncS p s) = SuitedS s
      SuitedS (ReturnS None) = SuitsResult mark result []
      SuitedS (ReturnS (Some e)) = SuitedE e × SuitsResult mark result (expression_type P slots e ∷ [])
      SuitedS (PrintS e) = SuitedE e
      SuitedS (StartS e) = SuitedE e

      -- the same of the statements of a block
      pub SuitedBlock : Stmts → Type 0
      SuitedBlock no_stmts = Unit {0}
      SuitedBlock (and_stmt s ss) = SuitedS s × SuitedBlock ss

    -- an action is suited to operands of these types, where what stands after it is suited as G tells
    abbrev pub SuitedAct : Action → (List SlotType → Type 0) → List SlotType → Type 0
    SuitedAct (W.Push v) G ts = IsPlain v × G (None ∷ ts)
    SuitedAct (W.Load x) G ts = G (slice_get slots x ∷ ts)
    SuitedAct (W.Store x) G ts = Suits mark (top_type ts) (slice_get slots x) × G (under_types ts)
    SuitedAct W.Drop G ts = G (under_types ts)
    SuitedAct (W.Unary op) G ts = G (None ∷ under_types ts)
    SuitedAct (W.Binary op) G ts = G (None ∷ under_types (under_types ts))
    SuitedAct (W.AndThen e) G ts = (valued P e ≡ true) × TidyE P e × SuitedE e × G (expression_type P slots e ∷ under_types ts)
    SuitedAct (W.OrElse e) G ts = (valued P e ≡ true) × TidyE P e × SuitedE e × G (expression_type P slots e ∷ under_types ts)
    SuitedAct (W.Choose s t) G ts = (under_types ts ≡ []) × TidyS P s × SuitedS s × TidyS P t × SuitedS t × G []
    SuitedAct (W.Loop c s) G ts = (under_types ts ≡ []) × (valued P c ≡ true) × TidyE P c × SuitedE c × TidyS P s × SuitedS s × G []
    SuitedAct (W.Get f) G ts = G (field_type (slice_get P.fields f) ∷ under_types ts)
    SuitedAct (W.Put f) G ts = Suits mark (top_type ts) (field_type (slice_get P.fields f)) × G (under_types (under_types ts))
    SuitedAct (W.New c) G ts = SuitEach mark (taken_types (final_field_count (slice_get P.classes c)) [] ts) (taken_by_new P (slice_get P.classes c))
        × G (Some (type.Class c) ∷ dropped_types (final_field_count (slice_get P.classes c)) ts)
    SuitedAct (W.Call m) G ts = SuitEach mark (taken_types (arity_of (slice_get P.methods m)) [] ts) (taken_by_method (slice_get P.methods m))
        × G (brought (result_slot_type (slice_get P.methods m)) ++ under_types (dropped_types (arity_of (slice_get P.methods m)) ts))
    SuitedAct (W.Acquire s) G ts = (under_types ts ≡ []) × TidyS P s × SuitedS s × G []
    SuitedAct (W.Release a) G ts = G ts
    SuitedAct W.Ret G ts = SuitsResult mark result ts
    SuitedAct W.Print G ts = G (under_types ts)
    SuitedAct W.Start G ts = G (under_types ts)

    -- the same of an item; a statement begins with no operand
    abbrev pub SuitedItem : Item → (List SlotType → Type 0) → List SlotType → Type 0
    SuitedItem (Ex e) G ts = TidyE P e × SuitedE e × G (pushed_types e ts)
    SuitedItem (St s) G ts = (ts ≡ []) × TidyS P s × SuitedS s × G []
    SuitedItem (Act a) G ts = SuitedAct a G ts

    -- a list of work is suited
    abbrev pub Suited : List Item → List SlotType → Type 0
    Suited [] ts = Unit {0}
    Suited (i ∷ more) ts = SuitedItem i (Suited more) ts

    -- a next action is suited, with what stands after it
    abbrev pub SuitedNext : Next → List SlotType → Type 0
    SuitedNext next ts = SuitedAct next.0 (Suited next.1) ts

    -- the same where there is one
    abbrev pub SuitedOpens : Option Next → List SlotType → Type 0
    SuitedOpens None ts = Unit {0}
    SuitedOpens (Some next) ts = SuitedNext next ts
