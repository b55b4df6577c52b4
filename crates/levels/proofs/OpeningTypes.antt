-- Unfolding keeps that a list of work is suited.
use Rattle.std.proofs.Common.{◌≡◌, ℕ, suc, ◌+◌, true, false, List, [], ◌∷◌, ◌++◌, Some, None, refl, sym, ap, subst, ◌∙◌, arith, append-nil}
use Rattle.std.specs.Prelude.{Option, slice_get, if◌then◌else◌}
use Rattle.core_program.specs.declared.types.CoreType.{CoreType}
use Rattle.core_program.specs.declared.types.CoreType.TheVariants as type
use Rattle.core_program.specs.declared.types.UnaryOp.TheVariants.{Not, Neg}
use Rattle.core_program.specs.Core.{Program, Expr, Exprs, IntE, TruthE, NullE, ThisE, VarE, NotE, NegE, BinaryE, AndE, OrE, GetE, CallE, NewE, no_exprs, and_expr}
use Rattle.core_program.specs.Core.{Stmt, Stmts, EmptyS, BlockS, LocalS, SetVarS, SetFieldS, DoS, IfS, WhileS, SyncS, ReturnS, PrintS, StartS, no_stmts, and_stmt}
use Rattle.core_program.specs.Types.{field_type}
use Rattle.state.specs.declared.value.Address.{Address}
use Rattle.state.specs.Work as W
use Rattle.state.specs.Work.{Action, Item, Ex, St, Act, Next, exprs_items, stmts_items, gets, open_expr, open_new, open_stmt, open_block, opened, first_release, open_return, settled, settled_some, unfolded}
use Rattle.semantics.specs.Step.{has_result}
use Rattle.reduction.specs.Fits.{arity_of, final_field_count, argument_count, valued, TidyE, TidyEach, TidyS, TidyBlock}
use Rattle.levels.specs.SlotTypes.{SlotType, result_slot_type, taken_by_method, taken_by_new, expression_type, SuitEach, under_types, taken_types, dropped_types}
use Rattle.levels.specs.Suited.{brought, SuitsResult, SuitedE, SuitedEach, pushed_types, SuitedS, SuitedBlock, SuitedAct, Suited, SuitedNext, SuitedOpens}

module _ (P : Program) (mark : ℕ → ℕ) (slots : List CoreType) where
  -- the types of arguments, in order, and pushed one after the other
  abbrev types_of : Exprs → List SlotType
  types_of no_exprs = []
  types_of (and_expr e es) = expression_type P slots e ∷ types_of es

  abbrev pushed_each : Exprs → List SlotType → List SlotType
  pushed_each no_exprs ts = ts
  pushed_each (and_expr e es) ts = pushed_each es (expression_type P slots e ∷ ts)

  taken_each : (es : Exprs) (j n : ℕ) (found ts : List SlotType) → n ≡ argument_count es + j → taken_types n found (pushed_each es ts) ≡ taken_types j (types_of es ++ found) ts
  taken_each no_exprs j n found ts is = ap (λ k. taken_types k found ts) (is ∙ none_more j)
    where
      none_more : (j : ℕ) → 0 + j ≡ j
      none_more j = omega arith
  taken_each (and_expr e es) j n found ts is = taken_each es (suc j) n found (expression_type P slots e ∷ ts) (is ∙ one_later (argument_count es) j)
    where
      one_later : (k j : ℕ) → 1 + k + j ≡ k + suc j
      one_later k j = omega arith

  dropped_each : (es : Exprs) (j n : ℕ) (ts : List SlotType) → n ≡ argument_count es + j → dropped_types n (pushed_each es ts) ≡ dropped_types j ts
  dropped_each no_exprs j n ts is = ap (λ k. dropped_types k ts) (is ∙ none_more j)
    where
      none_more : (j : ℕ) → 0 + j ≡ j
      none_more j = omega arith
  dropped_each (and_expr e es) j n ts is = dropped_each es (suc j) n (expression_type P slots e ∷ ts) (is ∙ one_later (argument_count es) j)
    where
      one_later : (k j : ℕ) → 1 + k + j ≡ k + suc j
      one_later k j = omega arith

  no_more : (n k : ℕ) → n ≡ k → n ≡ k + 0
  no_more n k e = omega (arith, e)

  taken_all : (es : Exprs) (n : ℕ) (ts : List SlotType) → n ≡ argument_count es → taken_types n [] (pushed_each es ts) ≡ types_of es
  taken_all es n ts is = taken_each es 0 n [] ts (no_more n (argument_count es) is) ∙ append-nil (types_of es)

  dropped_all : (es : Exprs) (n : ℕ) (ts : List SlotType) → n ≡ argument_count es → dropped_types n (pushed_each es ts) ≡ ts
  dropped_all es n ts is = dropped_each es 0 n ts (no_more n (argument_count es) is)

  each_suits : (es : Exprs) (ws : List CoreType) → SuitedEach P mark slots es ws → SuitEach mark (types_of es) ws
  each_suits no_exprs [] s = tt
  each_suits no_exprs (w ∷ ws) s = absurd s
  each_suits (and_expr e es) [] s = absurd s
  each_suits (and_expr e es) (w ∷ ws) s = (s.1, each_suits es ws s.2)

  pub on_pushed : (Q : List SlotType → Type 0) (e : Expr) (ts : List SlotType) → valued P e ≡ true → Q (expression_type P slots e ∷ ts) → Q (pushed_types P mark slots e ts)
  on_pushed Q e ts is q = subst Q (sym (ap (λ b. if b then expression_type P slots e ∷ ts else ts) is)) q

  -- a call that leaves an operand leaves its result
  call_brings : (o : Option Rattle.core_program.specs.Core.Method) (ts : List SlotType) → (if has_result o then result_slot_type o ∷ ts else ts) ≡ brought (result_slot_type o) ++ ts
  call_brings None ts = refl
  call_brings (Some m) ts = by_result m.result
    where
      by_result : (r : Option CoreType) → (if Rattle.std.specs.Prelude.is_some r then r ∷ ts else ts) ≡ brought r ++ ts
      by_result None = refl
      by_result (Some t) = refl

  module _ (result : Option CoreType) where
    exprs_open : (es : Exprs) (work : List Item) (ts : List SlotType) (ws : List CoreType) → TidyEach P es → SuitedEach P mark slots es ws → Suited P mark slots result work (pushed_each es ts) → Suited P mark slots result (exprs_items es work) ts
    exprs_open no_exprs work ts ws tidy s r = r
    exprs_open (and_expr e es) work ts [] tidy s r = absurd s
    exprs_open (and_expr e es) work ts (w ∷ ws) tidy s r = (
      tidy.1,
      s.0,
      on_pushed (λ z. Suited P mark slots result (exprs_items es work) z) e ts tidy.0 (exprs_open es work (expression_type P slots e ∷ ts) ws tidy.2 s.2 r),
    )

    call_suited : (e : Expr) (m : ℕ) (args : Exprs) (more : List Item) (ts : List SlotType) → arity_of (slice_get P.methods m) ≡ argument_count args → SuitedEach P mark slots args (taken_by_method (slice_get P.methods m))
        → Suited P mark slots result more (pushed_types P mark slots (CallE e m args) ts) → Suited P mark slots result (Act (W.Call m) ∷ more) (pushed_each args (expression_type P slots e ∷ ts))
    call_suited e m args more ts count s r =
        let n = arity_of (slice_get P.methods m) in (
          subst (λ z. SuitEach mark z (taken_by_method (slice_get P.methods m))) (sym (taken_all args (arity_of (slice_get P.methods m)) (expression_type P slots e ∷ ts) count)) (each_suits args (taken_by_method (slice_get P.methods m)) s),
          subst (λ z. Suited P mark slots result more (brought (result_slot_type (slice_get P.methods m)) ++ under_types z)) (sym (dropped_all args (arity_of (slice_get P.methods m)) (expression_type P slots e ∷ ts) count))
              (subst (λ z. Suited P mark slots result more z) (call_brings (slice_get P.methods m) ts) r),
        )

    new_suited : (c : ℕ) (args : Exprs) (more : List Item) (ts : List SlotType) → final_field_count (slice_get P.classes c) ≡ argument_count args → SuitedEach P mark slots args (taken_by_new P (slice_get P.classes c))
        → Suited P mark slots result more (Some (type.Class c) ∷ ts) → Suited P mark slots result (Act (W.New c) ∷ more) (pushed_each args ts)
    new_suited c args more ts count s r = (
      subst (λ z. SuitEach mark z (taken_by_new P (slice_get P.classes c))) (sym (taken_all args (final_field_count (slice_get P.classes c)) ts count)) (each_suits args (taken_by_new P (slice_get P.classes c)) s),
      subst (λ z. Suited P mark slots result more (Some (type.Class c) ∷ z)) (sym (dropped_all args (final_field_count (slice_get P.classes c)) ts count)) r,
    )

    mutual
      expr_opens : (e : Expr) (more : List Item) (ts : List SlotType) → TidyE P e → SuitedE P mark slots e → Suited P mark slots result more (pushed_types P mark slots e ts) → SuitedNext P mark slots result (open_expr e more) ts
      expr_opens (IntE n) more ts tidy s r = (tt, r)
      expr_opens (TruthE b) more ts tidy s r = (tt, r)
      expr_opens NullE more ts tidy s r = (tt, r)
      expr_opens ThisE more ts tidy s r = r
      expr_opens (VarE x is_final ty) more ts tidy s r = r
      expr_opens (NotE e) more ts tidy s r = expr_opens e (Act (W.Unary Not) ∷ more) ts tidy.1 s (on_pushed (λ z. Suited P mark slots result more (None ∷ under_types z)) e ts tidy.0 r)
      expr_opens (NegE e) more ts tidy s r = expr_opens e (Act (W.Unary Neg) ∷ more) ts tidy.1 s (on_pushed (λ z. Suited P mark slots result more (None ∷ under_types z)) e ts tidy.0 r)
      expr_opens (BinaryE op a b) more ts tidy s r = expr_opens a (Ex b ∷ Act (W.Binary op) ∷ more) ts tidy.1 s.0 (
        tidy.3,
        s.1,
        on_pushed (λ z. Suited P mark slots result more (None ∷ under_types (under_types z))) b (pushed_types P mark slots a ts) tidy.2
            (on_pushed (λ z. Suited P mark slots result more (None ∷ under_types z)) a ts tidy.0 r),
      )
      expr_opens (AndE a b) more ts tidy s r = expr_opens a (Act (W.AndThen b) ∷ more) ts tidy.1 s.0 (tidy.2, tidy.3, s.1, on_pushed (λ z. Suited P mark slots result more (expression_type P slots b ∷ under_types z)) a ts tidy.0 r)
      expr_opens (OrE a b) more ts tidy s r = expr_opens a (Act (W.OrElse b) ∷ more) ts tidy.1 s.0 (tidy.2, tidy.3, s.1, on_pushed (λ z. Suited P mark slots result more (expression_type P slots b ∷ under_types z)) a ts tidy.0 r)
      expr_opens (GetE e f) more ts tidy s r = expr_opens e (Act (W.Get f) ∷ more) ts tidy.1 s (on_pushed (λ z. Suited P mark slots result more (field_type (slice_get P.fields f) ∷ under_types z)) e ts tidy.0 r)
      expr_opens (CallE e m args) more ts tidy s r = expr_opens e (exprs_items args (Act (W.Call m) ∷ more)) ts tidy.1 s.0
          (on_pushed (λ z. Suited P mark slots result (exprs_items args (Act (W.Call m) ∷ more)) z) e ts tidy.0
          (exprs_open args (Act (W.Call m) ∷ more) (expression_type P slots e ∷ ts) (taken_by_method (slice_get P.methods m)) tidy.2 s.1 (call_suited e m args more ts tidy.3 s.1 r)))
      expr_opens (NewE c args) more ts tidy s r = new_opens c args more ts (taken_by_new P (slice_get P.classes c)) tidy.0 s (new_suited c args more ts tidy.1 s r)

      new_opens : (c : ℕ) (args : Exprs) (more : List Item) (ts : List SlotType) (ws : List CoreType) → TidyEach P args → SuitedEach P mark slots args ws → Suited P mark slots result (Act (W.New c) ∷ more) (pushed_each args ts) → SuitedNext P mark slots result (open_new c args more) ts
      new_opens c no_exprs more ts ws tidy s r = r
      new_opens c (and_expr e es) more ts [] tidy s r = absurd s
      new_opens c (and_expr e es) more ts (w ∷ ws) tidy s r = expr_opens e (exprs_items es (Act (W.New c) ∷ more)) ts tidy.1 s.0
          (on_pushed (λ z. Suited P mark slots result (exprs_items es (Act (W.New c) ∷ more)) z) e ts tidy.0 (exprs_open es (Act (W.New c) ∷ more) (expression_type P slots e ∷ ts) ws tidy.2 s.2 r))

    stmts_open : (ss : Stmts) (more : List Item) → TidyBlock P ss → SuitedBlock P mark slots result ss → Suited P mark slots result more [] → Suited P mark slots result (stmts_items ss more) []
    stmts_open no_stmts more tidy s r = r
    stmts_open (and_stmt st ss) more tidy s r = (refl, tidy.0, s.0, stmts_open ss more tidy.2 s.1 r)

    -- the reads of a lock's fields leave one operand
    gets_open : (fs : List ℕ) (first : SlotType) (st : Stmt) (more : List Item) → TidyS P st → SuitedS P mark slots result st → Suited P mark slots result more [] → Suited P mark slots result (gets fs (Act (W.Acquire st) ∷ more)) (first ∷ [])
    gets_open [] first st more tidy s r = (refl, tidy, s, r)
    gets_open (f ∷ fs) first st more tidy s r = gets_open fs (field_type (slice_get P.fields f)) st more tidy s r

    value_opens : (e : Expr) (action : Action) (more : List Item) → valued P e ≡ true → TidyE P e → SuitedE P mark slots e → SuitedAct P mark slots result action (Suited P mark slots result more) (expression_type P slots e ∷ []) → SuitedNext P mark slots result (open_expr e (Act action ∷ more)) []
    value_opens e action more is tidy s r = expr_opens e (Act action ∷ more) [] tidy s (on_pushed (λ z. Suited P mark slots result (Act action ∷ more) z) e [] is r)

    mutual
      stmt_opens : (st : Stmt) (more : List Item) (next : Option Next) → TidyS P st → SuitedS P mark slots result st → Suited P mark slots result more [] → SuitedOpens P mark slots result next [] → SuitedOpens P mark slots result (open_stmt st more next) []
      stmt_opens EmptyS more next tidy s r o = o
      stmt_opens (BlockS ss) more next tidy s r o = block_opens ss more next tidy s r o
      stmt_opens (LocalS x is_final ty e) more next tidy s r o = value_opens e (W.Store x) more tidy.0 tidy.1 s.0 (s.1, r)
      stmt_opens (SetVarS x e) more next tidy s r o = value_opens e (W.Store x) more tidy.0 tidy.1 s.0 (s.1, r)
      stmt_opens (SetFieldS e f g) more next tidy s r o = expr_opens e (Ex g ∷ Act (W.Put f) ∷ more) [] tidy.1 s.0 (
        tidy.3,
        s.1,
        on_pushed (λ z. Suited P mark slots result (Act (W.Put f) ∷ more) z) g (pushed_types P mark slots e []) tidy.2
            (s.2, on_pushed (λ z. Suited P mark slots result more (under_types z)) e [] tidy.0 r),
      )
      stmt_opens (DoS e true) more next tidy s r o = value_opens e W.Drop more (sym tidy.0) tidy.1 s r
      stmt_opens (DoS e false) more next tidy s r o = expr_opens e more [] tidy.1 s (subst (λ z. Suited P mark slots result more z) (ap (λ b. if b then expression_type P slots e ∷ [] else []) tidy.0) r)
      stmt_opens (IfS c s t) more next tidy suits r o = value_opens c (W.Choose s t) more tidy.0 tidy.1 suits.0 (refl, tidy.2, suits.1, tidy.3, suits.2, r)
      stmt_opens (WhileS c s) more next tidy suits r o = value_opens c (W.Loop c s) more tidy.0 tidy.1 suits.0 (refl, tidy.0, tidy.1, suits.0, tidy.2, suits.1, r)
      stmt_opens (SyncS p s) more next tidy suits r o = gets_open p.fields (slice_get slots p.root) s more tidy.3 suits r
      stmt_opens (ReturnS None) more next tidy s r o = s
      stmt_opens (ReturnS (Some e)) more next tidy s r o = value_opens e W.Ret more tidy.0 tidy.1 s.0 s.1
      stmt_opens (PrintS e) more next tidy s r o = value_opens e W.Print more tidy.0 tidy.1 s r
      stmt_opens (StartS e) more next tidy s r o = value_opens e W.Start more tidy.0 tidy.1 s r

      block_opens : (ss : Stmts) (more : List Item) (next : Option Next) → TidyBlock P ss → SuitedBlock P mark slots result ss → Suited P mark slots result more [] → SuitedOpens P mark slots result next [] → SuitedOpens P mark slots result (open_block ss more next) []
      block_opens no_stmts more next tidy s r o = o
      block_opens (and_stmt st ss) more next tidy s r o = stmt_opens st (stmts_items ss more) (open_block ss more next) tidy.0 s.0 (stmts_open ss more tidy.2 s.1 r) (block_opens ss more next tidy.2 s.1 r o)

    work_opens : (work : List Item) (ts : List SlotType) → Suited P mark slots result work ts → SuitedOpens P mark slots result (opened work) ts
    work_opens [] ts r = tt
    work_opens (Ex e ∷ more) ts r = expr_opens e more ts r.0 r.1 r.2
    work_opens (St st ∷ more) ts r = subst (λ z. SuitedOpens P mark slots result (open_stmt st more (opened more)) z) (sym r.0) (stmt_opens st more (opened more) r.1 r.2 r.3 (work_opens more [] r.3))
    work_opens (Act a ∷ more) ts r = r

    return_opens : (later : Option (Address × List Item)) (more : List Item) (ts : List SlotType) → SuitsResult mark result ts → SuitedNext P mark slots result (open_return later more) ts
    return_opens None more ts r = r
    return_opens (Some later) more ts r = r

    settles : (a : Action) (more : List Item) (ts : List SlotType) → SuitedNext P mark slots result (a, more) ts → SuitedNext P mark slots result (settled (a, more)) ts
    settles (W.Push v) more ts r = r
    settles (W.Load x) more ts r = r
    settles (W.Store x) more ts r = r
    settles W.Drop more ts r = r
    settles (W.Unary op) more ts r = r
    settles (W.Binary op) more ts r = r
    settles (W.AndThen e) more ts r = r
    settles (W.OrElse e) more ts r = r
    settles (W.Choose s t) more ts r = r
    settles (W.Loop c s) more ts r = r
    settles (W.Get f) more ts r = r
    settles (W.Put f) more ts r = r
    settles (W.New c) more ts r = r
    settles (W.Call m) more ts r = r
    settles (W.Acquire s) more ts r = r
    settles (W.Release a) more ts r = r
    settles W.Ret more ts r = return_opens (first_release more) more ts r
    settles W.Print more ts r = r
    settles W.Start more ts r = r

    some_settles : (o : Option Next) (ts : List SlotType) → SuitedOpens P mark slots result o ts → SuitedOpens P mark slots result (settled_some o) ts
    some_settles None ts r = tt
    some_settles (Some next) ts r = settles next.0 next.1 ts r

    -- what a suited list unfolds into is suited
    pub unfolds : (work : List Item) (ts : List SlotType) → Suited P mark slots result work ts → SuitedOpens P mark slots result (unfolded work) ts
    unfolds work ts r = some_settles (opened work) ts (work_opens work ts r)
