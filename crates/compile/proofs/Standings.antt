-- Each part's entry stands for the part, to every depth.
use Rattle.std.proofs.Common.{◌≡◌, ℕ, zero, suc, ◌+◌, List, [], ◌∷◌, ◌++◌, length, refl, ap, subst, arith}
use Rattle.std.specs.Prelude.{Bool, true, false, Some, None, slice_get, is_some}
use Rattle.core_program.specs.Core.{Method, Expr, Exprs, IntE, TruthE, NullE, ThisE, VarE, NotE, NegE, BinaryE, AndE, OrE, GetE, CallE, NewE, no_exprs, and_expr}
use Rattle.core_program.specs.Core.{Stmt, Stmts, EmptyS, BlockS, LocalS, SetVarS, SetFieldS, DoS, IfS, WhileS, SyncS, ReturnS, PrintS, StartS, no_stmts, and_stmt}
use Rattle.state.specs.declared.value.Address.{Address}
use Rattle.core_program.specs.declared.types.UnaryOp.TheVariants as unary
use Rattle.state.specs.declared.value.Value.TheVariants as value
use Rattle.state.specs.Work as W
use Rattle.state.specs.Work.{Item, Ex, St, Act, unfolded, opened, open_stmt, open_block, settled_some, exprs_items, stmts_items, gets, first_release}
use Rattle.compile.specs.declared.stack.Instr.TheVariants as i
use Rattle.compile.specs.declared.stack.Code.{Code}
use Rattle.compile.specs.Standing.{StandsTo, Stands}
use Rattle.compile.specs.Emission.{code_line, weight, weights, expr_entry, exprs_entry, gets_entry, emitted, emitted_args, emitted_gets, stmt_weight, stmts_weight, stmt_entry, stmts_entry, emitted_stmt, emitted_stmts, emitted_method, first_line_of_method}
use Rattle.compile.proofs.Depth.{fewer, same_work, at_line, return_with}
use Rattle.compile.proofs.Lengths.{HasAt, split, length_emitted, length_args, length_gets, length_stmt, length_stmts}

-- arguments and a `new` open as the `new` does
new_opened : (c : ℕ) (args : Exprs) (more : List Item) → unfolded (exprs_items args (Act (W.New c) ∷ more)) ≡ unfolded (Ex (NewE c args) ∷ more)
new_opened c no_exprs more = refl
new_opened c (and_expr e es) more = refl

-- the statements of a block open as the block does
block_opened : (ss : Stmts) (more : List Item) → opened (stmts_items ss more) ≡ open_block ss more (opened more)
block_opened no_stmts more = refl
block_opened (and_stmt s ss) more = ap (open_stmt s (stmts_items ss more)) (block_opened ss more)

-- statements have no release of their own
release_past : (ss : Stmts) (more : List Item) → first_release more ≡ first_release (stmts_items ss more)
release_past no_stmts more = refl
release_past (and_stmt s ss) more = release_past ss more

module _ (result : Bool) (code : List Code) where
  abbrev T : ℕ → ℕ → List Address → List Item → Type 0
  T n place taken work = StandsTo result code n place taken work

  mutual
    expr_stands : (e : Expr) (n at next : ℕ) (taken : List Address) (more : List Item) → HasAt code at (emitted e at next)
        → T n next taken more → T n (expr_entry e at next) taken (Ex e ∷ more)
    expr_stands (IntE x) n at next taken more h k = at_line result code n at taken (Ex (IntE x) ∷ more) _ (W.Push (value.Int x)) more h.0 refl (refl, k)
    expr_stands (TruthE b) n at next taken more h k = at_line result code n at taken (Ex (TruthE b) ∷ more) _ (W.Push (value.Truth b)) more h.0 refl (refl, k)
    expr_stands NullE n at next taken more h k = at_line result code n at taken (Ex NullE ∷ more) _ (W.Push value.Null) more h.0 refl (refl, k)
    expr_stands ThisE n at next taken more h k = at_line result code n at taken (Ex ThisE ∷ more) _ (W.Load 0) more h.0 refl (refl, k)
    expr_stands (VarE x is_final ty) n at next taken more h k = at_line result code n at taken (Ex (VarE x is_final ty) ∷ more) _ (W.Load x) more h.0 refl (refl, k)
    expr_stands (NotE e) n at next taken more h k =
        same_work result code n _ taken (Ex e ∷ Act (W.Unary unary.Not) ∷ more) (Ex (NotE e) ∷ more) refl (expr_stands e n (at + 1) at taken (Act (W.Unary unary.Not) ∷ more) h.1
        (at_line result code n at taken (Act (W.Unary unary.Not) ∷ more) _ (W.Unary unary.Not) more h.0 refl (refl, k)))
    expr_stands (NegE e) n at next taken more h k =
        same_work result code n _ taken (Ex e ∷ Act (W.Unary unary.Neg) ∷ more) (Ex (NegE e) ∷ more) refl (expr_stands e n (at + 1) at taken (Act (W.Unary unary.Neg) ∷ more) h.1
        (at_line result code n at taken (Act (W.Unary unary.Neg) ∷ more) _ (W.Unary unary.Neg) more h.0 refl (refl, k)))
    expr_stands (BinaryE op a b) n at next taken more h k =
        let length_b = length_emitted b (at + 1) at in
        let parts = split code (at + 1) (at + 1 + weight b) (emitted b (at + 1) at) (emitted a (at + 1 + weight b) (expr_entry b (at + 1) at)) (omega arith) h.1 in
        same_work result code n _ taken (Ex a ∷ Ex b ∷ Act (W.Binary op) ∷ more) (Ex (BinaryE op a b) ∷ more) refl
        (expr_stands a n (at + 1 + weight b) (expr_entry b (at + 1) at) taken (Ex b ∷ Act (W.Binary op) ∷ more) parts.1
        (expr_stands b n (at + 1) at taken (Act (W.Binary op) ∷ more) parts.0
        (at_line result code n at taken (Act (W.Binary op) ∷ more) _ (W.Binary op) more h.0 refl (refl, k))))
    expr_stands (AndE a b) n at next taken more h k =
        let length_b = length_emitted b at next in
        let parts = split code at (at + weight b) (emitted b at next) (code_line (i.AndThen (expr_entry b at next)) next ∷ emitted a (at + weight b + 1) (at + weight b)) (omega arith) h in
        same_work result code n _ taken (Ex a ∷ Act (W.AndThen b) ∷ more) (Ex (AndE a b) ∷ more) refl
        (expr_stands a n (at + weight b + 1) (at + weight b) taken (Act (W.AndThen b) ∷ more) parts.1.1
        (at_line result code n (at + weight b) taken (Act (W.AndThen b) ∷ more) _ (W.AndThen b) more parts.1.0 refl (expr_entry b at next, refl, k, expr_stands b n at next taken more parts.0 k)))
    expr_stands (OrE a b) n at next taken more h k =
        let length_b = length_emitted b at next in
        let parts = split code at (at + weight b) (emitted b at next) (code_line (i.OrElse (expr_entry b at next)) next ∷ emitted a (at + weight b + 1) (at + weight b)) (omega arith) h in
        same_work result code n _ taken (Ex a ∷ Act (W.OrElse b) ∷ more) (Ex (OrE a b) ∷ more) refl
        (expr_stands a n (at + weight b + 1) (at + weight b) taken (Act (W.OrElse b) ∷ more) parts.1.1
        (at_line result code n (at + weight b) taken (Act (W.OrElse b) ∷ more) _ (W.OrElse b) more parts.1.0 refl (expr_entry b at next, refl, k, expr_stands b n at next taken more parts.0 k)))
    expr_stands (GetE e f) n at next taken more h k =
        same_work result code n _ taken (Ex e ∷ Act (W.Get f) ∷ more) (Ex (GetE e f) ∷ more) refl (expr_stands e n (at + 1) at taken (Act (W.Get f) ∷ more) h.1
        (at_line result code n at taken (Act (W.Get f) ∷ more) _ (W.Get f) more h.0 refl (refl, k)))
    expr_stands (CallE e m args) n at next taken more h k =
        let length_a = length_args args (at + 1) at in
        let parts = split code (at + 1) (at + 1 + weights args) (emitted_args args (at + 1) at) (emitted e (at + 1 + weights args) (exprs_entry args (at + 1) at)) (omega arith) h.1 in
        same_work result code n _ taken (Ex e ∷ exprs_items args (Act (W.Call m) ∷ more)) (Ex (CallE e m args) ∷ more) refl
        (expr_stands e n (at + 1 + weights args) (exprs_entry args (at + 1) at) taken (exprs_items args (Act (W.Call m) ∷ more)) parts.1
        (args_stand args n (at + 1) at taken (Act (W.Call m) ∷ more) parts.0
        (at_line result code n at taken (Act (W.Call m) ∷ more) _ (W.Call m) more h.0 refl (refl, k))))
    expr_stands (NewE c args) n at next taken more h k =
        same_work result code n _ taken (exprs_items args (Act (W.New c) ∷ more)) (Ex (NewE c args) ∷ more) (new_opened c args more)
        (args_stand args n (at + 1) at taken (Act (W.New c) ∷ more) h.1
        (at_line result code n at taken (Act (W.New c) ∷ more) _ (W.New c) more h.0 refl (refl, k)))

    args_stand : (es : Exprs) (n at next : ℕ) (taken : List Address) (more : List Item) → HasAt code at (emitted_args es at next)
        → T n next taken more → T n (exprs_entry es at next) taken (exprs_items es more)
    args_stand no_exprs n at next taken more h k = k
    args_stand (and_expr e es) n at next taken more h k =
        let length_es = length_args es at next in
        let parts = split code at (at + weights es) (emitted_args es at next) (emitted e (at + weights es) (exprs_entry es at next)) (omega arith) h in
        expr_stands e n (at + weights es) (exprs_entry es at next) taken (exprs_items es more) parts.1 (args_stand es n at next taken more parts.0 k)

  gets_stand : (fs : List ℕ) (n at next : ℕ) (taken : List Address) (more : List Item) → HasAt code at (emitted_gets fs at next)
      → T n next taken more → T n (gets_entry fs at next) taken (gets fs more)
  gets_stand [] n at next taken more h k = k
  gets_stand (f ∷ fs) n at next taken more h k =
      let length_fs = length_gets fs at next in
      let parts = split code at (at + length fs) (emitted_gets fs at next) (code_line (i.Get f) (gets_entry fs at next) ∷ []) (omega arith) h in
      at_line result code n (at + length fs) taken (gets (f ∷ fs) more) _ (W.Get f) (gets fs more) parts.1.0 refl (refl, gets_stand fs n at next taken more parts.0 k)

  -- a loop, from its condition and its body at every depth
  loop_stands : (c : Expr) (s : Stmt) (n at entry first next ret : ℕ) (taken : List Address) (more : List Item)
      → slice_get code at ≡ Some (code_line (i.Branch next) first)
      → ((m : ℕ) → T m at taken (Act (W.Loop c s) ∷ more) → T m entry taken (Ex c ∷ Act (W.Loop c s) ∷ more))
      → ((m : ℕ) → T m entry taken (St (WhileS c s) ∷ more) → T m ret taken (Act W.Ret ∷ St (WhileS c s) ∷ more) → T m first taken (St s ∷ St (WhileS c s) ∷ more))
      → T n next taken more → T n ret taken (Act W.Ret ∷ more) → T n entry taken (St (WhileS c s) ∷ more)
  loop_stands c s zero at entry first next ret taken more there cond body k r = tt
  loop_stands c s (suc n) at entry first next ret taken more there cond body k r =
      let k' = fewer result code n next taken more k in
      let r' = fewer result code n ret taken (Act W.Ret ∷ more) r in
      let again = loop_stands c s n at entry first next ret taken more there cond body k' r' in
      let turn : T (suc n) at taken (Act (W.Loop c s) ∷ more) = record {
        line = code_line (i.Branch next) first;
        there = there;
        action = W.Loop c s;
        rest = more;
        next = refl;
        agree = (next, refl, body n again (return_with result code n ret taken more (St (WhileS c s) ∷ more) refl r'), k');
      } in
      same_work result code (suc n) entry taken (Ex c ∷ Act (W.Loop c s) ∷ more) (St (WhileS c s) ∷ more) refl (cond (suc n) turn)

  mutual
    stmt_stands : (s : Stmt) (n at next ret : ℕ) (taken : List Address) (more : List Item) → HasAt code at (emitted_stmt s at next ret)
        → T n next taken more → T n ret taken (Act W.Ret ∷ more) → T n (stmt_entry s at next ret) taken (St s ∷ more)
    stmt_stands EmptyS n at next ret taken more h k r = same_work result code n _ taken more (St EmptyS ∷ more) refl k
    stmt_stands (BlockS ss) n at next ret taken more h k r =
        same_work result code n _ taken (stmts_items ss more) (St (BlockS ss) ∷ more) (ap settled_some (block_opened ss more)) (stmts_stand ss n at next ret taken more h k r)
    stmt_stands (LocalS x is_final ty e) n at next ret taken more h k r =
        same_work result code n _ taken (Ex e ∷ Act (W.Store x) ∷ more) (St (LocalS x is_final ty e) ∷ more) refl (expr_stands e n (at + 1) at taken (Act (W.Store x) ∷ more) h.1
        (at_line result code n at taken (Act (W.Store x) ∷ more) _ (W.Store x) more h.0 refl (refl, k)))
    stmt_stands (SetVarS x e) n at next ret taken more h k r =
        same_work result code n _ taken (Ex e ∷ Act (W.Store x) ∷ more) (St (SetVarS x e) ∷ more) refl (expr_stands e n (at + 1) at taken (Act (W.Store x) ∷ more) h.1
        (at_line result code n at taken (Act (W.Store x) ∷ more) _ (W.Store x) more h.0 refl (refl, k)))
    stmt_stands (SetFieldS a f b) n at next ret taken more h k r =
        let length_b = length_emitted b (at + 1) at in
        let parts = split code (at + 1) (at + 1 + weight b) (emitted b (at + 1) at) (emitted a (at + 1 + weight b) (expr_entry b (at + 1) at)) (omega arith) h.1 in
        same_work result code n _ taken (Ex a ∷ Ex b ∷ Act (W.Put f) ∷ more) (St (SetFieldS a f b) ∷ more) refl
        (expr_stands a n (at + 1 + weight b) (expr_entry b (at + 1) at) taken (Ex b ∷ Act (W.Put f) ∷ more) parts.1
        (expr_stands b n (at + 1) at taken (Act (W.Put f) ∷ more) parts.0
        (at_line result code n at taken (Act (W.Put f) ∷ more) _ (W.Put f) more h.0 refl (refl, k))))
    stmt_stands (DoS e true) n at next ret taken more h k r =
        same_work result code n _ taken (Ex e ∷ Act W.Drop ∷ more) (St (DoS e true) ∷ more) refl (expr_stands e n (at + 1) at taken (Act W.Drop ∷ more) h.1
        (at_line result code n at taken (Act W.Drop ∷ more) _ W.Drop more h.0 refl (refl, k)))
    stmt_stands (DoS e false) n at next ret taken more h k r =
        same_work result code n _ taken (Ex e ∷ more) (St (DoS e false) ∷ more) refl (expr_stands e n at next taken more h k)
    stmt_stands (IfS c s t) n at next ret taken more h k r =
        let wt = stmt_weight t in let ws = stmt_weight s in
        let length_t = length_stmt t at next ret in
        let length_s = length_stmt s (at + wt) next ret in
        let other = stmt_entry t at next ret in
        let first = stmt_entry s (at + wt) next ret in
        let test = code_line (i.Branch other) first ∷ emitted c (at + wt + ws + 1) (at + wt + ws) in
        let parts = split code at (at + wt) (emitted_stmt t at next ret) (emitted_stmt s (at + wt) next ret ++ test) (omega arith) h in
        let later = split code (at + wt) (at + wt + ws) (emitted_stmt s (at + wt) next ret) test (omega arith) parts.1 in
        same_work result code n _ taken (Ex c ∷ Act (W.Choose s t) ∷ more) (St (IfS c s t) ∷ more) refl
        (expr_stands c n (at + wt + ws + 1) (at + wt + ws) taken (Act (W.Choose s t) ∷ more) later.1.1
        (at_line result code n (at + wt + ws) taken (Act (W.Choose s t) ∷ more) _ (W.Choose s t) more later.1.0 refl
        (other, refl, stmt_stands s n (at + wt) next ret taken more later.0 k r, stmt_stands t n at next ret taken more parts.0 k r)))
    stmt_stands (WhileS c s) n at next ret taken more h k r =
        let wc = weight c in
        let entry = expr_entry c (at + 1) at in
        let length_c = length_emitted c (at + 1) at in
        let parts = split code (at + 1) (at + 1 + wc) (emitted c (at + 1) at) (emitted_stmt s (at + 1 + wc) entry ret) (omega arith) h.1 in
        loop_stands c s n at entry (stmt_entry s (at + 1 + wc) entry ret) next ret taken more h.0
        (λ m turn. expr_stands c m (at + 1) at taken (Act (W.Loop c s) ∷ more) parts.0 turn)
        (λ m again returns. stmt_stands s m (at + 1 + wc) entry ret taken (St (WhileS c s) ∷ more) parts.1 again returns) k r
    stmt_stands (SyncS p s) n at next ret taken more h k r =
        let ws = stmt_weight s in
        let first = stmt_entry s (at + 2) at (at + 1) in
        let acquire = at + 2 + ws in
        let reads = gets_entry p.fields (acquire + 1) acquire in
        let length_s = length_stmt s (at + 2) at (at + 1) in
        let length_f = length_gets p.fields (acquire + 1) acquire in
        let load = code_line (i.Load p.root) reads ∷ [] in
        let after = code_line i.Acquire first ∷ (emitted_gets p.fields (acquire + 1) acquire ++ load) in
        let two : at + 1 + 1 ≡ at + 2 = omega arith in
        let from_body = subst (λ q. HasAt code q (emitted_stmt s (at + 2) at (at + 1) ++ after)) two h.1.1 in
        let parts = split code (at + 2) acquire (emitted_stmt s (at + 2) at (at + 1)) after (omega arith) from_body in
        let later = split code (acquire + 1) (acquire + 1 + length p.fields) (emitted_gets p.fields (acquire + 1) acquire) load (omega arith) parts.1.1 in
        let takes = at_line result code n acquire taken (Act (W.Acquire s) ∷ more) _ (W.Acquire s) more parts.1.0 refl (
          refl,
          λ a. stmt_stands s n (at + 2) at (at + 1) (a ∷ taken) (Act (W.Release a) ∷ more) parts.0
              (at_line result code n at (a ∷ taken) (Act (W.Release a) ∷ more) _ (W.Release a) more h.0 refl (taken, refl, refl, k))
              (at_line result code n (at + 1) (a ∷ taken) (Act W.Ret ∷ Act (W.Release a) ∷ more) _ (W.Release a) (Act W.Ret ∷ more) h.1.0 refl (taken, refl, refl, r)),
        ) in
        at_line result code n (acquire + 1 + length p.fields) taken (St (SyncS p s) ∷ more) _ (W.Load p.root) (gets p.fields (Act (W.Acquire s) ∷ more)) later.1.0 refl
        (refl, gets_stand p.fields n (acquire + 1) acquire taken (Act (W.Acquire s) ∷ more) later.0 takes)
    stmt_stands (ReturnS None) n at next ret taken more h k r = same_work result code n ret taken (Act W.Ret ∷ more) (St (ReturnS None) ∷ more) refl r
    stmt_stands (ReturnS (Some e)) n at next ret taken more h k r =
        same_work result code n _ taken (Ex e ∷ Act W.Ret ∷ more) (St (ReturnS (Some e)) ∷ more) refl (expr_stands e n at ret taken (Act W.Ret ∷ more) h r)
    stmt_stands (PrintS e) n at next ret taken more h k r =
        same_work result code n _ taken (Ex e ∷ Act W.Print ∷ more) (St (PrintS e) ∷ more) refl (expr_stands e n (at + 1) at taken (Act W.Print ∷ more) h.1
        (at_line result code n at taken (Act W.Print ∷ more) _ W.Print more h.0 refl (refl, k)))
    stmt_stands (StartS e) n at next ret taken more h k r =
        same_work result code n _ taken (Ex e ∷ Act W.Start ∷ more) (St (StartS e) ∷ more) refl (expr_stands e n (at + 1) at taken (Act W.Start ∷ more) h.1
        (at_line result code n at taken (Act W.Start ∷ more) _ W.Start more h.0 refl (refl, k)))

    stmts_stand : (ss : Stmts) (n at next ret : ℕ) (taken : List Address) (more : List Item) → HasAt code at (emitted_stmts ss at next ret)
        → T n next taken more → T n ret taken (Act W.Ret ∷ more) → T n (stmts_entry ss at next ret) taken (stmts_items ss more)
    stmts_stand no_stmts n at next ret taken more h k r = k
    stmts_stand (and_stmt s ss) n at next ret taken more h k r =
        let length_ss = length_stmts ss at next ret in
        let parts = split code at (at + stmts_weight ss) (emitted_stmts ss at next ret) (emitted_stmt s (at + stmts_weight ss) (stmts_entry ss at next ret) ret) (omega arith) h in
        stmt_stands s n (at + stmts_weight ss) (stmts_entry ss at next ret) ret taken (stmts_items ss more) parts.1
        (stmts_stand ss n at next ret taken more parts.0 k r)
        (return_with result code n ret taken more (stmts_items ss more) (release_past ss more) r)

-- a method's entry stands for its body and a return
pub method_stands : (method : Method) (code : List Code) (at : ℕ) → HasAt code at (emitted_method method at)
    → Stands (is_some method.result) code (first_line_of_method method at) [] (St method.body ∷ Act W.Ret ∷ [])
method_stands method code at h n =
    let result = is_some method.result in
    let ends = at_line result code n at [] (Act W.Ret ∷ []) _ W.Ret [] h.0 refl refl in
    let returns = at_line result code n at [] (Act W.Ret ∷ Act W.Ret ∷ []) _ W.Ret (Act W.Ret ∷ []) h.0 refl refl in
    stmt_stands result code method.body n (at + 1) at at [] (Act W.Ret ∷ []) h.1 ends returns
