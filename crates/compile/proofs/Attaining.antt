-- In the code of a typed program whose statements can all be reached, the room of a method is attained.
use Rattle.std.proofs.Common.{◌≡◌, ℕ, ◌+◌, ◌-◌, ◌≤◌, List, [], ◌∷◌, ◌++◌, length, refl, sym, ap, subst, ◌∙◌, arith}
use Rattle.std.specs.Prelude.{Bool, true, false, ◌&&◌, ◌||◌, max, nat_le, Option, Some, None, slice_get}
use Rattle.std.proofs.lemmas.Bool.{and_parts, leb-true, leb-false}
use Rattle.core_program.specs.declared.types.CoreType.{CoreType}
use Rattle.core_program.specs.Core.{Program, Method, Expr, Exprs, IntE, TruthE, NullE, ThisE, VarE, NotE, NegE, BinaryE, AndE, OrE, GetE, CallE, NewE, no_exprs, and_expr}
use Rattle.core_program.specs.Core.{Stmt, Stmts, EmptyS, BlockS, LocalS, SetVarS, SetFieldS, DoS, IfS, WhileS, SyncS, ReturnS, PrintS, StartS, no_stmts, and_stmt}
use Rattle.core_program.specs.Dispatch.{is_kind_of}
use Rattle.core_program.specs.Types.{NodeType, boolean_type, int_type, class_type, Variable, field_types, parameter_types, HasType, FitEach, HasFit}
use Rattle.core_program.specs.Typed.{IsTyped, IsTypedStmt, AreTypedStmts, IsResult, can_complete, completes_each}
use Rattle.compile.specs.declared.stack.Instr.{Instr}
use Rattle.compile.specs.declared.stack.Instr.TheVariants as i
use Rattle.compile.specs.declared.stack.Code.{Code}
use Rattle.compile.specs.Rooms.{arguments_of_new, arguments_of_call, after_call, with_result_of, at_next, other_place, ReachedPlace, at_start, goes_on, turns, expr_room, exprs_room, stmt_room, stmts_room, is_whole, are_whole, none_follow}
use Rattle.compile.specs.Emission.{code_line, weight, weights, expr_entry, exprs_entry, gets_entry, emitted, emitted_args, emitted_gets, stmt_weight, stmts_weight, stmt_entry, stmts_entry, emitted_stmt, emitted_stmts, emitted_method, first_line_of_method}
use Rattle.compile.proofs.Lengths.{HasAt, split, length_emitted, length_args, length_gets, length_stmt, length_stmts}
use Rattle.compile.proofs.Operands.{after, fits_value, binary_values, after_result, length_parameters, kept, void, finals_typed}

module _ (P : Program) (code : List Code) (start : ℕ) where
  -- some place is reached with so many operands or more
  abbrev pub Attains : ℕ → Type 0
  Attains n = (place : ℕ) × (m : ℕ) × ReachedPlace P code start place m × (n ≤ m)

  fewer : (n m : ℕ) → m ≤ n → Attains n → Attains m
  fewer n m le a = (a.0, a.1, a.2, let some = a.3 in omega arith)

  greater : (j k : ℕ) → Attains j → Attains k → Attains (max j k)
  greater j k a b =
      elim (nat_le j k) as (λ t. nat_le j k ≡ t → Attains (max j k)) [
        | true ↦ λ e. let le = leb-true j k e in fewer k (max j k) (omega arith) b
        | false ↦ λ e. let le = leb-false j k e in fewer j (max j k) (omega arith) a
      ] refl

  -- the same over so many operands that stand below
  above : (n j k : ℕ) → Attains (n + j) → Attains (n + k) → Attains (n + max j k)
  above n j k a b = fewer (max (n + j) (n + k)) (n + max j k) (omega arith) (greater (n + j) (n + k) a b)

  -- over none
  bare : (n : ℕ) → Attains (0 + n) → Attains n
  bare n a = fewer (0 + n) n (omega arith) a

  -- from a line to the next one
  step : (place n m m' next : ℕ) (instr : Instr) → ReachedPlace P code start place n → slice_get code place ≡ Some (code_line instr next) → at_next P instr n ≡ Some m → m ≡ m' → ReachedPlace P code start next m'
  step place n m m' next instr r there is same = subst (λ y. ReachedPlace P code start next y) same (goes_on place n m (code_line instr next) r there is)

  -- from a line to its other outcome
  turn : (place n n' other next : ℕ) (instr : Instr) → ReachedPlace P code start place n → slice_get code place ≡ Some (code_line instr next) → other_place instr ≡ Some other → n - 1 ≡ n' → ReachedPlace P code start other n'
  turn place n n' other next instr r there is same = subst (λ y. ReachedPlace P code start other y) same (turns place n other (code_line instr next) r there is)

  module _ (typed : IsTyped P) where
    module _ (class : ℕ) (scope : List Variable) where
      -- a leaf
      leaf : (T : NodeType) (at next n : ℕ) (instr : Instr) → after T n ≡ n + 1 → at_next P instr n ≡ Some (n + 1) → slice_get code at ≡ Some (code_line instr next) → ReachedPlace P code start at n
          → ReachedPlace P code start next (after T n) × Attains (n + 1)
      leaf T at next n instr is pushes there r =
          let r' = step at n (n + 1) (after T n) next instr r there pushes (sym is) in
          (r', (next, after T n, r', omega (arith, is)))

      mutual
        expr_goes : (e : Expr) (T : NodeType) (at next n : ℕ) → HasType P class scope e T → HasAt code at (emitted e at next) → ReachedPlace P code start (expr_entry e at next) n
            → ReachedPlace P code start next (after T n) × Attains (n + expr_room e)
        expr_goes (IntE x) T at next n ty h r = leaf T at next n _ (ap (λ t. after t n) ty) refl h.0 r
        expr_goes (TruthE b) T at next n ty h r = leaf T at next n _ (ap (λ t. after t n) ty) refl h.0 r
        expr_goes NullE T at next n ty h r = leaf T at next n _ (ap (λ t. after t n) ty) refl h.0 r
        expr_goes ThisE T at next n ty h r = leaf T at next n _ (ap (λ t. after t n) ty) refl h.0 r
        expr_goes (VarE x is_final t) T at next n ty h r = leaf T at next n _ (ap (λ t. after t n) ty.1) refl h.0 r
        expr_goes (NotE e) T at next n ty h r =
            let is : after T n ≡ n + 1 = ap (λ t. after t n) ty.1 in
            let p = expr_goes e boolean_type (at + 1) at n ty.0 h.1 r in
            (step at (n + 1) (n + 1 - 1 + 1) (after T n) next _ p.0 h.0 refl (omega (arith, is)), p.1)
        expr_goes (NegE e) T at next n ty h r =
            let is : after T n ≡ n + 1 = ap (λ t. after t n) ty.1 in
            let p = expr_goes e int_type (at + 1) at n ty.0 h.1 r in
            (step at (n + 1) (n + 1 - 1 + 1) (after T n) next _ p.0 h.0 refl (omega (arith, is)), p.1)
        expr_goes (BinaryE op a b) T at next n ty h r =
            let length_b = length_emitted b (at + 1) at in
            let parts = split code (at + 1) (at + 1 + weight b) (emitted b (at + 1) at) (emitted a (at + 1 + weight b) (expr_entry b (at + 1) at)) (omega arith) h.1 in
            let is = binary_values (is_kind_of P) op ty.0 ty.1 T n ty.4 in
            let p = expr_goes a ty.0 (at + 1 + weight b) (expr_entry b (at + 1) at) n ty.2 parts.1 r in
            let q = expr_goes b ty.1 (at + 1) at (n + 1) ty.3 parts.0 (subst (λ x. ReachedPlace P code start (expr_entry b (at + 1) at) x) is.0 p.0) in (
              step at (after ty.1 (n + 1)) (after ty.1 (n + 1) - 2 + 1) (after T n) next _ q.0 h.0 refl (omega (arith, is.1, is.2)),
              above n (expr_room a) (1 + expr_room b) p.1 (fewer (n + 1 + expr_room b) (n + (1 + expr_room b)) (omega arith) q.1),
            )
        expr_goes (AndE a b) T at next n ty h r =
            let length_b = length_emitted b at next in
            let parts = split code at (at + weight b) (emitted b at next) (code_line (i.AndThen (expr_entry b at next)) next ∷ emitted a (at + weight b + 1) (at + weight b)) (omega arith) h in
            let is : after T n ≡ n + 1 = ap (λ t. after t n) ty.2 in
            let p = expr_goes a boolean_type (at + weight b + 1) (at + weight b) n ty.0 parts.1.1 r in
            let q = expr_goes b boolean_type at next n ty.1 parts.0 (turn (at + weight b) (n + 1) n (expr_entry b at next) next _ p.0 parts.1.0 refl (omega arith)) in
            (step (at + weight b) (n + 1) (n + 1 - 1 + 1) (after T n) next _ p.0 parts.1.0 refl (omega (arith, is)), above n (expr_room a) (expr_room b) p.1 q.1)
        expr_goes (OrE a b) T at next n ty h r =
            let length_b = length_emitted b at next in
            let parts = split code at (at + weight b) (emitted b at next) (code_line (i.OrElse (expr_entry b at next)) next ∷ emitted a (at + weight b + 1) (at + weight b)) (omega arith) h in
            let is : after T n ≡ n + 1 = ap (λ t. after t n) ty.2 in
            let p = expr_goes a boolean_type (at + weight b + 1) (at + weight b) n ty.0 parts.1.1 r in
            let q = expr_goes b boolean_type at next n ty.1 parts.0 (turn (at + weight b) (n + 1) n (expr_entry b at next) next _ p.0 parts.1.0 refl (omega arith)) in
            (step (at + weight b) (n + 1) (n + 1 - 1 + 1) (after T n) next _ p.0 parts.1.0 refl (omega (arith, is)), above n (expr_room a) (expr_room b) p.1 q.1)
        expr_goes (GetE e f) T at next n ty h r =
            let is : after T n ≡ n + 1 = ap (λ t. after t n) ty.3 in
            let p = expr_goes e (class_type ty.2.0) (at + 1) at n ty.2.1 h.1 r in
            (step at (n + 1) (n + 1 - 1 + 1) (after T n) next _ p.0 h.0 refl (omega (arith, is)), p.1)
        expr_goes (CallE e m args) T at next n ty h r =
            let method = ty.0 in
            let ts = parameter_types method in
            let length_a = length_args args (at + 1) at in
            let parts = split code (at + 1) (at + 1 + weights args) (emitted_args args (at + 1) at) (emitted e (at + 1 + weights args) (exprs_entry args (at + 1) at)) (omega arith) h.1 in
            let same : length ts ≡ length method.params = length_parameters method.params in
            let leaves : n + 1 + length ts - arguments_of_call (Some method) - 1 ≡ n = omega arith in
            let next_is : at_next P (i.Call m) (n + 1 + length ts) ≡ Some (after_call (Some method) (n + 1 + length ts - arguments_of_call (Some method) - 1)) =
            ap (λ o. Some (after_call o (n + 1 + length ts - arguments_of_call o - 1))) ty.1 in
            let result_is : after_call (Some method) (n + 1 + length ts - arguments_of_call (Some method) - 1) ≡ after T n =
            ap (with_result_of method.result) leaves ∙ after_result method.result n ∙ sym (ap (λ t. after t n) ty.4) in
            let p = expr_goes e (class_type ty.2.0) (at + 1 + weights args) (exprs_entry args (at + 1) at) n ty.2.1 parts.1 r in
            let q = args_go args ts (at + 1) at (n + 1) ty.3 parts.0 p.0 in (
              step at (n + 1 + length ts) _ (after T n) next (i.Call m) q.0 h.0 next_is result_is,
              above n (expr_room e) (1 + exprs_room args) p.1 (fewer (n + 1 + exprs_room args) (n + (1 + exprs_room args)) (omega arith) q.1),
            )
        expr_goes (NewE c args) T at next n ty h r =
            let made = ty.0 in
            let ts = field_types P made.finals in
            let same : length ts ≡ length made.finals = finals_typed P typed c made ty.1 in
            let is : after T n ≡ n + 1 = ap (λ t. after t n) ty.3 in
            let next_is : at_next P (i.New c) (n + length ts) ≡ Some (n + length ts - arguments_of_new (Some made) + 1) =
            ap (λ o. Some (n + length ts - arguments_of_new o + 1)) ty.1 in
            let p = args_go args ts (at + 1) at n ty.2 h.1 r in
            let r' = step at (n + length ts) (n + length ts - arguments_of_new (Some made) + 1) (after T n) next (i.New c) p.0 h.0 next_is (omega (arith, is)) in
            (r', above n 1 (exprs_room args) (next, after T n, r', omega (arith, is)) p.1)

        args_go : (es : Exprs) (ts : List CoreType) (at next n : ℕ) → FitEach P class scope es ts → HasAt code at (emitted_args es at next) → ReachedPlace P code start (exprs_entry es at next) n
            → ReachedPlace P code start next (n + length ts) × Attains (n + exprs_room es)
        args_go no_exprs [] at next n ty h r = let none : n ≡ n + 0 = omega arith in let r' = subst (λ x. ReachedPlace P code start next x) none r in (r', (next, n + 0, r', omega arith))
        args_go no_exprs (t ∷ ts) at next n ty h r = absurd ty
        args_go (and_expr e es) [] at next n ty h r = absurd ty
        args_go (and_expr e es) (t ∷ ts) at next n ty h r =
            let length_es = length_args es at next in
            let parts = split code at (at + weights es) (emitted_args es at next) (emitted e (at + weights es) (exprs_entry es at next)) (omega arith) h in
            let counts : n + 1 + length ts ≡ n + length (t ∷ ts) = omega arith in
            let p = expr_goes e ty.0.0 (at + weights es) (exprs_entry es at next) n ty.0.1 parts.1 r in
            let q = args_go es ts at next (n + 1) ty.1 parts.0 (subst (λ x. ReachedPlace P code start (exprs_entry es at next) x) (fits_value (is_kind_of P) ty.0.0 t n ty.0.2) p.0) in (
              subst (λ x. ReachedPlace P code start next x) counts q.0,
              above n (expr_room e) (1 + exprs_room es) p.1 (fewer (n + 1 + exprs_room es) (n + (1 + exprs_room es)) (omega arith) q.1),
            )

    -- the reads of the fields of a lock keep one operand
    gets_go : (fs : List ℕ) (at next : ℕ) → HasAt code at (emitted_gets fs at next) → ReachedPlace P code start (gets_entry fs at next) 1 → ReachedPlace P code start next 1
    gets_go [] at next h r = r
    gets_go (f ∷ fs) at next h r =
        let length_fs = length_gets fs at next in
        let parts = split code at (at + length fs) (emitted_gets fs at next) (code_line (i.Get f) (gets_entry fs at next) ∷ []) (omega arith) h in
        gets_go fs at next parts.0 (step (at + length fs) 1 1 1 (gets_entry fs at next) (i.Get f) r parts.1.0 refl refl)

    module _ (class : ℕ) (result : Option CoreType) where
      -- an expression as a statement's value
      value_goes : (scope : List Variable) (e : Expr) (t : CoreType) (at next n : ℕ) → HasFit P class scope e t → HasAt code at (emitted e at next) → ReachedPlace P code start (expr_entry e at next) n
          → ReachedPlace P code start next (n + 1) × Attains (n + expr_room e)
      value_goes scope e t at next n ty h r =
          let p = expr_goes class scope e ty.0 at next n ty.1 h r in
          (subst (λ x. ReachedPlace P code start next x) (fits_value (is_kind_of P) ty.0 t n ty.2) p.0, p.1)

      -- what a whole statement comes to: where it completes the next place, and somewhere its room
      abbrev Goes : Stmt → (next : ℕ) → Type 0
      Goes s next = (can_complete s ≡ true → ReachedPlace P code start next 0) × Attains (stmt_room s)

      returned : (r : Option CoreType) (scope : List Variable) (e : Expr) (at ret : ℕ) → IsResult P class result scope (Some e) r → HasAt code at (emitted e at ret) → ReachedPlace P code start (expr_entry e at ret) 0
          → Attains (expr_room e)
      returned None scope e at ret ty h r = absurd ty
      returned (Some t) scope e at ret ty h r = bare (expr_room e) (value_goes scope e t at ret 0 ty h r).1

      -- one of two branches completes
      one_of : (s t : Bool) (next : ℕ) → (s ≡ true → ReachedPlace P code start next 0) → (t ≡ true → ReachedPlace P code start next 0) → s || t ≡ true → ReachedPlace P code start next 0
      one_of true t next first second done = first refl
      one_of false t next first second done = second done

      -- the same of the statements of a block
      abbrev Go : Stmts → (next : ℕ) → Type 0
      Go ss next = (completes_each ss ≡ true → ReachedPlace P code start next 0) × Attains (stmts_room ss)

      -- one statement, and those behind it
      in_turn : (s : Stmt) (ss : Stmts) (at next ret : ℕ) → none_follow ss || can_complete s ≡ true → Goes s (stmts_entry ss at next ret)
          → (ReachedPlace P code start (stmts_entry ss at next ret) 0 → Go ss next) → Go (and_stmt s ss) next
      in_turn s no_stmts at next ret whole p rest = ((λ done. p.0 (and_parts (can_complete s) true done).0), fewer (stmt_room s) (max (stmt_room s) 0) (omega arith) p.1)
      in_turn s (and_stmt t ss) at next ret whole p rest =
          let q = rest (p.0 whole) in
          ((λ done. q.0 (and_parts (can_complete s) (completes_each (and_stmt t ss)) done).1), greater (stmt_room s) (stmts_room (and_stmt t ss)) p.1 q.1)

      mutual
        stmt_goes : (s : Stmt) (scope : List Variable) (slot at next ret : ℕ) → IsTypedStmt P class result s scope slot → is_whole s ≡ true → HasAt code at (emitted_stmt s at next ret)
            → ReachedPlace P code start (stmt_entry s at next ret) 0 → Goes s next
        stmt_goes EmptyS scope slot at next ret ty whole h r = ((λ done. r), (next, 0, r, omega arith))
        stmt_goes (BlockS ss) scope slot at next ret ty whole h r = stmts_go ss scope slot at next ret ty whole h r
        stmt_goes (LocalS x is_final t e) scope slot at next ret ty whole h r =
            let p = value_goes scope e t (at + 1) at 0 ty.2 h.1 r in
            ((λ done. step at 1 0 0 next (i.Store x) p.0 h.0 refl refl), bare (expr_room e) p.1)
        stmt_goes (SetVarS x e) scope slot at next ret ty whole h r =
            let p = value_goes scope e ty.0 (at + 1) at 0 ty.2 h.1 r in
            ((λ done. step at 1 0 0 next (i.Store x) p.0 h.0 refl refl), bare (expr_room e) p.1)
        stmt_goes (SetFieldS a f b) scope slot at next ret ty whole h r =
            let length_b = length_emitted b (at + 1) at in
            let parts = split code (at + 1) (at + 1 + weight b) (emitted b (at + 1) at) (emitted a (at + 1 + weight b) (expr_entry b (at + 1) at)) (omega arith) h.1 in
            let p = expr_goes class scope a (class_type ty.3.0) (at + 1 + weight b) (expr_entry b (at + 1) at) 0 ty.3.1 parts.1 r in
            let q = value_goes scope b ty.0.ty (at + 1) at 1 ty.4 parts.0 p.0 in
            ((λ done. step at 2 0 0 next (i.Put f) q.0 h.0 refl refl), greater (expr_room a) (1 + expr_room b) (bare (expr_room a) p.1) q.1)
        stmt_goes (DoS e true) scope slot at next ret ty whole h r =
            let p = expr_goes class scope e ty.0 (at + 1) at 0 ty.1 h.1 r in
            ((λ done. step at 1 0 0 next i.Drop (subst (λ x. ReachedPlace P code start at x) (kept ty.0 ty.3) p.0) h.0 refl refl), bare (expr_room e) p.1)
        stmt_goes (DoS e false) scope slot at next ret ty whole h r =
            let p = expr_goes class scope e ty.0 at next 0 ty.1 h r in
            ((λ done. subst (λ x. ReachedPlace P code start next x) (void ty.0 ty.3) p.0), bare (expr_room e) p.1)
        stmt_goes (IfS c s t) scope slot at next ret ty whole h r =
            let wt = stmt_weight t in let ws = stmt_weight s in
            let length_t = length_stmt t at next ret in
            let length_s = length_stmt s (at + wt) next ret in
            let other = stmt_entry t at next ret in
            let first = stmt_entry s (at + wt) next ret in
            let test = code_line (i.Branch other) first ∷ emitted c (at + wt + ws + 1) (at + wt + ws) in
            let parts = split code at (at + wt) (emitted_stmt t at next ret) (emitted_stmt s (at + wt) next ret ++ test) (omega arith) h in
            let later = split code (at + wt) (at + wt + ws) (emitted_stmt s (at + wt) next ret) test (omega arith) parts.1 in
            let both = and_parts (is_whole s) (is_whole t) whole in
            let p = expr_goes class scope c boolean_type (at + wt + ws + 1) (at + wt + ws) 0 ty.0 later.1.1 r in
            let q = stmt_goes s scope slot (at + wt) next ret ty.1 both.0 later.0 (step (at + wt + ws) 1 0 0 first (i.Branch other) p.0 later.1.0 refl refl) in
            let z = stmt_goes t scope _ at next ret ty.2 both.1 parts.0 (turn (at + wt + ws) 1 0 other first (i.Branch other) p.0 later.1.0 refl refl) in
            (one_of (can_complete s) (can_complete t) next q.0 z.0, greater (expr_room c) (max (stmt_room s) (stmt_room t)) (bare (expr_room c) p.1) (greater (stmt_room s) (stmt_room t) q.1 z.1))
        stmt_goes (WhileS c s) scope slot at next ret ty whole h r =
            let wc = weight c in
            let entry = expr_entry c (at + 1) at in
            let first = stmt_entry s (at + 1 + wc) entry ret in
            let length_c = length_emitted c (at + 1) at in
            let parts = split code (at + 1) (at + 1 + wc) (emitted c (at + 1) at) (emitted_stmt s (at + 1 + wc) entry ret) (omega arith) h.1 in
            let p = expr_goes class scope c boolean_type (at + 1) at 0 ty.0 parts.0 r in
            let q = stmt_goes s scope slot (at + 1 + wc) entry ret ty.1 whole parts.1 (step at 1 0 0 first (i.Branch next) p.0 h.0 refl refl) in
            ((λ done. turn at 1 0 next first (i.Branch next) p.0 h.0 refl refl), greater (expr_room c) (stmt_room s) (bare (expr_room c) p.1) q.1)
        stmt_goes (SyncS p s) scope slot at next ret ty whole h r =
            let ws = stmt_weight s in
            let first = stmt_entry s (at + 2) at (at + 1) in
            let acquire = at + 2 + ws in
            let reads = gets_entry p.fields (acquire + 1) acquire in
            let length_s = length_stmt s (at + 2) at (at + 1) in
            let length_f = length_gets p.fields (acquire + 1) acquire in
            let load = code_line (i.Load p.root) reads ∷ [] in
            let after = code_line i.Acquire first ∷ (emitted_gets p.fields (acquire + 1) acquire ++ load) in
            let two : at + 1 + 1 ≡ at + 2 = omega arith in
            let from_body = subst (λ q. HasAt code q (emitted_stmt s (at + 2) at (at + 1) ++ after)) two h.1.1 in
            let parts = split code (at + 2) acquire (emitted_stmt s (at + 2) at (at + 1)) after (omega arith) from_body in
            let later = split code (acquire + 1) (acquire + 1 + length p.fields) (emitted_gets p.fields (acquire + 1) acquire) load (omega arith) parts.1.1 in
            let loaded = step (acquire + 1 + length p.fields) 0 1 1 reads (i.Load p.root) r later.1.0 refl refl in
            let read = gets_go p.fields (acquire + 1) acquire later.0 loaded in
            let q = stmt_goes s scope slot (at + 2) at (at + 1) ty.1 whole parts.0 (step acquire 1 0 0 first i.Acquire read parts.1.0 refl refl) in
            ((λ done. step at 0 0 0 next i.Release (q.0 done) h.0 refl refl), greater 1 (stmt_room s) (acquire, 1, read, omega arith) q.1)
        stmt_goes (ReturnS None) scope slot at next ret ty whole h r = ((λ done. absurd (let no : false ≡ true = done in cc)), (ret, 0, r, omega arith))
        stmt_goes (ReturnS (Some e)) scope slot at next ret ty whole h r = ((λ done. absurd (let no : false ≡ true = done in cc)), returned result scope e at ret ty h r)
        stmt_goes (PrintS e) scope slot at next ret ty whole h r =
            let p = expr_goes class scope e int_type (at + 1) at 0 ty h.1 r in
            ((λ done. step at 1 0 0 next i.Print p.0 h.0 refl refl), bare (expr_room e) p.1)
        stmt_goes (StartS e) scope slot at next ret ty whole h r =
            let p = expr_goes class scope e (class_type ty.0) (at + 1) at 0 ty.1 h.1 r in
            ((λ done. step at 1 0 0 next i.Start p.0 h.0 refl refl), bare (expr_room e) p.1)

        stmts_go : (ss : Stmts) (scope : List Variable) (slot at next ret : ℕ) → AreTypedStmts P class result ss scope slot → are_whole ss ≡ true → HasAt code at (emitted_stmts ss at next ret)
            → ReachedPlace P code start (stmts_entry ss at next ret) 0 → Go ss next
        stmts_go no_stmts scope slot at next ret ty whole h r = ((λ done. r), (next, 0, r, omega arith))
        stmts_go (and_stmt s ss) scope slot at next ret ty whole h r =
            let length_ss = length_stmts ss at next ret in
            let parts = split code at (at + stmts_weight ss) (emitted_stmts ss at next ret) (emitted_stmt s (at + stmts_weight ss) (stmts_entry ss at next ret) ret) (omega arith) h in
            let its = and_parts (is_whole s) ((none_follow ss || can_complete s) && are_whole ss) whole in
            let more = and_parts (none_follow ss || can_complete s) (are_whole ss) its.1 in
            in_turn s ss at next ret more.0 (stmt_goes s scope slot (at + stmts_weight ss) (stmts_entry ss at next ret) ret ty.0 its.0 parts.1 r)
            (λ again. stmts_go ss _ _ at next ret ty.1 more.1 parts.0 again)

-- the room of a method is attained in its code
pub method_attains : (P : Program) (code : List Code) → IsTyped P → (m : ℕ) (method : Method) (at : ℕ) → slice_get P.methods m ≡ Some method
    → HasAt code at (emitted_method method at) → is_whole method.body ≡ true → Attains P code (first_line_of_method method at) (stmt_room method.body)
method_attains P code typed m method at there h whole =
    (stmt_goes P code (first_line_of_method method at) typed method.class method.result method.body _ _ (at + 1) at at (typed.methods m method there).body whole h.1 at_start).1
