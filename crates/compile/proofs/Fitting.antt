-- In the code of a typed program the operands fit into the room.
use Rattle.std.proofs.Common.{◌≡◌, ℕ, zero, suc, ◌+◌, ◌-◌, ◌≤◌, List, [], ◌∷◌, ◌++◌, length, refl, sym, ap, subst, ◌∙◌, arith}
use Rattle.std.specs.Prelude.{true, false, Option, Some, None, slice_get}
use Rattle.core_program.specs.declared.types.CoreType.{CoreType}
use Rattle.core_program.specs.Core.{Program, Method, Expr, Exprs, IntE, TruthE, NullE, ThisE, VarE, NotE, NegE, BinaryE, AndE, OrE, GetE, CallE, NewE, no_exprs, and_expr}
use Rattle.core_program.specs.Core.{Stmt, Stmts, EmptyS, BlockS, LocalS, SetVarS, SetFieldS, DoS, IfS, WhileS, SyncS, ReturnS, PrintS, StartS, no_stmts, and_stmt}
use Rattle.core_program.specs.Dispatch.{is_kind_of}
use Rattle.core_program.specs.Types.{NodeType, boolean_type, int_type, class_type, Variable, field_types, parameter_types, HasType, FitEach, HasFit}
use Rattle.core_program.specs.Typed.{IsTyped, IsTypedStmt, AreTypedStmts, IsResult}
use Rattle.compile.specs.declared.stack.Instr.{Instr}
use Rattle.compile.specs.declared.stack.Instr.TheVariants as i
use Rattle.compile.specs.declared.stack.Code.{Code}
use Rattle.compile.specs.Rooms.{arguments_of_new, arguments_of_call, after_call, with_result_of, at_next, other_place, ReachedPlace, at_start, goes_on, turns, expr_room, exprs_room, stmt_room, stmts_room}
use Rattle.compile.specs.Emission.{code_line, weight, weights, expr_entry, exprs_entry, gets_entry, emitted, emitted_args, emitted_gets, stmt_weight, stmts_weight, stmt_entry, stmts_entry, emitted_stmt, emitted_stmts, emitted_method, first_line_of_method}
use Rattle.compile.proofs.Lengths.{HasAt, split, length_emitted, length_args, length_gets, length_stmt, length_stmts}
use Rattle.compile.proofs.Operands.{after, fits_value, binary_values, after_result, length_parameters, kept, void, finals_typed}

-- every expression gives an operand somewhere
some_room : (e : Expr) → 1 ≤ expr_room e
some_room (IntE n) = omega arith
some_room (TruthE b) = omega arith
some_room NullE = omega arith
some_room ThisE = omega arith
some_room (VarE x is_final ty) = omega arith
some_room (NotE e) = some_room e
some_room (NegE e) = some_room e
some_room (BinaryE op a b) = let p = some_room a in omega arith
some_room (AndE a b) = let p = some_room a in omega arith
some_room (OrE a b) = let p = some_room a in omega arith
some_room (GetE e f) = some_room e
some_room (CallE e m args) = let p = some_room e in omega arith
some_room (NewE c args) = omega arith

module _ (P : Program) (code : List Code) (limit : ℕ) where
  -- from a place with n operands on, for so many steps, no more than the limit stand
  abbrev pub FitsTo : ℕ → ℕ → ℕ → Type 0
  FitsTo zero place n = Unit {0}
  FitsTo (suc k) place n = (n ≤ limit) × ((c : Code) → slice_get code place ≡ Some c →
      ((m : ℕ) → at_next P c.instr n ≡ Some m → FitsTo k c.next m) × ((o : ℕ) → other_place c.instr ≡ Some o → FitsTo k o (n - 1)))

  less : (k place n : ℕ) → FitsTo (suc k) place n → FitsTo k place n
  less zero place n h = tt
  less (suc k) place n h = (h.0, λ c there. ((λ m is. less k c.next m ((h.1 c there).0 m is)), (λ o is. less k o (n - 1) ((h.1 c there).1 o is))))

  -- what fits from the start on fits at each place that is reached
  pub reached_fits : (start : ℕ) → ((k : ℕ) → FitsTo k start 0) → (place n : ℕ) → ReachedPlace P code start place n → (k : ℕ) → FitsTo k place n
  reached_fits start h _ _ at_start k = h k
  reached_fits start h _ _ (goes_on place n m c r there is) k = ((reached_fits start h place n r (suc k)).1 c there).0 m is
  reached_fits start h _ _ (turns place n o c r there is) k = ((reached_fits start h place n r (suc k)).1 c there).1 o is

  -- from the line at the place
  at_place : (k place n : ℕ) (c : Code) → slice_get code place ≡ Some c → n ≤ limit
      → ((m : ℕ) → at_next P c.instr n ≡ Some m → FitsTo k c.next m) → ((o : ℕ) → other_place c.instr ≡ Some o → FitsTo k o (n - 1)) → FitsTo k place n
  at_place zero place n c there le goes turned = tt
  at_place (suc k) place n c there le goes turned = (
    le,
    λ d is. let same : c ≡ d = cc in
        subst (λ x. ((m : ℕ) → at_next P x.instr n ≡ Some m → FitsTo k x.next m) × ((o : ℕ) → other_place x.instr ≡ Some o → FitsTo k o (n - 1))) same
        ((λ m e. less k c.next m (goes m e)), (λ o e. less k o (n - 1) (turned o e))),
  )

  -- a line without another outcome
  plain : (k place n m m' next : ℕ) (instr : Instr) → slice_get code place ≡ Some (code_line instr next) → n ≤ limit → at_next P instr n ≡ Some m → other_place instr ≡ None
      → m ≡ m' → FitsTo k next m' → FitsTo k place n
  plain k place n m m' next instr there le is none same h =
      at_place k place n (code_line instr next) there le (λ x e. let both : m' ≡ x = cc in subst (λ y. FitsTo k next y) both h) (λ o e. absurd (let no : None ≡ Some o = sym none ∙ e in cc))

  -- a line with another outcome
  forked : (k place n m m' n' other next : ℕ) (instr : Instr) → slice_get code place ≡ Some (code_line instr next) → n ≤ limit → at_next P instr n ≡ Some m → other_place instr ≡ Some other
      → m ≡ m' → n - 1 ≡ n' → FitsTo k next m' → FitsTo k other n' → FitsTo k place n
  forked k place n m m' n' other next instr there le is at_other same less_one h g =
      at_place k place n (code_line instr next) there le (λ x e. let both : m' ≡ x = cc in subst (λ y. FitsTo k next y) both h)
      (λ o e. let both : other ≡ o = cc in subst (λ y. FitsTo k y (n - 1)) both (subst (λ y. FitsTo k other y) (sym less_one) g))

  module _ (typed : IsTyped P) where
    module _ (class : ℕ) (scope : List Variable) where
      -- as many arguments as types
      fit_length : (es : Exprs) (ts : List CoreType) → FitEach P class scope es ts → length ts ≤ exprs_room es
      fit_length no_exprs [] h = omega arith
      fit_length no_exprs (t ∷ ts) h = absurd h
      fit_length (and_expr e es) [] h = absurd h
      fit_length (and_expr e es) (t ∷ ts) h = let p = fit_length es ts h.1 in omega arith

      mutual
        expr_fits : (e : Expr) (T : NodeType) (k at next n : ℕ) → HasType P class scope e T → HasAt code at (emitted e at next) → n + expr_room e ≤ limit
            → FitsTo k next (after T n) → FitsTo k (expr_entry e at next) n
        expr_fits (IntE x) T k at next n ty h le g = plain k at n (n + 1) (after T n) next _ h.0 (omega arith) refl refl (sym (ap (λ t. after t n) ty)) g
        expr_fits (TruthE b) T k at next n ty h le g = plain k at n (n + 1) (after T n) next _ h.0 (omega arith) refl refl (sym (ap (λ t. after t n) ty)) g
        expr_fits NullE T k at next n ty h le g = plain k at n (n + 1) (after T n) next _ h.0 (omega arith) refl refl (sym (ap (λ t. after t n) ty)) g
        expr_fits ThisE T k at next n ty h le g = plain k at n (n + 1) (after T n) next _ h.0 (omega arith) refl refl (sym (ap (λ t. after t n) ty)) g
        expr_fits (VarE x is_final t) T k at next n ty h le g = plain k at n (n + 1) (after T n) next _ h.0 (omega arith) refl refl (sym (ap (λ t. after t n) ty.1)) g
        expr_fits (NotE e) T k at next n ty h le g =
            let some = some_room e in
            let is : after T n ≡ n + 1 = ap (λ t. after t n) ty.1 in
            expr_fits e boolean_type k (at + 1) at n ty.0 h.1 le (plain k at (n + 1) (n + 1 - 1 + 1) (after T n) next _ h.0 (omega arith) refl refl (omega arith) g)
        expr_fits (NegE e) T k at next n ty h le g =
            let some = some_room e in
            let is : after T n ≡ n + 1 = ap (λ t. after t n) ty.1 in
            expr_fits e int_type k (at + 1) at n ty.0 h.1 le (plain k at (n + 1) (n + 1 - 1 + 1) (after T n) next _ h.0 (omega arith) refl refl (omega arith) g)
        expr_fits (BinaryE op a b) T k at next n ty h le g =
            let length_b = length_emitted b (at + 1) at in
            let parts = split code (at + 1) (at + 1 + weight b) (emitted b (at + 1) at) (emitted a (at + 1 + weight b) (expr_entry b (at + 1) at)) (omega arith) h.1 in
            let some = some_room b in
            let is = binary_values (is_kind_of P) op ty.0 ty.1 T n ty.4 in
            let le_a : n + expr_room a ≤ limit = omega arith in
            let le_b : n + 1 + expr_room b ≤ limit = omega arith in
            expr_fits a ty.0 k (at + 1 + weight b) (expr_entry b (at + 1) at) n ty.2 parts.1 le_a
            (subst (λ x. FitsTo k (expr_entry b (at + 1) at) x) (sym is.0)
            (expr_fits b ty.1 k (at + 1) at (n + 1) ty.3 parts.0 le_b
            (plain k at (after ty.1 (n + 1)) (after ty.1 (n + 1) - 2 + 1) (after T n) next _ h.0 (omega (arith, is.1)) refl refl (omega (arith, is.1, is.2)) g)))
        expr_fits (AndE a b) T k at next n ty h le g =
            let length_b = length_emitted b at next in
            let parts = split code at (at + weight b) (emitted b at next) (code_line (i.AndThen (expr_entry b at next)) next ∷ emitted a (at + weight b + 1) (at + weight b)) (omega arith) h in
            let some = some_room b in
            let is : after T n ≡ n + 1 = ap (λ t. after t n) ty.2 in
            let g' = subst (λ x. FitsTo k next x) is g in
            let le_a : n + expr_room a ≤ limit = omega arith in
            let le_b : n + expr_room b ≤ limit = omega arith in
            expr_fits a boolean_type k (at + weight b + 1) (at + weight b) n ty.0 parts.1.1 le_a
            (forked k (at + weight b) (n + 1) (n + 1 - 1 + 1) (n + 1) n (expr_entry b at next) next _ parts.1.0 (omega arith) refl refl (omega arith) (omega arith) g'
            (expr_fits b boolean_type k at next n ty.1 parts.0 le_b g'))
        expr_fits (OrE a b) T k at next n ty h le g =
            let length_b = length_emitted b at next in
            let parts = split code at (at + weight b) (emitted b at next) (code_line (i.OrElse (expr_entry b at next)) next ∷ emitted a (at + weight b + 1) (at + weight b)) (omega arith) h in
            let some = some_room b in
            let is : after T n ≡ n + 1 = ap (λ t. after t n) ty.2 in
            let g' = subst (λ x. FitsTo k next x) is g in
            let le_a : n + expr_room a ≤ limit = omega arith in
            let le_b : n + expr_room b ≤ limit = omega arith in
            expr_fits a boolean_type k (at + weight b + 1) (at + weight b) n ty.0 parts.1.1 le_a
            (forked k (at + weight b) (n + 1) (n + 1 - 1 + 1) (n + 1) n (expr_entry b at next) next _ parts.1.0 (omega arith) refl refl (omega arith) (omega arith) g'
            (expr_fits b boolean_type k at next n ty.1 parts.0 le_b g'))
        expr_fits (GetE e f) T k at next n ty h le g =
            let some = some_room e in
            let is : after T n ≡ n + 1 = ap (λ t. after t n) ty.3 in
            expr_fits e (class_type ty.2.0) k (at + 1) at n ty.2.1 h.1 le (plain k at (n + 1) (n + 1 - 1 + 1) (after T n) next _ h.0 (omega arith) refl refl (omega arith) g)
        expr_fits (CallE e m args) T k at next n ty h le g =
            let method = ty.0 in
            let ts = parameter_types method in
            let length_a = length_args args (at + 1) at in
            let parts = split code (at + 1) (at + 1 + weights args) (emitted_args args (at + 1) at) (emitted e (at + 1 + weights args) (exprs_entry args (at + 1) at)) (omega arith) h.1 in
            let many = fit_length args ts ty.3 in
            let same : length ts ≡ length method.params = length_parameters method.params in
            let le_e : n + expr_room e ≤ limit = omega arith in
            let le_args : n + 1 + exprs_room args ≤ limit = omega arith in
            let leaves : n + 1 + length ts - arguments_of_call (Some method) - 1 ≡ n = omega arith in
            let next_is : at_next P (i.Call m) (n + 1 + length ts) ≡ Some (after_call (Some method) (n + 1 + length ts - arguments_of_call (Some method) - 1)) =
            ap (λ o. Some (after_call o (n + 1 + length ts - arguments_of_call o - 1))) ty.1 in
            let result_is : after_call (Some method) (n + 1 + length ts - arguments_of_call (Some method) - 1) ≡ after T n =
            ap (with_result_of method.result) leaves ∙ after_result method.result n ∙ sym (ap (λ t. after t n) ty.4) in
            expr_fits e (class_type ty.2.0) k (at + 1 + weights args) (exprs_entry args (at + 1) at) n ty.2.1 parts.1 le_e
            (args_fit args ts k (at + 1) at (n + 1) ty.3 parts.0 le_args
            (plain k at (n + 1 + length ts) _ (after T n) next (i.Call m) h.0 (omega arith) next_is refl result_is g))
        expr_fits (NewE c args) T k at next n ty h le g =
            let made = ty.0 in
            let ts = field_types P made.finals in
            let many = fit_length args ts ty.2 in
            let same : length ts ≡ length made.finals = finals_typed P typed c made ty.1 in
            let is : after T n ≡ n + 1 = ap (λ t. after t n) ty.3 in
            let le_args : n + exprs_room args ≤ limit = omega arith in
            let next_is : at_next P (i.New c) (n + length ts) ≡ Some (n + length ts - arguments_of_new (Some made) + 1) =
            ap (λ o. Some (n + length ts - arguments_of_new o + 1)) ty.1 in
            args_fit args ts k (at + 1) at n ty.2 h.1 le_args
            (plain k at (n + length ts) (n + length ts - arguments_of_new (Some made) + 1) (after T n) next (i.New c) h.0 (omega arith) next_is refl (omega arith) g)

        args_fit : (es : Exprs) (ts : List CoreType) (k at next n : ℕ) → FitEach P class scope es ts → HasAt code at (emitted_args es at next) → n + exprs_room es ≤ limit
            → FitsTo k next (n + length ts) → FitsTo k (exprs_entry es at next) n
        args_fit no_exprs [] k at next n ty h le g = subst (λ x. FitsTo k next x) (omega arith) g
        args_fit no_exprs (t ∷ ts) k at next n ty h le g = absurd ty
        args_fit (and_expr e es) [] k at next n ty h le g = absurd ty
        args_fit (and_expr e es) (t ∷ ts) k at next n ty h le g =
            let length_es = length_args es at next in
            let parts = split code at (at + weights es) (emitted_args es at next) (emitted e (at + weights es) (exprs_entry es at next)) (omega arith) h in
            let le_e : n + expr_room e ≤ limit = omega arith in
            let le_es : n + 1 + exprs_room es ≤ limit = omega arith in
            let counts : n + length (t ∷ ts) ≡ n + 1 + length ts = omega arith in
            expr_fits e ty.0.0 k (at + weights es) (exprs_entry es at next) n ty.0.1 parts.1 le_e
            (subst (λ x. FitsTo k (exprs_entry es at next) x) (sym (fits_value (is_kind_of P) ty.0.0 t n ty.0.2))
            (args_fit es ts k at next (n + 1) ty.1 parts.0 le_es (subst (λ x. FitsTo k next x) counts g)))

    -- the reads of the fields of a lock keep one operand
    gets_fit : (fs : List ℕ) (k at next : ℕ) → HasAt code at (emitted_gets fs at next) → 1 ≤ limit → FitsTo k next 1 → FitsTo k (gets_entry fs at next) 1
    gets_fit [] k at next h le g = g
    gets_fit (f ∷ fs) k at next h le g =
        let length_fs = length_gets fs at next in
        let parts = split code at (at + length fs) (emitted_gets fs at next) (code_line (i.Get f) (gets_entry fs at next) ∷ []) (omega arith) h in
        plain k (at + length fs) 1 1 1 (gets_entry fs at next) (i.Get f) parts.1.0 le refl refl refl (gets_fit fs k at next parts.0 le g)

    -- a loop, from its condition and its body at every depth
    loop_fits : (k at entry first next ret : ℕ) → slice_get code at ≡ Some (code_line (i.Branch next) first) → 1 ≤ limit
        → ((m : ℕ) → FitsTo m at 1 → FitsTo m entry 0)
        → ((m : ℕ) → FitsTo m entry 0 → ((x : ℕ) → x ≤ limit → FitsTo m ret x) → FitsTo m first 0)
        → FitsTo k next 0 → ((x : ℕ) → x ≤ limit → FitsTo k ret x) → FitsTo k entry 0
    loop_fits zero at entry first next ret there le condition body g r = tt
    loop_fits (suc k) at entry first next ret there le condition body g r =
        let g' = less k next 0 g in
        let r' = λ (x : ℕ) (within : x ≤ limit). less k ret x (r x within) in
        let again = loop_fits k at entry first next ret there le condition body g' r' in
        let inside = body k again r' in
        condition (suc k) (
          le,
          λ c is. let same : code_line (i.Branch next) first ≡ c = cc in
              subst (λ x. ((m : ℕ) → at_next P x.instr 1 ≡ Some m → FitsTo k x.next m) × ((o : ℕ) → other_place x.instr ≡ Some o → FitsTo k o (1 - 1))) same
              ((λ m e. let none : 0 ≡ m = cc in subst (λ y. FitsTo k first y) none inside), (λ o e. let other : next ≡ o = cc in subst (λ y. FitsTo k y 0) other g')),
        )

    module _ (class : ℕ) (result : Option CoreType) where
      -- an expression as a statement's only value
      value_fits : (scope : List Variable) (e : Expr) (t : CoreType) (k at next n : ℕ) → HasFit P class scope e t → HasAt code at (emitted e at next) → n + expr_room e ≤ limit
          → FitsTo k next (n + 1) → FitsTo k (expr_entry e at next) n
      value_fits scope e t k at next n ty h le g = expr_fits class scope e ty.0 k at next n ty.1 h le (subst (λ x. FitsTo k next x) (sym (fits_value (is_kind_of P) ty.0 t n ty.2)) g)

      -- a returned value
      returned : (r : Option CoreType) (scope : List Variable) (e : Expr) (k at ret : ℕ) → IsResult P class result scope (Some e) r → HasAt code at (emitted e at ret) → expr_room e ≤ limit
          → ((x : ℕ) → x ≤ limit → FitsTo k ret x) → FitsTo k (expr_entry e at ret) 0
      returned None scope e k at ret ty h le r = absurd ty
      returned (Some t) scope e k at ret ty h le r = let some = some_room e in value_fits scope e t k at ret 0 ty h (omega arith) (r 1 (omega arith))

      mutual
        stmt_fits : (s : Stmt) (scope : List Variable) (slot k at next ret : ℕ) → IsTypedStmt P class result s scope slot → HasAt code at (emitted_stmt s at next ret) → stmt_room s ≤ limit
            → FitsTo k next 0 → ((x : ℕ) → x ≤ limit → FitsTo k ret x) → FitsTo k (stmt_entry s at next ret) 0
        stmt_fits EmptyS scope slot k at next ret ty h le g r = g
        stmt_fits (BlockS ss) scope slot k at next ret ty h le g r = stmts_fit ss scope slot k at next ret ty h le g r
        stmt_fits (LocalS x is_final t e) scope slot k at next ret ty h le g r =
            let some = some_room e in
            value_fits scope e t k (at + 1) at 0 ty.2 h.1 (omega arith) (plain k at 1 0 0 next (i.Store x) h.0 (omega arith) refl refl refl g)
        stmt_fits (SetVarS x e) scope slot k at next ret ty h le g r =
            let some = some_room e in
            value_fits scope e ty.0 k (at + 1) at 0 ty.2 h.1 (omega arith) (plain k at 1 0 0 next (i.Store x) h.0 (omega arith) refl refl refl g)
        stmt_fits (SetFieldS a f b) scope slot k at next ret ty h le g r =
            let length_b = length_emitted b (at + 1) at in
            let parts = split code (at + 1) (at + 1 + weight b) (emitted b (at + 1) at) (emitted a (at + 1 + weight b) (expr_entry b (at + 1) at)) (omega arith) h.1 in
            let some = some_room b in
            expr_fits class scope a (class_type ty.3.0) k (at + 1 + weight b) (expr_entry b (at + 1) at) 0 ty.3.1 parts.1 (omega arith)
            (value_fits scope b ty.0.ty k (at + 1) at 1 ty.4 parts.0 (omega arith)
            (plain k at 2 0 0 next (i.Put f) h.0 (omega arith) refl refl refl g))
        stmt_fits (DoS e true) scope slot k at next ret ty h le g r =
            let some = some_room e in
            expr_fits class scope e ty.0 k (at + 1) at 0 ty.1 h.1 (omega arith)
            (subst (λ x. FitsTo k at x) (sym (kept ty.0 ty.3)) (plain k at 1 0 0 next i.Drop h.0 (omega arith) refl refl refl g))
        stmt_fits (DoS e false) scope slot k at next ret ty h le g r =
            expr_fits class scope e ty.0 k at next 0 ty.1 h (omega arith) (subst (λ x. FitsTo k next x) (sym (void ty.0 ty.3)) g)
        stmt_fits (IfS c s t) scope slot k at next ret ty h le g r =
            let wt = stmt_weight t in let ws = stmt_weight s in
            let length_t = length_stmt t at next ret in
            let length_s = length_stmt s (at + wt) next ret in
            let other = stmt_entry t at next ret in
            let first = stmt_entry s (at + wt) next ret in
            let test = code_line (i.Branch other) first ∷ emitted c (at + wt + ws + 1) (at + wt + ws) in
            let parts = split code at (at + wt) (emitted_stmt t at next ret) (emitted_stmt s (at + wt) next ret ++ test) (omega arith) h in
            let later = split code (at + wt) (at + wt + ws) (emitted_stmt s (at + wt) next ret) test (omega arith) parts.1 in
            let some = some_room c in
            let le_c : 0 + expr_room c ≤ limit = omega arith in
            let le_s : stmt_room s ≤ limit = omega arith in
            let le_t : stmt_room t ≤ limit = omega arith in
            expr_fits class scope c boolean_type k (at + wt + ws + 1) (at + wt + ws) 0 ty.0 later.1.1 le_c
            (forked k (at + wt + ws) 1 0 0 0 other first (i.Branch other) later.1.0 (omega arith) refl refl refl refl
            (stmt_fits s scope slot k (at + wt) next ret ty.1 later.0 le_s g r)
            (stmt_fits t scope _ k at next ret ty.2 parts.0 le_t g r))
        stmt_fits (WhileS c s) scope slot k at next ret ty h le g r =
            let wc = weight c in
            let entry = expr_entry c (at + 1) at in
            let length_c = length_emitted c (at + 1) at in
            let parts = split code (at + 1) (at + 1 + wc) (emitted c (at + 1) at) (emitted_stmt s (at + 1 + wc) entry ret) (omega arith) h.1 in
            let some = some_room c in
            let le_c : 0 + expr_room c ≤ limit = omega arith in
            let le_s : stmt_room s ≤ limit = omega arith in
            loop_fits k at entry (stmt_entry s (at + 1 + wc) entry ret) next ret h.0 (omega arith)
            (λ m turn. expr_fits class scope c boolean_type m (at + 1) at 0 ty.0 parts.0 le_c turn)
            (λ m again returns. stmt_fits s scope slot m (at + 1 + wc) entry ret ty.1 parts.1 le_s again returns) g r
        stmt_fits (SyncS p s) scope slot k at next ret ty h le g r =
            let ws = stmt_weight s in
            let first = stmt_entry s (at + 2) at (at + 1) in
            let acquire = at + 2 + ws in
            let reads = gets_entry p.fields (acquire + 1) acquire in
            let length_s = length_stmt s (at + 2) at (at + 1) in
            let length_f = length_gets p.fields (acquire + 1) acquire in
            let load = code_line (i.Load p.root) reads ∷ [] in
            let after = code_line i.Acquire first ∷ (emitted_gets p.fields (acquire + 1) acquire ++ load) in
            let two : at + 1 + 1 ≡ at + 2 = omega arith in
            let from_body = subst (λ q. HasAt code q (emitted_stmt s (at + 2) at (at + 1) ++ after)) two h.1.1 in
            let parts = split code (at + 2) acquire (emitted_stmt s (at + 2) at (at + 1)) after (omega arith) from_body in
            let later = split code (acquire + 1) (acquire + 1 + length p.fields) (emitted_gets p.fields (acquire + 1) acquire) load (omega arith) parts.1.1 in
            let one : 1 ≤ limit = omega arith in
            let le_s : stmt_room s ≤ limit = omega arith in
            plain k (acquire + 1 + length p.fields) 0 1 1 reads (i.Load p.root) later.1.0 (omega arith) refl refl refl
            (gets_fit p.fields k (acquire + 1) acquire later.0 one
            (plain k acquire 1 0 0 first i.Acquire parts.1.0 one refl refl refl
            (stmt_fits s scope slot k (at + 2) at (at + 1) ty.1 parts.0 le_s
            (plain k at 0 0 0 next i.Release h.0 (omega arith) refl refl refl g)
            (λ x within. plain k (at + 1) x x x ret i.Release h.1.0 within refl refl refl (r x within)))))
        stmt_fits (ReturnS None) scope slot k at next ret ty h le g r = r 0 (omega arith)
        stmt_fits (ReturnS (Some e)) scope slot k at next ret ty h le g r = returned result scope e k at ret ty h le r
        stmt_fits (PrintS e) scope slot k at next ret ty h le g r =
            let some = some_room e in
            expr_fits class scope e int_type k (at + 1) at 0 ty h.1 (omega arith) (plain k at 1 0 0 next i.Print h.0 (omega arith) refl refl refl g)
        stmt_fits (StartS e) scope slot k at next ret ty h le g r =
            let some = some_room e in
            expr_fits class scope e (class_type ty.0) k (at + 1) at 0 ty.1 h.1 (omega arith) (plain k at 1 0 0 next i.Start h.0 (omega arith) refl refl refl g)

        stmts_fit : (ss : Stmts) (scope : List Variable) (slot k at next ret : ℕ) → AreTypedStmts P class result ss scope slot → HasAt code at (emitted_stmts ss at next ret) → stmts_room ss ≤ limit
            → FitsTo k next 0 → ((x : ℕ) → x ≤ limit → FitsTo k ret x) → FitsTo k (stmts_entry ss at next ret) 0
        stmts_fit no_stmts scope slot k at next ret ty h le g r = g
        stmts_fit (and_stmt s ss) scope slot k at next ret ty h le g r =
            let length_ss = length_stmts ss at next ret in
            let parts = split code at (at + stmts_weight ss) (emitted_stmts ss at next ret) (emitted_stmt s (at + stmts_weight ss) (stmts_entry ss at next ret) ret) (omega arith) h in
            let le_s : stmt_room s ≤ limit = omega arith in
            let le_ss : stmts_room ss ≤ limit = omega arith in
            stmt_fits s scope slot k (at + stmts_weight ss) (stmts_entry ss at next ret) ret ty.0 parts.1 le_s (stmts_fit ss _ _ k at next ret ty.1 parts.0 le_ss g r) r

-- a method's code fits from its entry on
pub method_fits : (P : Program) (code : List Code) → IsTyped P → (m : ℕ) (method : Method) (at k : ℕ) → slice_get P.methods m ≡ Some method
    → HasAt code at (emitted_method method at) → FitsTo P code (stmt_room method.body) k (first_line_of_method method at) 0
method_fits P code typed m method at k there h =
    let limit = stmt_room method.body in
    let ends = λ (x : ℕ) (within : x ≤ limit). at_place P code limit k at x _ h.0 within (λ y e. absurd (let no : None ≡ Some y = e in cc)) (λ o e. absurd (let no : None ≡ Some o = e in cc)) in
    stmt_fits P code limit typed method.class method.result method.body _ _ k (at + 1) at at (typed.methods m method there).body h.1 (omega arith) (ends 0 (omega arith)) ends
