-- How many lines are put down, and where they stand.
use Rattle.std.proofs.Common.{◌≡◌, ℕ, ◌+◌, List, [], ◌∷◌, ◌++◌, length, refl, sym, ap, subst, ◌∙◌, arith, length-append}
use Rattle.std.specs.Prelude.{true, false, Some, None, slice_get}
use Rattle.core_program.specs.Core.{Method, Expr, Exprs, IntE, TruthE, NullE, ThisE, VarE, NotE, NegE, BinaryE, AndE, OrE, GetE, CallE, NewE, no_exprs, and_expr}
use Rattle.core_program.specs.Core.{Stmt, Stmts, EmptyS, BlockS, LocalS, SetVarS, SetFieldS, DoS, IfS, WhileS, SyncS, ReturnS, PrintS, StartS, no_stmts, and_stmt}
use Rattle.compile.specs.declared.stack.Code.{Code}
use Rattle.compile.specs.Emission.{weight, weights, expr_entry, exprs_entry, emitted, emitted_args, emitted_gets, stmt_weight, stmts_weight, stmts_entry, emitted_stmt, emitted_stmts, method_weight, emitted_method}

mutual
  pub length_emitted : (e : Expr) (at next : ℕ) → length (emitted e at next) ≡ weight e
  length_emitted (IntE n) at next = omega arith
  length_emitted (TruthE b) at next = omega arith
  length_emitted NullE at next = omega arith
  length_emitted ThisE at next = omega arith
  length_emitted (VarE x is_final ty) at next = omega arith
  length_emitted (NotE e) at next = let p = length_emitted e (at + 1) at in omega arith
  length_emitted (NegE e) at next = let p = length_emitted e (at + 1) at in omega arith
  length_emitted (BinaryE op a b) at next =
      let p = length_emitted b (at + 1) at in let q = length_emitted a (at + 1 + weight b) (expr_entry b (at + 1) at) in
      omega (arith, length-append {A = Code})
  length_emitted (AndE a b) at next =
      let p = length_emitted b at next in let q = length_emitted a (at + weight b + 1) (at + weight b) in omega (arith, length-append {A = Code})
  length_emitted (OrE a b) at next =
      let p = length_emitted b at next in let q = length_emitted a (at + weight b + 1) (at + weight b) in omega (arith, length-append {A = Code})
  length_emitted (GetE e f) at next = let p = length_emitted e (at + 1) at in omega arith
  length_emitted (CallE e m args) at next =
      let p = length_args args (at + 1) at in let q = length_emitted e (at + 1 + weights args) (exprs_entry args (at + 1) at) in
      omega (arith, length-append {A = Code})
  length_emitted (NewE c args) at next = let p = length_args args (at + 1) at in omega arith

  pub length_args : (es : Exprs) (at next : ℕ) → length (emitted_args es at next) ≡ weights es
  length_args no_exprs at next = omega arith
  length_args (and_expr e es) at next =
      let p = length_args es at next in let q = length_emitted e (at + weights es) (exprs_entry es at next) in omega (arith, length-append {A = Code})

pub length_gets : (fs : List ℕ) (at next : ℕ) → length (emitted_gets fs at next) ≡ length fs
length_gets [] at next = omega arith
length_gets (f ∷ fs) at next = let p = length_gets fs at next in omega (arith, length-append {A = Code})

mutual
  pub length_stmt : (s : Stmt) (at next ret : ℕ) → length (emitted_stmt s at next ret) ≡ stmt_weight s
  length_stmt EmptyS at next ret = omega arith
  length_stmt (BlockS ss) at next ret = length_stmts ss at next ret
  length_stmt (LocalS x is_final ty e) at next ret = let p = length_emitted e (at + 1) at in omega arith
  length_stmt (SetVarS x e) at next ret = let p = length_emitted e (at + 1) at in omega arith
  length_stmt (SetFieldS a f b) at next ret =
      let p = length_emitted b (at + 1) at in let q = length_emitted a (at + 1 + weight b) (expr_entry b (at + 1) at) in
      omega (arith, length-append {A = Code})
  length_stmt (DoS e true) at next ret = let p = length_emitted e (at + 1) at in omega arith
  length_stmt (DoS e false) at next ret = length_emitted e at next
  length_stmt (IfS c s t) at next ret =
      let p = length_stmt t at next ret in
      let q = length_stmt s (at + stmt_weight t) next ret in
      let r = length_emitted c (at + stmt_weight t + stmt_weight s + 1) (at + stmt_weight t + stmt_weight s) in
      omega (arith, length-append {A = Code})
  length_stmt (WhileS c s) at next ret =
      let p = length_emitted c (at + 1) at in let q = length_stmt s (at + 1 + weight c) (expr_entry c (at + 1) at) ret in
      omega (arith, length-append {A = Code})
  length_stmt (SyncS p s) at next ret =
      let q = length_stmt s (at + 2) at (at + 1) in
      let r = length_gets p.fields (at + 2 + stmt_weight s + 1) (at + 2 + stmt_weight s) in
      omega (arith, length-append {A = Code})
  length_stmt (ReturnS None) at next ret = omega arith
  length_stmt (ReturnS (Some e)) at next ret = length_emitted e at ret
  length_stmt (PrintS e) at next ret = let p = length_emitted e (at + 1) at in omega arith
  length_stmt (StartS e) at next ret = let p = length_emitted e (at + 1) at in omega arith

  pub length_stmts : (ss : Stmts) (at next ret : ℕ) → length (emitted_stmts ss at next ret) ≡ stmts_weight ss
  length_stmts no_stmts at next ret = omega arith
  length_stmts (and_stmt s ss) at next ret =
      let p = length_stmts ss at next ret in let q = length_stmt s (at + stmts_weight ss) (stmts_entry ss at next ret) ret in
      omega (arith, length-append {A = Code})

pub length_method : (m : Method) (at : ℕ) → length (emitted_method m at) ≡ method_weight m
length_method m at = let p = length_stmt m.body (at + 1) at at in omega arith

-- these lines stand in the code from this place on
abbrev pub HasAt : List Code → ℕ → List Code → Type 0
HasAt code at [] = Unit {0}
HasAt code at (c ∷ cs) = (slice_get code at ≡ Some c) × HasAt code (at + 1) cs

-- two pieces one after the other
pub split : (code : List Code) (at there : ℕ) (xs ys : List Code) → there ≡ at + length xs → HasAt code at (xs ++ ys) → HasAt code at xs × HasAt code there ys
split code at there [] ys e h = let same : at ≡ there = omega arith in (tt, subst (λ p. HasAt code p ys) same h)
split code at there (x ∷ xs) ys e h =
    let rest = split code (at + 1) there xs ys (omega arith) h.1 in
    ((h.0, rest.0), rest.1)

-- the piece behind some lines stands at their number
pub all_at : (before xs code : List Code) → code ≡ before ++ xs → HasAt code (length before) xs
all_at before [] code e = tt
all_at before (x ∷ xs) code e =
    let more = all_at (before ++ x ∷ []) xs code (e ∙ sym (again before x xs)) in
    let n : length (before ++ x ∷ []) ≡ length before + 1 = omega (arith, length-append {A = Code}) in
    (subst (λ c. slice_get c (length before) ≡ Some x) (sym e) (here before x xs), subst (λ p. HasAt code p xs) n more)
  where
    again : (ys : List Code) (y : Code) (zs : List Code) → (ys ++ y ∷ []) ++ zs ≡ ys ++ (y ∷ zs)
    again [] y zs = refl
    again (z ∷ ys) y zs = ap (λ l. z ∷ l) (again ys y zs)

    here : (ys : List Code) (y : Code) (zs : List Code) → slice_get (ys ++ (y ∷ zs)) (length ys) ≡ Some y
    here [] y zs = refl
    here (z ∷ ys) y zs = here ys y zs
