-- The methods that a body calls are those of its list, and what rows of callers keep.
use Rattle.std.proofs.Common.{◌≡◌, ℕ, zero, suc, ◌+◌, ◌<◌, ◌≤◌, ◌⊎◌, Bool, true, false, ◌||◌, ◌==◌, List, [], ◌∷◌, ◌++◌, length, map, take, get_or, slice_get, slice_set, Some, None, refl, sym, ap, subst, ◌∙◌, arith, inl, inr}
use Rattle.std.specs.Prelude.{Option, Result, Ok, Err, OnOk, Contains}
use Rattle.std.proofs.lemmas.Grind.{common_steps}
use Rattle.std.proofs.lemmas.List.{take_more, length-set}
use Rattle.std.proofs.lemmas.Option.{slice_get_within, slice_get-get_or}
use Rattle.std.proofs.lemmas.List.Elements.{Contains-push, Contains-push_cases, Contains-append_left, Contains-append_right, Contains-append_cases}
use Rattle.std.proofs.lemmas.Bool.{eqb-true, or_right, or_left, eq-eqb}
use Rattle.base.proofs.Lists.{set_here}
use Rattle.core_program.specs.Core.{Program, Method, Expr, Exprs, IntE, TruthE, NullE, ThisE, VarE, NotE, NegE, BinaryE, AndE, OrE, GetE, CallE, NewE, no_exprs, and_expr}
use Rattle.core_program.specs.Core.{Stmt, Stmts, EmptyS, BlockS, LocalS, SetVarS, SetFieldS, DoS, IfS, WhileS, SyncS, ReturnS, PrintS, StartS, no_stmts, and_stmt}
use Rattle.core_program.specs.declared.program.CoreMethod.{CoreMethod}
use Rattle.core_program.specs.Views.{method_of, stmt_of}
use Rattle.rules.proofs.CallerLookups.{found_method}
use Rattle.fixpoint.proofs.NoteLemmas.{contains_none, contains_cases, set_at}
use Rattle.rules.specs.Called.{expr_calls, exprs_call, stmt_calls, block_calls, expr_callees, exprs_callees, stmt_callees, block_callees, method_calls, counts_as_caller, callers_or_none, callers_of_method, HasCaller, HasCallers, has_method, AreCallers}

or_has : (callee : ℕ) (a b : Bool) (xs ys : List ℕ) → (a || b) ≡ true → (a ≡ true → Contains xs callee) → (b ≡ true → Contains ys callee) → Contains (xs ++ ys) callee
or_has callee true b xs ys e f g = Contains-append_left xs ys callee (f refl)
or_has callee false b xs ys e f g = Contains-append_right xs ys callee (g e)

module _ (callee : ℕ) where
  abbrev test : ℕ → Bool
  test m = m == callee

  one_has : (m : ℕ) → test m ≡ true → Contains (m ∷ []) callee
  one_has m e = subst (Contains (m ∷ [])) (eqb-true m callee e) (Contains-push [] m)

  mutual
    expr_has : (e : Expr) → expr_calls test e ≡ true → Contains (expr_callees e) callee
    expr_has (IntE n) c = absurd (cc)
    expr_has (TruthE b) c = absurd (cc)
    expr_has NullE c = absurd (cc)
    expr_has ThisE c = absurd (cc)
    expr_has (VarE x is_final ty) c = absurd (cc)
    expr_has (NotE e) c = expr_has e c
    expr_has (NegE e) c = expr_has e c
    expr_has (BinaryE op a b) c = or_has callee (expr_calls test a) (expr_calls test b) (expr_callees a) (expr_callees b) c (expr_has a) (expr_has b)
    expr_has (AndE a b) c = or_has callee (expr_calls test a) (expr_calls test b) (expr_callees a) (expr_callees b) c (expr_has a) (expr_has b)
    expr_has (OrE a b) c = or_has callee (expr_calls test a) (expr_calls test b) (expr_callees a) (expr_callees b) c (expr_has a) (expr_has b)
    expr_has (GetE e f) c = expr_has e c
    expr_has (CallE e m args) c = or_has callee (test m) (expr_calls test e || exprs_call test args) (m ∷ []) (expr_callees e ++ exprs_callees args) c (one_has m)
        (λ rest. or_has callee (expr_calls test e) (exprs_call test args) (expr_callees e) (exprs_callees args) rest (expr_has e) (exprs_have args))
    expr_has (NewE x args) c = exprs_have args c

    exprs_have : (es : Exprs) → exprs_call test es ≡ true → Contains (exprs_callees es) callee
    exprs_have no_exprs c = absurd (cc)
    exprs_have (and_expr e es) c = or_has callee (expr_calls test e) (exprs_call test es) (expr_callees e) (exprs_callees es) c (expr_has e) (exprs_have es)

  mutual
    pub stmt_has : (s : Stmt) → stmt_calls test s ≡ true → Contains (stmt_callees s) callee
    stmt_has EmptyS c = absurd (cc)
    stmt_has (BlockS ss) c = block_has ss c
    stmt_has (LocalS x is_final ty e) c = expr_has e c
    stmt_has (SetVarS x e) c = expr_has e c
    stmt_has (SetFieldS e f g) c = or_has callee (expr_calls test e) (expr_calls test g) (expr_callees e) (expr_callees g) c (expr_has e) (expr_has g)
    stmt_has (DoS e drops) c = expr_has e c
    stmt_has (IfS b s t) c = or_has callee (expr_calls test b) (stmt_calls test s || stmt_calls test t) (expr_callees b) (stmt_callees s ++ stmt_callees t) c (expr_has b)
        (λ rest. or_has callee (stmt_calls test s) (stmt_calls test t) (stmt_callees s) (stmt_callees t) rest (stmt_has s) (stmt_has t))
    stmt_has (WhileS b s) c = or_has callee (expr_calls test b) (stmt_calls test s) (expr_callees b) (stmt_callees s) c (expr_has b) (stmt_has s)
    stmt_has (SyncS p s) c = stmt_has s c
    stmt_has (ReturnS None) c = absurd (cc)
    stmt_has (ReturnS (Some e)) c = expr_has e c
    stmt_has (PrintS e) c = expr_has e c
    stmt_has (StartS e) c = expr_has e c

    block_has : (ss : Stmts) → block_calls test ss ≡ true → Contains (block_callees ss) callee
    block_has no_stmts c = absurd (cc)
    block_has (and_stmt s ss) c = or_has callee (stmt_calls test s) (block_calls test ss) (stmt_callees s) (block_callees ss) c (stmt_has s) (block_has ss)

-- Rows of callers.

-- the row of a method with the caller behind what it had
pub caller_put : (rows : List (List ℕ)) (place callee caller : ℕ) (row longer none : List ℕ) → place ≡ callee → place < length rows → row ≡ get_or rows place none → longer ≡ row ++ caller ∷ []
    → HasCaller rows (slice_set rows place longer) callee caller
caller_put rows place callee caller row longer none place_is below is put = record {
  size = length-set rows place longer;
  has = λ within. subst (λ m. Contains (callers_of_method (slice_set rows place longer) m) caller) place_is
      (subst (λ o. Contains (callers_or_none o) caller) (sym (set_here rows place longer below)) (subst (λ l. Contains l caller) (sym put) (Contains-push row caller)));
  still = λ m k h. elim (set_at rows place longer m) as (λ _. Contains (callers_of_method (slice_set rows place longer) m) k) [
    | inl here ↦ subst (λ o. Contains (callers_or_none o) k) (sym here.1) (subst (λ l. Contains l k) (sym put) (Contains-append_left row (caller ∷ []) k (subst (λ l. Contains l k) (there m here.0) h)))
    | inr other ↦ subst (λ o. Contains (callers_or_none o) k) (sym other) h
  ];
}
  where
    there : (m : ℕ) → place ≡ m → callers_of_method rows m ≡ row
    there m same = ap callers_or_none (subst (λ n. slice_get rows n ≡ Some row) same (slice_get-get_or rows place none below ∙ ap Some (sym is)))

-- no callee so far, and one more
pub callers_none : (rows : List (List ℕ)) (caller : ℕ) → HasCallers rows rows [] caller
callers_none rows caller = record { size = refl; each = λ m h below. absurd (contains_none m h); still = λ m k h. h }

pub callers_more : (rows between now : List (List ℕ)) (callees : List ℕ) (place callee caller : ℕ) → place < length callees → callee ≡ get_or callees place callee → HasCallers rows between (take place callees) caller
    → HasCaller between now callee caller → HasCallers rows now (take (place + 1) callees) caller
callers_more rows between now callees place callee caller below is before one = record {
  size = one.size ∙ before.size;
  each = λ m h within. elim (Contains-push_cases (take place callees) (get_or callees place callee) m (subst (λ xs. Contains xs m) (take_more callees place callee below) h)) as (λ _. Contains (callers_of_method now m) caller) [
    | inl earlier ↦ one.still m caller (before.each m earlier within)
    | inr same ↦ (let here : callee ≡ m = is ∙ same in
        subst (λ n. Contains (callers_of_method now n) caller) here (one.has (subst (λ n. n < length between) (sym here) (subst (λ n. m < n) (sym before.size) within))))
  ];
  still = λ m k h. one.still m k (before.still m k h);
}

-- the same of two lists, one after the other
callers_both : (rows between now : List (List ℕ)) (xs ys : List ℕ) (caller : ℕ) → HasCallers rows between xs caller → HasCallers between now ys caller → HasCallers rows now (xs ++ ys) caller
callers_both rows between now xs ys caller one two = record {
  size = two.size ∙ one.size;
  each = λ m h within. elim (Contains-append_cases xs ys m h) as (λ _. Contains (callers_of_method now m) caller) [
    | inl earlier ↦ two.still m caller (one.each m earlier within)
    | inr later ↦ two.each m later (subst (λ n. m < n) (sym one.size) within)
  ];
  still = λ m k h. two.still m k (one.still m k h);
}

-- whether a row has a caller

pub contained : (row : List ℕ) (caller : ℕ) → Contains row caller → has_method row caller ≡ true
contained [] caller has = absurd (contains_none caller has)
contained (c ∷ row) caller has = elim (contains_cases c row caller has) as (λ _. has_method (c ∷ row) caller ≡ true) [
  | inl same ↦ or_left (c == caller) (has_method row caller) (eq-eqb c caller same)
  | inr later ↦ or_right (c == caller) (has_method row caller) (contained row caller later)
]

pub containing : (row : List ℕ) (caller : ℕ) → has_method row caller ≡ true → Contains row caller
containing [] caller has = absurd (cc)
containing (c ∷ row) caller has = or_has caller (c == caller) (has_method row caller) (c ∷ []) row has (one_has caller c) (containing row caller)

-- the callers before a place are in the rows
pub record SoFar (P : Program) (overs : ℕ → List ℕ) (rows : List (List ℕ)) (count : ℕ) : Type 0 where
  pub callers : (callee caller : ℕ) → caller < count → callee < length rows → counts_as_caller P overs caller callee ≡ true → Contains (callers_of_method rows callee) caller

-- the callees of one method more
pub methods_more : (P : Program) (overs : ℕ → List ℕ) (rows between now : List (List ℕ)) (count : ℕ) (method : Method) → slice_get P.methods count ≡ Some method → SoFar P overs rows count
    → HasCallers rows between (stmt_callees method.body) count → HasCallers between now (overs count) count → SoFar P overs now (count + 1)
methods_more P overs rows between now count method is before by_body by_over = record {
  callers = λ callee caller below within called. elim (last_or caller count below) as (λ _. Contains (callers_of_method now callee) caller) [
    | inl earlier ↦ added.still callee caller (before.callers callee caller earlier (subst (λ n. callee < n) added.size within) called)
    | inr same ↦ subst (Contains (callers_of_method now callee)) (sym same)
        (added.each callee (called_by callee (ap (λ o. method_calls o (overs count) callee) (sym is) ∙ ap (λ k. counts_as_caller P overs k callee) (sym same) ∙ called)) (subst (λ n. callee < n) added.size within))
  ];
}
  where
    added : HasCallers rows now (stmt_callees method.body ++ overs count) count
    added = callers_both rows between now (stmt_callees method.body) (overs count) count by_body by_over

    called_by : (callee : ℕ) → (stmt_calls (λ m. m == callee) method.body || has_method (overs count) callee) ≡ true → Contains (stmt_callees method.body ++ overs count) callee
    called_by callee e = or_has callee (stmt_calls (λ m. m == callee) method.body) (has_method (overs count) callee) (stmt_callees method.body) (overs count) e (stmt_has callee method.body) (containing (overs count) callee)

    last_or : (c count : ℕ) → c < count + 1 → (c < count) ⊎ (c ≡ count)
    last_or zero zero below = inr refl
    last_or zero (suc count) below = inl (omega arith)
    last_or (suc c) zero below = absurd (omega (arith, below))
    last_or (suc c) (suc count) below = elim (last_or c count (omega (arith, below))) as (λ _. (suc c < suc count) ⊎ (suc c ≡ suc count)) [
      | inl less ↦ inl (omega (arith, less))
      | inr same ↦ inr (ap suc same)
    ]

-- all methods were looked at
pub methods_all : (P : Program) (overs : ℕ → List ℕ) (rows : List (List ℕ)) (count : ℕ) → length P.methods ≤ count → SoFar P overs rows count → AreCallers P overs rows
methods_all P overs rows count all so_far = λ callee caller within called. contained (callers_of_method rows callee) caller (so_far.callers callee caller (there callee caller (slice_get P.methods caller) refl called) within called)
  where
    there : (callee caller : ℕ) (o : Option Method) → slice_get P.methods caller ≡ o → method_calls o (overs caller) callee ≡ true → caller < count
    there callee caller None is called = absurd (cc)
    there callee caller (Some method) is called = let below = slice_get_within P.methods caller method is in omega (arith, below, all)

-- What was put behind a list.

pub put_parts_of : {E : Type 0} (r : Result (Unit {0}) E) (old new : List ℕ) {xs ys : List ℕ} → xs ≡ ys → OnOk r (new ≡ old ++ xs) → OnOk r (new ≡ old ++ ys)
put_parts_of (Ok a) old new e is = is ∙ ap (λ zs. old ++ zs) e
put_parts_of (Err x) old new e is = is

pub put_call : {E : Type 0} (r : Result (Unit {0}) E) (old first second new : List ℕ) (m : ℕ) (xs ys zs all : List ℕ) → first ≡ old ++ m ∷ [] → second ≡ first ++ xs → ys ≡ zs → all ≡ m ∷ (xs ++ zs)
    → OnOk r (new ≡ second ++ ys) → OnOk r (new ≡ old ++ all)
put_call (Err x) old first second new m xs ys zs all one two same is put = put
put_call (Ok a) old first second new m xs ys zs all one two same is put =
    put ∙ ap (λ l. second ++ l) same ∙ ap (λ l. l ++ zs) (two ∙ ap (λ l. l ++ xs) one) ∙ grind (arith, common_steps) ∙ ap (λ l. old ++ l) (sym is)

-- where it begins, no method was looked at
pub none_so_far : (P : Program) (overs : ℕ → List ℕ) (rows : List (List ℕ)) → SoFar P overs rows 0
none_so_far P overs rows = record { callers = λ callee caller below within called. absurd (omega (arith, below)) }

-- the callees of a method, put into an empty list
pub method_callees : (xs : List CoreMethod) (methods : List Method) (place : ℕ) (x : CoreMethod) (none callees lent : List ℕ) → map method_of xs ≡ methods → place < length xs → x ≡ get_or xs place x
    → none ≡ [] → callees ≡ none ++ stmt_callees (stmt_of x.body) → lent ≡ callees → (slice_get methods place ≡ Some (method_of x)) × (lent ≡ stmt_callees (method_of x).body)
method_callees xs methods place x none callees lent all below is empty put same = (found_method xs methods place x all below is, same ∙ put ∙ ap (λ l. l ++ stmt_callees (stmt_of x.body)) empty)

-- the row that was read has each caller
pub reading : (P : Program) (overs : ℕ → List ℕ) (rows lent : List (List ℕ)) (callee : ℕ) (row read : List ℕ) → AreCallers P overs rows → lent ≡ rows → callee < length lent → row ≡ get_or lent callee row → read ≡ row
    → (caller : ℕ) → counts_as_caller P overs caller callee ≡ true → Contains read caller
reading P overs rows lent callee row read callers same below is read_is caller called =
    let at : slice_get rows callee ≡ Some row = ap (λ l. slice_get l callee) (sym same) ∙ slice_get-get_or lent callee row below ∙ ap Some (sym is) in
    subst (λ l. Contains l caller) (ap callers_or_none at ∙ sym read_is) (containing (callers_of_method rows callee) caller (callers callee caller (subst (λ l. callee < length l) same below) called))
