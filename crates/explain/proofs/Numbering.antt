-- Each visited part has the number of its place among all parts.
use Rattle.std.proofs.Common.{◌≡◌, ℕ, ◌+◌, Bool, true, false, List, [], ◌∷◌, ◌++◌, length, Option, Some, None, Contains, suc, ◌⊎◌, inl, inr, refl, sym, ap, subst, ◌∙◌, arith, length-append, append_assoc}
use Rattle.std.proofs.lemmas.List.Elements.{Contains-append_cases, Contains-push_cases}
use Rattle.base.proofs.Lists.{at_left, get_right}
use Rattle.base.proofs.NumberLemmas.{one_and}
use Rattle.algebra.specs.HeldPaths.{Held, with_path}
use Rattle.core_program.specs.Core.{Program, Expr, Exprs, IntE, TruthE, NullE, ThisE, VarE, NotE, NegE, BinaryE, AndE, OrE, GetE, CallE, NewE, no_exprs, and_expr}
use Rattle.core_program.specs.Core.{Stmt, Stmts, EmptyS, BlockS, LocalS, SetVarS, SetFieldS, DoS, IfS, WhileS, SyncS, ReturnS, PrintS, StartS, no_stmts, and_stmt}
use Rattle.core_program.specs.Sizes.{nodes_of, nodes_of_each, value_nodes, stmt_nodes, stmt_nodes_each}
use Rattle.rules.specs.Effect.{after_stmt}
use Rattle.effects.specs.Parts.{Part, ExprP, StmtP}
use Rattle.explain.specs.PartEffects.{expr_parts, exprs_parts, parts_of_value, stmt_parts, block_parts, parts_in}
use Rattle.explain.specs.Visits.{Visit, visit, by_lock, expr_visits, exprs_visits, value_visits, stmt_visits, block_visits, part_visits}
use Rattle.explain.specs.StepReadings.{HasNumberOfPart}

two_lists : (xs ys : List Part) (a b : ℕ) → length xs ≡ a → length ys ≡ b → length (xs ++ ys) ≡ a + b
two_lists xs ys a b first second = length-append xs ys ∙ (λ i. first i + second i)

mutual
  expr_long : (e : Expr) → length (expr_parts e) ≡ nodes_of e
  expr_long (IntE v) = refl
  expr_long (TruthE b) = refl
  expr_long NullE = refl
  expr_long ThisE = refl
  expr_long (VarE x is_final ty) = refl
  expr_long (NotE e) = one_and _ _ (expr_long e)
  expr_long (NegE e) = one_and _ _ (expr_long e)
  expr_long (BinaryE op a b) = one_and _ _ (two_lists _ _ _ _ (expr_long a) (expr_long b))
  expr_long (AndE a b) = one_and _ _ (two_lists _ _ _ _ (expr_long a) (expr_long b))
  expr_long (OrE a b) = one_and _ _ (two_lists _ _ _ _ (expr_long a) (expr_long b))
  expr_long (GetE e f) = one_and _ _ (expr_long e)
  expr_long (CallE e m args) = one_and _ _ (two_lists _ _ _ _ (expr_long e) (exprs_long args))
  expr_long (NewE c args) = one_and _ _ (exprs_long args)

  exprs_long : (es : Exprs) → length (exprs_parts es) ≡ nodes_of_each es
  exprs_long no_exprs = refl
  exprs_long (and_expr e es) = two_lists _ _ _ _ (expr_long e) (exprs_long es)

value_long : (o : Option Expr) → length (parts_of_value o) ≡ value_nodes o
value_long None = refl
value_long (Some e) = expr_long e

mutual
  stmt_long : (s : Stmt) → length (stmt_parts s) ≡ stmt_nodes s
  stmt_long EmptyS = refl
  stmt_long (BlockS ss) = one_and _ _ (block_long ss)
  stmt_long (LocalS x is_final ty e) = one_and _ _ (expr_long e)
  stmt_long (SetVarS x e) = one_and _ _ (expr_long e)
  stmt_long (SetFieldS e f g) = one_and _ _ (two_lists _ _ _ _ (expr_long e) (expr_long g))
  stmt_long (DoS e drops) = one_and _ _ (expr_long e)
  stmt_long (IfS c s t) = one_and _ _ (two_lists _ _ _ _ (expr_long c) (two_lists _ _ _ _ (stmt_long s) (stmt_long t)))
  stmt_long (WhileS c s) = one_and _ _ (two_lists _ _ _ _ (expr_long c) (stmt_long s))
  stmt_long (SyncS p s) = one_and _ _ (stmt_long s)
  stmt_long (ReturnS o) = one_and _ _ (value_long o)
  stmt_long (PrintS e) = one_and _ _ (expr_long e)
  stmt_long (StartS e) = one_and _ _ (expr_long e)

  block_long : (ss : Stmts) → length (block_parts ss) ≡ stmt_nodes_each ss
  block_long no_stmts = refl
  block_long (and_stmt s ss) = two_lists _ _ _ _ (stmt_long s) (block_long ss)

-- each visit has the number of its place in a list of parts, of which the first has this number
pub record Numbered (vs : List Visit) (parts : List Part) (n : ℕ) : Type 0 where
  pub each : (v : Visit) → Contains vs v → HasNumberOfPart parts n v

none : {parts : List Part} {n : ℕ} → Numbered [] parts n
none = record { each = λ v is. absurd (empty v is) }
  where
    empty : (v : Visit) → Contains [] v → ⊥
    empty v (k, below, is) = omega (arith, below)

-- a part alone
one_visit : (n : ℕ) (x : Part) (H : Held) (loop : Option ℕ) (v : Visit) → Contains (visit n x H loop) v → record { node = n; part = x; held = H; loop = loop } ≡ v
one_visit n x H loop v is = elim (Contains-push_cases [] (record { node = n; part = x; held = H; loop = loop }) v is) as (λ _. record { node = n; part = x; held = H; loop = loop } ≡ v) [
  | inl (k, below, e) ↦ absurd (omega (arith, below))
  | inr same ↦ same
]

alone : (n : ℕ) (x : Part) (H : Held) (loop : Option ℕ) (parts : List Part) → Numbered (visit n x H loop) (x ∷ parts) n
alone n x H loop parts = record {
  each = λ v is.
      let same = one_visit n x H loop v is in
      record { index = 0; number = sym (ap (λ w. w.node) same) ∙ omega (arith); part = ap (λ w. Some w.part) same };
}

-- a part behind its own parts
behind : {vs : List Visit} {parts : List Part} (n : ℕ) (x : Part) (H : Held) (loop : Option ℕ) → Numbered vs parts (n + 1) → Numbered (vs ++ visit n x H loop) (x ∷ parts) n
behind {vs = vs} {parts = parts} n x H loop own = record { each = λ v is. by v (Contains-append_cases vs (visit n x H loop) v is) }
  where
    by : (v : Visit) → Contains vs v ⊎ Contains (visit n x H loop) v → HasNumberOfPart (x ∷ parts) n v
    by v (inl i) = let its = own.each v i in record { index = suc its.index; number = its.number ∙ omega (arith); part = its.part }
    by v (inr i) = (alone n x H loop parts).each v i

-- one list of parts before another
both : {vs ws : List Visit} {ps qs : List Part} {n : ℕ} (count : ℕ) → length ps ≡ count → Numbered vs ps n → Numbered ws qs (n + count) → Numbered (vs ++ ws) (ps ++ qs) n
both {vs = vs} {ws = ws} {ps = ps} {qs = qs} {n = n} count long first second = record { each = λ v is. by v (Contains-append_cases vs ws v is) }
  where
    by : (v : Visit) → Contains vs v ⊎ Contains ws v → HasNumberOfPart (ps ++ qs) n v
    by v (inl i) = let its = first.each v i in record { index = its.index; number = its.number; part = at_left ps qs its.index v.part its.part }
    by v (inr i) =
        let its = second.each v i in
        record { index = length ps + its.index; number = its.number ∙ omega (arith, long); part = get_right ps qs its.index ∙ its.part }

locked : (t : Bool) {xs ys : List Visit} {parts : List Part} {n : ℕ} → Numbered xs parts n → Numbered ys parts n → Numbered (by_lock t xs ys) parts n
locked true first second = first
locked false first second = second

-- a part behind two parts of its own, and behind three
behind_two : {us vs : List Visit} {ps qs : List Part} (n : ℕ) (x : Part) (H : Held) (loop : Option ℕ) (count : ℕ) → length ps ≡ count
    → Numbered us ps (n + 1) → Numbered vs qs (n + 1 + count) → Numbered (us ++ (vs ++ visit n x H loop)) (x ∷ (ps ++ qs)) n
behind_two {us = us} {vs = vs} {ps = ps} {qs = qs} n x H loop count long first second =
    subst (λ l. Numbered l (x ∷ (ps ++ qs)) n) (append_assoc us vs (visit n x H loop)) (behind n x H loop (both count long first second))

behind_three : {us vs ws : List Visit} {ps qs rs : List Part} (n : ℕ) (x : Part) (H : Held) (loop : Option ℕ) (count more : ℕ) → length ps ≡ count → length qs ≡ more
    → Numbered us ps (n + 1) → Numbered vs qs (n + 1 + count) → Numbered ws rs (n + 1 + count + more) → Numbered (us ++ (vs ++ (ws ++ visit n x H loop))) (x ∷ (ps ++ (qs ++ rs))) n
behind_three {us = us} {vs = vs} {ws = ws} {ps = ps} {qs = qs} {rs = rs} n x H loop count more long next first second third =
    subst (λ l. Numbered l (x ∷ (ps ++ (qs ++ rs))) n) (append_assoc us (vs ++ ws) (visit n x H loop) ∙ ap (λ l. us ++ l) (append_assoc vs ws (visit n x H loop)))
    (behind n x H loop (both count long first (both more next second third)))

mutual
  expr_numbered : (e : Expr) (n : ℕ) (H : Held) (loop : Option ℕ) → Numbered (expr_visits e n H loop) (expr_parts e) n
  expr_numbered (IntE v) n H loop = alone n (ExprP (IntE v)) H loop []
  expr_numbered (TruthE b) n H loop = alone n (ExprP (TruthE b)) H loop []
  expr_numbered NullE n H loop = alone n (ExprP NullE) H loop []
  expr_numbered ThisE n H loop = alone n (ExprP ThisE) H loop []
  expr_numbered (VarE x is_final ty) n H loop = alone n (ExprP (VarE x is_final ty)) H loop []
  expr_numbered (NotE e) n H loop = behind n (ExprP (NotE e)) H loop (expr_numbered e (n + 1) H loop)
  expr_numbered (NegE e) n H loop = behind n (ExprP (NegE e)) H loop (expr_numbered e (n + 1) H loop)
  expr_numbered (BinaryE op a b) n H loop = behind_two n (ExprP (BinaryE op a b)) H loop (nodes_of a) (expr_long a) (expr_numbered a (n + 1) H loop) (expr_numbered b (n + 1 + nodes_of a) H loop)
  expr_numbered (AndE a b) n H loop = behind_two n (ExprP (AndE a b)) H loop (nodes_of a) (expr_long a) (expr_numbered a (n + 1) H loop) (expr_numbered b (n + 1 + nodes_of a) H loop)
  expr_numbered (OrE a b) n H loop = behind_two n (ExprP (OrE a b)) H loop (nodes_of a) (expr_long a) (expr_numbered a (n + 1) H loop) (expr_numbered b (n + 1 + nodes_of a) H loop)
  expr_numbered (GetE e f) n H loop = behind n (ExprP (GetE e f)) H loop (expr_numbered e (n + 1) H loop)
  expr_numbered (CallE e m args) n H loop = behind_two n (ExprP (CallE e m args)) H loop (nodes_of e) (expr_long e) (expr_numbered e (n + 1) H loop) (exprs_numbered args (n + 1 + nodes_of e) H loop)
  expr_numbered (NewE c args) n H loop = behind n (ExprP (NewE c args)) H loop (exprs_numbered args (n + 1) H loop)

  exprs_numbered : (es : Exprs) (n : ℕ) (H : Held) (loop : Option ℕ) → Numbered (exprs_visits es n H loop) (exprs_parts es) n
  exprs_numbered no_exprs n H loop = none
  exprs_numbered (and_expr e es) n H loop = both (nodes_of e) (expr_long e) (expr_numbered e n H loop) (exprs_numbered es (n + nodes_of e) H loop)

value_numbered : (o : Option Expr) (n : ℕ) (H : Held) (loop : Option ℕ) → Numbered (value_visits o n H loop) (parts_of_value o) n
value_numbered None n H loop = none
value_numbered (Some e) n H loop = expr_numbered e n H loop

module _ (P : Program) where
  mutual
    stmt_numbered : (s : Stmt) (n : ℕ) (H : Held) (loop : Option ℕ) → Numbered (stmt_visits P s n H loop) (stmt_parts s) n
    stmt_numbered EmptyS n H loop = alone n (StmtP EmptyS) H loop []
    stmt_numbered (BlockS ss) n H loop = behind n (StmtP (BlockS ss)) H loop (block_numbered ss (n + 1) H loop)
    stmt_numbered (LocalS x is_final ty e) n H loop = behind n (StmtP (LocalS x is_final ty e)) H loop (expr_numbered e (n + 1) H loop)
    stmt_numbered (SetVarS x e) n H loop = behind n (StmtP (SetVarS x e)) H loop (expr_numbered e (n + 1) H loop)
    stmt_numbered (SetFieldS e f g) n H loop = behind_two n (StmtP (SetFieldS e f g)) H loop (nodes_of e) (expr_long e) (expr_numbered e (n + 1) H loop) (expr_numbered g (n + 1 + nodes_of e) H loop)
    stmt_numbered (DoS e drops) n H loop = behind n (StmtP (DoS e drops)) H loop (expr_numbered e (n + 1) H loop)
    stmt_numbered (IfS c s t) n H loop = behind_three n (StmtP (IfS c s t)) H loop (nodes_of c) (stmt_nodes s) (expr_long c) (stmt_long s)
        (expr_numbered c (n + 1) H loop) (stmt_numbered s (n + 1 + nodes_of c) H loop) (stmt_numbered t (n + 1 + nodes_of c + stmt_nodes s) H loop)
    stmt_numbered (WhileS c s) n H loop = behind_two n (StmtP (WhileS c s)) H loop (nodes_of c) (expr_long c) (expr_numbered c (n + 1) H (Some n)) (stmt_numbered s (n + 1 + nodes_of c) H (Some n))
    stmt_numbered (SyncS p s) n H loop = behind n (StmtP (SyncS p s)) H loop (locked (H p) (stmt_numbered s (n + 1) H loop) (stmt_numbered s (n + 1) (with_path p H) loop))
    stmt_numbered (ReturnS o) n H loop = behind n (StmtP (ReturnS o)) H loop (value_numbered o (n + 1) H loop)
    stmt_numbered (PrintS e) n H loop = behind n (StmtP (PrintS e)) H loop (expr_numbered e (n + 1) H loop)
    stmt_numbered (StartS e) n H loop = behind n (StmtP (StartS e)) H loop (expr_numbered e (n + 1) H loop)

    block_numbered : (ss : Stmts) (n : ℕ) (H : Held) (loop : Option ℕ) → Numbered (block_visits P ss n H loop) (block_parts ss) n
    block_numbered no_stmts n H loop = none
    block_numbered (and_stmt s ss) n H loop = both (stmt_nodes s) (stmt_long s) (stmt_numbered s n H loop) (block_numbered ss (n + stmt_nodes s) (after_stmt P s H) loop)

  pub part_numbered : (x : Part) (n : ℕ) (H : Held) (v : Visit) → Contains (part_visits P x n H) v → HasNumberOfPart (parts_in x) n v
  part_numbered (ExprP e) n H v is = (expr_numbered e n H None).each v is
  part_numbered (StmtP s) n H v is = (stmt_numbered s n H None).each v is
