-- Walks one behind the other, and the walk through each kind of part.
use Rattle.std.proofs.Common.{◌≡◌, ℕ, ◌+◌, ◌<◌, Bool, true, false, List, [], ◌∷◌, ◌++◌, Option, Some, None, length, drop, get_or, slice_set, refl, sym, ap, ◌∙◌, subst, append_assoc, append-nil, length-append, arith, if◌then◌else◌}
use Rattle.std.proofs.Math.Seq.{set-append_seam}
use Rattle.std.proofs.lemmas.List.Elements.{filter-append}
use Rattle.paths.specs.Paths.{PathData}
use Rattle.algebra.specs.declared.basic.Basic.{Basic}
use Rattle.algebra.specs.declared.basic.Basic.TheVariants.{Const, Mover}
use Rattle.algebra.specs.Basics.{seq_of, below_of}
use Rattle.algebra.specs.HeldPaths.{Held, with_path}
use Rattle.algebra.proofs.Sequences.{associative, unit_after, unit_before}
use Rattle.core_program.specs.declared.tree.CoreExpr.{CoreExpr}
use Rattle.core_program.specs.Views.{expr_of, exprs_from}
use Rattle.base.proofs.Lists.{next_drop}
use Rattle.base.proofs.NumberLemmas.{one_and}
use Rattle.core_program.specs.declared.types.CoreOp.{CoreOp}
use Rattle.core_program.specs.Core.{Program, Expr, Exprs, IntE, TruthE, NullE, ThisE, VarE, NotE, NegE, BinaryE, AndE, OrE, GetE, CallE, NewE, no_exprs, and_expr}
use Rattle.core_program.specs.Core.{Stmt, Stmts, EmptyS, BlockS, LocalS, SetVarS, SetFieldS, DoS, IfS, WhileS, SyncS, ReturnS, PrintS, StartS, no_stmts, and_stmt}
use Rattle.core_program.specs.Locks.{path_of}
use Rattle.core_program.specs.Sizes.{nodes_of, nodes_of_each, value_nodes, stmt_nodes, stmt_nodes_each}
use Rattle.effects.specs.Parts.{ExprP}
use Rattle.rules.specs.Effect.{Assignment, call_of, expr_effect, exprs_effect, after_stmt}
use Rattle.rules.specs.Mentions.{paths_of}
use Rattle.explain.specs.StepReadings.{own_at}
use Rattle.explain.specs.Steps.{expr_steps, exprs_steps}
use Rattle.explain.specs.Visits.{Visit, visit, expr_visits, exprs_visits}
use Rattle.explain.specs.declared.found.Found.{Found}
use Rattle.explain.specs.Basics.{basics_by_lock, expr_basics, exprs_basics, value_basics, stmt_basics, block_basics}
use Rattle.explain.specs.Views.{visits_of, heavy_in, is_heavy, inner}
use Rattle.explain.specs.Walked.{next, Walked, WalkedExpr, InsideExpr, WalkedExprs}

-- ---- numbers

sum_of : (l x y a b : ℕ) → l ≡ x + y → x ≡ a → y ≡ b → l ≡ a + b
sum_of l x y a b whole one two = omega (arith, whole, one, two)

sum_three : (l m x y z a b c : ℕ) → l ≡ x + m → m ≡ y + z → x ≡ a → y ≡ b → z ≡ c → l ≡ a + (b + c)
sum_three l m x y z a b c whole rest one two three = omega (arith, whole, rest, one, two, three)

later : (m o l n k : ℕ) → m ≡ o + l → o ≡ n → l ≡ k → m ≡ n + k
later m o l n k whole start long = omega (arith, whole, start, long)

-- ---- a walk behind another

module _ (P : Program) (rel : ℕ → List PathData) (A : Assignment) where
  pub heavy_append : (vs ws : List Visit) → heavy_in P rel A (vs ++ ws) ≡ heavy_in P rel A vs ++ heavy_in P rel A ws
  heavy_append vs ws = filter-append (λ v. is_heavy (own_at P rel A v)) vs ws

  pub two : {vs ws ss ts : List Visit} {bs cs : List Basic} {x y : Basic} {old mid new : Found} {a b : Basic} (d : Basic)
      → Walked P rel A vs ss bs x old a mid → Walked P rel A ws ts cs y mid b new → d ≡ seq_of a b
      → Walked P rel A (vs ++ ws) (ss ++ ts) (bs ++ cs) (seq_of x y) old d new
  two {vs = vs} {ws = ws} {ss = ss} {ts = ts} {bs = bs} {cs = cs} {old = old} d one other is = record {
    effect_is = is ∙ (λ i. seq_of (one.effect_is i) (other.effect_is i));
    basics_are = other.basics_are ∙ ap (λ l. l ++ cs) one.basics_are ∙ append_assoc old.basics.items bs cs;
    steps_are = other.steps_are ∙ ap (λ l. l ++ ts) one.steps_are ∙ append_assoc (visits_of old.steps.items) ss ts;
    heavy_are = other.heavy_are ∙ ap (λ l. l ++ heavy_in P rel A ws) one.heavy_are
        ∙ append_assoc (visits_of old.heavy.items) (heavy_in P rel A vs) (heavy_in P rel A ws)
        ∙ ap (λ l. visits_of old.heavy.items ++ l) (sym (heavy_append vs ws));
  }

  -- a part that can be moved by itself
  quiet_one : (v : Visit) → is_heavy (own_at P rel A v) ≡ false → heavy_in P rel A (v ∷ []) ≡ []
  quiet_one v e = ap (λ (b : Bool). if b then v ∷ [] else []) e

  -- and one that can't
  pub heavy_one : (v : Visit) → is_heavy (own_at P rel A v) ≡ true → heavy_in P rel A (v ∷ []) ≡ v ∷ []
  heavy_one v e = ap (λ (b : Bool). if b then v ∷ [] else []) e

  pub behind : {vs ss : List Visit} {bs : List Basic} {x : Basic} {old new : Found} {a : Basic} (v : Visit) → is_heavy (own_at P rel A v) ≡ false
      → Walked P rel A vs ss bs x old a new → Walked P rel A (vs ++ (v ∷ [])) ss bs x old a new
  behind {vs = vs} {old = old} v quiet w = record {
    effect_is = w.effect_is;
    basics_are = w.basics_are;
    steps_are = w.steps_are;
    heavy_are = w.heavy_are ∙ ap (λ l. visits_of old.heavy.items ++ l) (sym (heavy_append vs (v ∷ []) ∙ ap (λ l. heavy_in P rel A vs ++ l) (quiet_one v quiet) ∙ append-nil (heavy_in P rel A vs)));
  }

  pub alone : (v : Visit) (old : Found) (x a : Basic) → is_heavy (own_at P rel A v) ≡ false → a ≡ x → Walked P rel A (v ∷ []) [] [] x old a old
  alone v old x a quiet is = record {
    effect_is = is;
    basics_are = sym (append-nil old.basics.items);
    steps_are = sym (append-nil (visits_of old.steps.items));
    heavy_are = sym (ap (λ l. visits_of old.heavy.items ++ l) (quiet_one v quiet) ∙ append-nil (visits_of old.heavy.items));
  }

  -- a part that is noted by itself
  pub noted : (v : Visit) (own : Basic) (old new : Found) → own ≡ own_at P rel A v → new.basics ≡ old.basics
      → visits_of new.steps.items ≡ visits_of old.steps.items ++ (if below_of own Mover then [] else v ∷ [])
      → visits_of new.heavy.items ≡ visits_of old.heavy.items ++ (if is_heavy own then v ∷ [] else [])
      → Walked P rel A (v ∷ []) (if below_of (own_at P rel A v) Mover then [] else v ∷ []) [] (own_at P rel A v) old own new
  noted v own old new is basics steps heavy = record {
    effect_is = is;
    basics_are = ap (λ z. z.items) basics ∙ sym (append-nil old.basics.items);
    steps_are = steps ∙ ap (λ (b : Basic). visits_of old.steps.items ++ (if below_of b Mover then [] else v ∷ [])) is;
    heavy_are = heavy ∙ ap (λ (b : Basic). visits_of old.heavy.items ++ (if is_heavy b then v ∷ [] else [])) is;
  }

  -- the same with other names
  pub with_basics : {vs ss : List Visit} {bs cs : List Basic} {x : Basic} {old new : Found} {a : Basic} → bs ≡ cs → Walked P rel A vs ss bs x old a new → Walked P rel A vs ss cs x old a new
  with_basics {vs = vs} {ss = ss} {x = x} {old = old} {new = new} {a = a} e w = subst (λ l. Walked P rel A vs ss l x old a new) e w

  pub with_visits : {vs ws ss : List Visit} {bs : List Basic} {x : Basic} {old new : Found} {a : Basic} → vs ≡ ws → Walked P rel A vs ss bs x old a new → Walked P rel A ws ss bs x old a new
  with_visits {ss = ss} {bs = bs} {x = x} {old = old} {new = new} {a = a} e w = subst (λ l. Walked P rel A l ss bs x old a new) e w

  pub with_effect : {vs ss : List Visit} {bs : List Basic} {x : Basic} {old new : Found} {a : Basic} (y b : Basic) → b ≡ y → Walked P rel A vs ss bs x old a new → Walked P rel A vs ss bs y old b new
  with_effect y b is w = record { effect_is = is; basics_are = w.basics_are; steps_are = w.steps_are; heavy_are = w.heavy_are }

  -- room was made for a part's own basic, which is put there at the end
  pub entered : {vs ss : List Visit} {x : Basic} {old front mid : Found} {a : Basic} (whole : List Basic) (new : Found) (place : ℕ) (d : Basic) → place ≡ next old
      → front.basics.items ≡ old.basics.items ++ Const ∷ [] → front.steps ≡ old.steps → front.heavy ≡ old.heavy
      → Walked P rel A vs ss (inner whole) x front a mid → whole ≡ x ∷ inner whole
      → d ≡ a → new.basics.items ≡ slice_set mid.basics.items place a → new.steps ≡ mid.steps → new.heavy ≡ mid.heavy
      → Walked P rel A vs ss whole x old d new
  entered {vs = vs} {ss = ss} {x = x} {old = old} {a = a} whole new place d place_is room steps heavy w whole_is is set steps_kept heavy_kept = record {
    effect_is = is ∙ w.effect_is;
    basics_are = set ∙ (λ i. slice_set ((w.basics_are ∙ ap (λ l. l ++ inner whole) room ∙ append_assoc old.basics.items (Const ∷ []) (inner whole)) i) (place_is i) a)
        ∙ set-append_seam old.basics.items Const (inner whole) a
        ∙ ap (λ b. old.basics.items ++ b ∷ inner whole) w.effect_is
        ∙ ap (λ l. old.basics.items ++ l) (sym whole_is);
    steps_are = ap (λ z. visits_of z.items) steps_kept ∙ w.steps_are ∙ ap (λ z. visits_of z.items ++ ss) steps;
    heavy_are = ap (λ z. visits_of z.items) heavy_kept ∙ w.heavy_are ∙ ap (λ z. visits_of z.items ++ heavy_in P rel A vs) heavy;
  }

  -- ---- how many basics there are

  mutual
    pub expr_long : (e : Expr) (H : Held) → length (expr_basics P rel A e H) ≡ nodes_of e
    expr_long (IntE v) H = refl
    expr_long (TruthE b) H = refl
    expr_long NullE H = refl
    expr_long ThisE H = refl
    expr_long (VarE x is_final ty) H = refl
    expr_long (NotE e) H = one_and (length (expr_basics P rel A e H)) (nodes_of e) (expr_long e H)
    expr_long (NegE e) H = one_and (length (expr_basics P rel A e H)) (nodes_of e) (expr_long e H)
    expr_long (BinaryE op a b) H = one_and _ _ (sum_of _ _ _ _ _ (length-append (expr_basics P rel A a H) (expr_basics P rel A b H)) (expr_long a H) (expr_long b H))
    expr_long (AndE a b) H = one_and _ _ (sum_of _ _ _ _ _ (length-append (expr_basics P rel A a H) (expr_basics P rel A b H)) (expr_long a H) (expr_long b H))
    expr_long (OrE a b) H = one_and _ _ (sum_of _ _ _ _ _ (length-append (expr_basics P rel A a H) (expr_basics P rel A b H)) (expr_long a H) (expr_long b H))
    expr_long (GetE e f) H = one_and (length (expr_basics P rel A e H)) (nodes_of e) (expr_long e H)
    expr_long (CallE e m args) H =
        one_and _ _ (sum_of _ _ _ _ _ (length-append (expr_basics P rel A e H) (exprs_basics P rel A args H)) (expr_long e H) (exprs_long args H))
    expr_long (NewE c args) H = one_and (length (exprs_basics P rel A args H)) (nodes_of_each args) (exprs_long args H)

    pub exprs_long : (es : Exprs) (H : Held) → length (exprs_basics P rel A es H) ≡ nodes_of_each es
    exprs_long no_exprs H = refl
    exprs_long (and_expr e es) H = sum_of _ _ _ _ _ (length-append (expr_basics P rel A e H) (exprs_basics P rel A es H)) (expr_long e H) (exprs_long es H)

  value_long : (value : Option Expr) (H : Held) → length (value_basics P rel A value H) ≡ value_nodes value
  value_long None H = refl
  value_long (Some e) H = expr_long e H

  lock_long : (t : Bool) (held taken : List Basic) (n : ℕ) → length held ≡ n → length taken ≡ n → length (basics_by_lock t held taken) ≡ n
  lock_long true held taken n one two = one
  lock_long false held taken n one two = two

  mutual
    pub stmt_long : (s : Stmt) (H : Held) → length (stmt_basics P rel A s H) ≡ stmt_nodes s
    stmt_long EmptyS H = refl
    stmt_long (BlockS ss) H = one_and _ _ (block_long ss H)
    stmt_long (LocalS x is_final ty e) H = one_and _ _ (expr_long e H)
    stmt_long (SetVarS x e) H = one_and _ _ (expr_long e H)
    stmt_long (SetFieldS e f g) H = one_and _ _ (sum_of _ _ _ _ _ (length-append (expr_basics P rel A e H) (expr_basics P rel A g H)) (expr_long e H) (expr_long g H))
    stmt_long (DoS e drops) H = one_and _ _ (expr_long e H)
    stmt_long (IfS c s t) H = one_and _ _ (sum_three _ _ _ _ _ _ _ _ (length-append (expr_basics P rel A c H) (stmt_basics P rel A s H ++ stmt_basics P rel A t H))
        (length-append (stmt_basics P rel A s H) (stmt_basics P rel A t H)) (expr_long c H) (stmt_long s H) (stmt_long t H))
    stmt_long (WhileS c s) H = one_and _ _ (sum_of _ _ _ _ _ (length-append (expr_basics P rel A c H) (stmt_basics P rel A s H)) (expr_long c H) (stmt_long s H))
    stmt_long (SyncS p s) H = one_and _ _ (lock_long (H p) (stmt_basics P rel A s H) (stmt_basics P rel A s (with_path p H)) (stmt_nodes s) (stmt_long s H) (stmt_long s (with_path p H)))
    stmt_long (ReturnS value) H = one_and _ _ (value_long value H)
    stmt_long (PrintS e) H = one_and _ _ (expr_long e H)
    stmt_long (StartS e) H = one_and _ _ (expr_long e H)

    pub block_long : (ss : Stmts) (H : Held) → length (block_basics P rel A ss H) ≡ stmt_nodes_each ss
    block_long no_stmts H = refl
    block_long (and_stmt s ss) H =
        sum_of _ _ _ _ _ (length-append (stmt_basics P rel A s H) (block_basics P rel A ss (after_stmt P s H))) (stmt_long s H) (block_long ss (after_stmt P s H))

  -- the number behind a walk
  pub behind_walk : {vs ss : List Visit} {bs : List Basic} {x : Basic} {old new : Found} {a : Basic} (n k : ℕ) → next old ≡ n → length bs ≡ k → Walked P rel A vs ss bs x old a new → next new ≡ n + k
  behind_walk {bs = bs} {old = old} {new = new} n k start long w = later (next new) (next old) (length bs) n k (ap length w.basics_are ∙ length-append old.basics.items bs) start long

  -- ---- expressions

  -- the same at another name of the number
  pub at_expr : (e : Expr) (H : Held) (loop : Option ℕ) {old new : Found} {a : Basic} (n : ℕ) → next old ≡ n → WalkedExpr P rel A e H loop old a new
      → Walked P rel A (expr_visits e n H loop) (expr_steps P rel A e n H loop) (expr_basics P rel A e H) (expr_effect P rel A e H) old a new
  at_expr e H loop {old = old} {new = new} {a = a} n is w =
      subst (λ k. Walked P rel A (expr_visits e k H loop) (expr_steps P rel A e k H loop) (expr_basics P rel A e H) (expr_effect P rel A e H) old a new) is w

  pub at_exprs : (es : Exprs) (H : Held) (loop : Option ℕ) {old new : Found} {a : Basic} (n : ℕ) → next old ≡ n → WalkedExprs P rel A es H loop old a new
      → Walked P rel A (exprs_visits es n H loop) (exprs_steps P rel A es n H loop) (exprs_basics P rel A es H) (exprs_effect P rel A es H) old a new
  at_exprs es H loop {old = old} {new = new} {a = a} n is w =
      subst (λ k. Walked P rel A (exprs_visits es k H loop) (exprs_steps P rel A es k H loop) (exprs_basics P rel A es H) (exprs_effect P rel A es H) old a new) is w

  pub whole_expr : (e : Expr) (H : Held) → expr_basics P rel A e H ≡ expr_effect P rel A e H ∷ inner (expr_basics P rel A e H)
  whole_expr (IntE v) H = refl
  whole_expr (TruthE b) H = refl
  whole_expr NullE H = refl
  whole_expr ThisE H = refl
  whole_expr (VarE x is_final ty) H = refl
  whole_expr (NotE e) H = refl
  whole_expr (NegE e) H = refl
  whole_expr (BinaryE op a b) H = refl
  whole_expr (AndE a b) H = refl
  whole_expr (OrE a b) H = refl
  whole_expr (GetE e f) H = refl
  whole_expr (CallE e m args) H = refl
  whole_expr (NewE c args) H = refl

  pub entered_expr : (e : Expr) (H : Held) (loop : Option ℕ) (old front mid new : Found) (a d : Basic) (place : ℕ) → place ≡ next old
      → front.basics.items ≡ old.basics.items ++ Const ∷ [] → front.steps ≡ old.steps → front.heavy ≡ old.heavy
      → InsideExpr P rel A e place H loop front a mid
      → d ≡ a → new.basics.items ≡ slice_set mid.basics.items place a → new.steps ≡ mid.steps → new.heavy ≡ mid.heavy
      → WalkedExpr P rel A e H loop old d new
  entered_expr e H loop old front mid new a d place is room steps heavy w given set steps_kept heavy_kept =
      subst (λ k. Walked P rel A (expr_visits e k H loop) (expr_steps P rel A e k H loop) (expr_basics P rel A e H) (expr_effect P rel A e H) old d new) is
      (entered (expr_basics P rel A e H) new place d is room steps heavy w (whole_expr e H) given set steps_kept heavy_kept)

  pub pair_walked : (e f : Expr) (H : Held) (loop : Option ℕ) (n : ℕ) {old mid new : Found} {a b : Basic} (d : Basic) (v : Visit) → is_heavy (own_at P rel A v) ≡ false → next old ≡ n + 1
      → WalkedExpr P rel A e H loop old a mid → WalkedExpr P rel A f H loop mid b new → d ≡ seq_of a b
      → Walked P rel A (expr_visits e (n + 1) H loop ++ (expr_visits f (n + 1 + nodes_of e) H loop ++ (v ∷ [])))
      (expr_steps P rel A e (n + 1) H loop ++ expr_steps P rel A f (n + 1 + nodes_of e) H loop)
      (expr_basics P rel A e H ++ expr_basics P rel A f H) (seq_of (expr_effect P rel A e H) (expr_effect P rel A f H)) old d new
  pair_walked e f H loop n d v quiet start one other is =
      two d (at_expr e H loop (n + 1) start one)
      (behind v quiet (at_expr f H loop (n + 1 + nodes_of e) (behind_walk (n + 1) (nodes_of e) start (expr_long e H) one) other)) is

  pub binary_walked : (op : CoreOp) (e f : Expr) (H : Held) (loop : Option ℕ) (n : ℕ) {old mid new : Found} {a b : Basic} (d : Basic) → next old ≡ n + 1
      → WalkedExpr P rel A e H loop old a mid → WalkedExpr P rel A f H loop mid b new → d ≡ seq_of a b → InsideExpr P rel A (BinaryE op e f) n H loop old d new
  binary_walked op e f H loop n d start one other is =
      pair_walked e f H loop n d (record { node = n; part = ExprP (BinaryE op e f); held = H; loop = loop }) refl start one other is

  pub and_walked : (e f : Expr) (H : Held) (loop : Option ℕ) (n : ℕ) {old mid new : Found} {a b : Basic} (d : Basic) → next old ≡ n + 1
      → WalkedExpr P rel A e H loop old a mid → WalkedExpr P rel A f H loop mid b new → d ≡ seq_of a b → InsideExpr P rel A (AndE e f) n H loop old d new
  and_walked e f H loop n d start one other is =
      pair_walked e f H loop n d (record { node = n; part = ExprP (AndE e f); held = H; loop = loop }) refl start one other is

  pub or_walked : (e f : Expr) (H : Held) (loop : Option ℕ) (n : ℕ) {old mid new : Found} {a b : Basic} (d : Basic) → next old ≡ n + 1
      → WalkedExpr P rel A e H loop old a mid → WalkedExpr P rel A f H loop mid b new → d ≡ seq_of a b → InsideExpr P rel A (OrE e f) n H loop old d new
  or_walked e f H loop n d start one other is =
      pair_walked e f H loop n d (record { node = n; part = ExprP (OrE e f); held = H; loop = loop }) refl start one other is

  pub call_walked : (e : Expr) (m : ℕ) (args : Exprs) (H : Held) (loop : Option ℕ) (n : ℕ) {old mid late : Found} {a b : Basic} (new : Found) (own c d : Basic) → next old ≡ n + 1
      → WalkedExpr P rel A e H loop old a mid → WalkedExprs P rel A args H loop mid b late
      → own ≡ call_of P rel A m (path_of P e) (paths_of P args) H → new.basics ≡ late.basics
      → visits_of new.steps.items ≡ visits_of late.steps.items ++ (if below_of own Mover then [] else visit n (ExprP (CallE e m args)) H loop)
      → visits_of new.heavy.items ≡ visits_of late.heavy.items ++ (if is_heavy own then visit n (ExprP (CallE e m args)) H loop else [])
      → c ≡ seq_of b own → d ≡ seq_of a c → InsideExpr P rel A (CallE e m args) n H loop old d new
  call_walked e m args H loop n {late = late} new own c d start one other own_is basics steps heavy c_is d_is =
      let v : Visit = record { node = n; part = ExprP (CallE e m args); held = H; loop = loop } in
      let rest = at_exprs args H loop (n + 1 + nodes_of e) (behind_walk (n + 1) (nodes_of e) start (expr_long e H) one) other in
      with_basics (ap (λ l. expr_basics P rel A e H ++ l) (append-nil (exprs_basics P rel A args H)))
      (two d (at_expr e H loop (n + 1) start one) (two c rest (noted v own late new own_is basics steps heavy) c_is) d_is)

  -- the same of a part that is known to be such a call
  pub call_known : (x : Expr) (e : Expr) (m : ℕ) (args : Exprs) (H : Held) (loop : Option ℕ) (n : ℕ) {old mid late : Found} {a b : Basic} (new : Found) (own c d : Basic) → x ≡ CallE e m args → next old ≡ n + 1
      → WalkedExpr P rel A e H loop old a mid → WalkedExprs P rel A args H loop mid b late
      → own ≡ call_of P rel A m (path_of P e) (paths_of P args) H → new.basics ≡ late.basics
      → visits_of new.steps.items ≡ visits_of late.steps.items ++ (if below_of own Mover then [] else visit n (ExprP x) H loop)
      → visits_of new.heavy.items ≡ visits_of late.heavy.items ++ (if is_heavy own then visit n (ExprP x) H loop else [])
      → c ≡ seq_of b own → d ≡ seq_of a c → InsideExpr P rel A x n H loop old d new
  call_known x e m args H loop n {old = old} {late = late} new own c d is start one other own_is basics steps heavy c_is d_is =
      subst (λ z. visits_of new.steps.items ≡ visits_of late.steps.items ++ (if below_of own Mover then [] else visit n (ExprP z) H loop)
      → visits_of new.heavy.items ≡ visits_of late.heavy.items ++ (if is_heavy own then visit n (ExprP z) H loop else [])
      → InsideExpr P rel A z n H loop old d new) (sym is)
      (λ s f. call_walked e m args H loop n new own c d start one other own_is basics s f c_is d_is) steps heavy

  pub new_walked : (class : ℕ) (args : Exprs) (H : Held) (loop : Option ℕ) (n : ℕ) {old new : Found} {a : Basic} (d : Basic) → next old ≡ n + 1
      → WalkedExprs P rel A args H loop old a new → d ≡ seq_of a Mover → InsideExpr P rel A (NewE class args) n H loop old d new
  new_walked class args H loop n d start w is =
      with_effect (seq_of (exprs_effect P rel A args H) Mover) d (is ∙ ap (λ z. seq_of z Mover) w.effect_is)
      (behind (record { node = n; part = ExprP (NewE class args); held = H; loop = loop }) refl (at_exprs args H loop (n + 1) start w))

  -- ---- arguments, one after the other

  pub nothing : (old : Found) → Walked P rel A [] [] [] Const old Const old
  nothing old = record {
    effect_is = refl;
    basics_are = sym (append-nil old.basics.items);
    steps_are = sym (append-nil (visits_of old.steps.items));
    heavy_are = sym (append-nil (visits_of old.heavy.items));
  }

  -- a basic so far, where any walk through the rest makes a walk through all
  abbrev pub SoFar : Exprs → Exprs → Held → Option ℕ → Found → Basic → Found → Type 0
  SoFar rest all H loop old so_far now = (b : Basic) (new : Found) → WalkedExprs P rel A rest H loop now b new → WalkedExprs P rel A all H loop old (seq_of so_far b) new

  pub start_exprs : (es : Exprs) (H : Held) (loop : Option ℕ) (old : Found) → SoFar es es H loop old Const old
  start_exprs es H loop old b new w = with_effect (exprs_effect P rel A es H) (seq_of Const b) (unit_before b ∙ w.effect_is) w

  pub more_exprs : (es : List CoreExpr) (i : ℕ) (e : CoreExpr) (H : Held) (loop : Option ℕ) (all : Exprs) (old now mid : Found) (so_far a after : Basic) → i < length es → e ≡ get_or es i e
      → WalkedExpr P rel A (expr_of e) H loop now a mid → after ≡ seq_of so_far a
      → SoFar (exprs_from (drop i es)) all H loop old so_far now → SoFar (exprs_from (drop (i + 1) es)) all H loop old after mid
  more_exprs es i e H loop all old now mid so_far a after below is one after_is given b new w =
      let rest = exprs_from (drop (i + 1) es) in
      let n = next now in
      let both : WalkedExprs P rel A (and_expr (expr_of e) rest) H loop now (seq_of a b) new =
      two (seq_of a b) one (at_exprs rest H loop (n + nodes_of (expr_of e)) (behind_walk n (nodes_of (expr_of e)) refl (expr_long (expr_of e) H) one) w) refl in
      let whole = given (seq_of a b) new (subst (λ l. WalkedExprs P rel A (exprs_from l) H loop now (seq_of a b) new) (sym (next_drop es i e below is)) both) in
      with_effect (exprs_effect P rel A all H) (seq_of after b)
      (ap (λ z. seq_of z b) after_is ∙ associative so_far a b ∙ whole.effect_is) whole

  pub end_exprs : (es : List CoreExpr) (i : ℕ) (H : Held) (loop : Option ℕ) (all : Exprs) (old now : Found) (so_far : Basic) → drop i es ≡ []
      → SoFar (exprs_from (drop i es)) all H loop old so_far now → WalkedExprs P rel A all H loop old so_far now
  end_exprs es i H loop all old now so_far none given =
      let whole = given Const now (subst (λ l. WalkedExprs P rel A (exprs_from l) H loop now Const now) (sym none) (nothing now)) in
      with_effect (exprs_effect P rel A all H) so_far (sym (unit_after so_far) ∙ whole.effect_is) whole
