-- The effect of a body depends only on the paths near its method.
use Rattle.std.proofs.Common.{◌≡◌, ℕ, suc, Bool, true, false, List, ◌∷◌, ◌++◌, Some, None, refl, sym, ap, subst, ◌&&◌, ◌||◌, ◌==◌, arith}
use Rattle.std.specs.Prelude.{Option, Contains, slice_get, if◌then◌else◌}
use Rattle.std.specs.List.{list_all}
use Rattle.std.proofs.lemmas.Bool.Decides.{nat_tests}
use Rattle.std.proofs.lemmas.List.Elements.{Contains-append_left, Contains-append_right}
use Rattle.paths.specs.Paths.{PathData, path_eq, extended}
use Rattle.paths.specs.Renamings.{under_call}
use Rattle.algebra.specs.declared.basic.Basic.{Basic}
use Rattle.algebra.specs.declared.basic.Basic.TheVariants.{Mover, Error}
use Rattle.algebra.specs.Basics.{seq_of, join_of, star_of}
use Rattle.algebra.specs.HeldPaths.{Held, has_path, with_path, holds_at}
use Rattle.algebra.proofs.Sequences.{seq_same}
use Rattle.core_program.specs.Core.{Program, Method, Expr, Exprs, IntE, TruthE, NullE, ThisE, VarE, NotE, NegE, BinaryE, AndE, OrE, GetE, CallE, NewE, no_exprs, and_expr}
use Rattle.core_program.specs.Core.{Stmt, Stmts, EmptyS, BlockS, LocalS, SetVarS, SetFieldS, DoS, IfS, WhileS, SyncS, ReturnS, PrintS, StartS, no_stmts, and_stmt}
use Rattle.core_program.specs.Locks.{path_of}
use Rattle.rules.specs.declared.guard.Guard.{Guard}
use Rattle.rules.specs.declared.guard.Guard.TheVariants.{Final, Free, Named, Unnamed, WriteNamed, WriteUnnamed}
use Rattle.rules.specs.Guards.{guard_of, guard_path}
use Rattle.rules.specs.Mentions.{Mention, Accesses, Calls, Locks, Names, expr_mentions, exprs_mentions, mentions, block_mentions, paths_of}
use Rattle.rules.specs.Near.{Near, named, called, guarded, locked, MethodPaths, AreRelevant, rel_of, rel_paths, IsRel}
use Rattle.rules.specs.Effect.{Assignment, required_paths, write_guarded, access_effect, held_under, sync_effect, after_local, after_stmt, call_of, expr_effect, exprs_effect, effect, block_effect}

pub contains_here : {A : Type 0} (x : A) (xs : List A) → Contains (x ∷ xs) x
contains_here x xs = (0, omega arith, refl)

pub contains_later : {A : Type 0} (x y : A) (xs : List A) → Contains xs y → Contains (x ∷ xs) y
contains_later x y xs (k, below, is) = (suc k, omega arith, is)

module _ (P : Program) (rel : ℕ → List PathData) (A : Assignment) (N : PathData → Type 0) where
  -- these paths have all that the parts with these mentions look at
  pub record Covers (xs : List Mention) : Type 0 where
    pub guards : (e : Expr) (f : ℕ) (p : PathData) → Contains xs (Accesses e f) → guard_path (guard_of P f (path_of P e)) ≡ Some p → N p
    pub locks : (p : PathData) → Contains xs (Locks p) → N p
    pub calls : (e : Expr) (m : ℕ) (args : Exprs) (q p : PathData) → Contains xs (Calls e m args) → has_path (rel m) q ≡ true → under_call (path_of P e) (paths_of P args) q ≡ Some p → N p
    pub names : (x : ℕ) (e : Expr) (start q p : PathData) → Contains xs (Names x e) → path_of P e ≡ Some start → N q → q.root ≡ x → extended start q.fields ≡ Some p → N p

  pub covers_part : (xs ys : List Mention) → ((x : Mention) → Contains ys x → Contains xs x) → Covers xs → Covers ys
  covers_part xs ys part c = record {
    guards = λ e f p has. c.guards e f p (part _ has);
    locks = λ p has. c.locks p (part _ has);
    calls = λ e m args q p has. c.calls e m args q p (part _ has);
    names = λ x e start q p has. c.names x e start q p (part _ has);
  }

  covers_left : (xs ys : List Mention) → Covers (xs ++ ys) → Covers xs
  covers_left xs ys c = covers_part (xs ++ ys) xs (λ x has. Contains-append_left xs ys x has) c

  covers_right : (xs ys : List Mention) → Covers (xs ++ ys) → Covers ys
  covers_right xs ys c = covers_part (xs ++ ys) ys (λ x has. Contains-append_right xs ys x has) c

  covers_rest : (x : Mention) (xs : List Mention) → Covers (x ∷ xs) → Covers xs
  covers_rest x xs c = covers_part (x ∷ xs) xs (λ y has. contains_later x y xs has) c

  -- two sets that agree on these paths
  abbrev Agree : Held → Held → Type 0
  Agree H K = (q : PathData) → N q → H q ≡ K q

  access_same : (writes : Bool) (g : Guard) (H K : Held) → ((p : PathData) → guard_path g ≡ Some p → H p ≡ K p) → access_effect writes g H ≡ access_effect writes g K
  access_same writes Final H K same = refl
  access_same writes Free H K same = refl
  access_same writes (Named p) H K same = ap (λ b. if b then Mover else Error) (same p refl)
  access_same writes Unnamed H K same = refl
  access_same writes (WriteNamed p) H K same = ap (write_guarded writes) (same p refl)
  access_same writes WriteUnnamed H K same = refl

  holds_same : (o : Option PathData) (H K : Held) → ((p : PathData) → o ≡ Some p → H p ≡ K p) → holds_at o H ≡ holds_at o K
  holds_same None H K same = refl
  holds_same (Some p) H K same = same p refl

  and_same : (a b d : Bool) → (a ≡ true → b ≡ d) → (a && b) ≡ (a && d)
  and_same true b d same = same refl
  and_same false b d same = refl

  if_same : (t a b c d : Bool) → (t ≡ true → a ≡ c) → b ≡ d → (if t then a else b) ≡ (if t then c else d)
  if_same true a b c d same other = same refl
  if_same false a b c d same other = other

  equal_numbers : (a b : ℕ) → (a == b) ≡ true → a ≡ b
  equal_numbers a b e = grind (arith, nat_tests)

  under_same : (xs : List Mention) (e : Expr) (m : ℕ) (args : Exprs) (H K : Held) → Covers xs → Contains xs (Calls e m args) → (Agree H K) → held_under (rel m) (path_of P e) (paths_of P args) H ≡ held_under (rel m) (path_of P e) (paths_of P args) K
  under_same xs e m args H K c has same = λ i q. and_same (has_path (rel m) q) _ _
      (λ relevant. holds_same (under_call (path_of P e) (paths_of P args) q) H K (λ p is. same p (c.calls e m args q p has relevant is))) i

  -- a call at a set that its callee begins with
  abbrev call_with : ℕ → Held → Basic
  call_with m S = if list_all S (required_paths (slice_get P.methods m)) then A m S else Error

  call_same : (xs : List Mention) (e : Expr) (m : ℕ) (args : Exprs) (H K : Held) → Covers xs → Contains xs (Calls e m args) → Agree H K → call_of P rel A m (path_of P e) (paths_of P args) H ≡ call_of P rel A m (path_of P e) (paths_of P args) K
  call_same xs e m args H K c has same = ap (call_with m) (under_same xs e m args H K c has same)

  with_same : (p : PathData) (H K : Held) → Agree H K → Agree (with_path p H) (with_path p K)
  with_same p H K same q near = ap (λ b. path_eq p q || b) (same q near)

  local_same : (xs : List Mention) (x : ℕ) (e : Expr) (o : Option PathData) → path_of P e ≡ o → (H K : Held) → Covers xs → Contains xs (Names x e) → Agree H K → Agree (after_local H x o) (after_local K x o)
  local_same xs x e None is H K c has same q near = if_same (q.root == x) false (H q) false (K q) (λ _. refl) (same q near)
  local_same xs x e (Some start) is H K c has same q near = if_same (q.root == x) _ (H q) _ (K q)
      (λ rooted. holds_same (extended start q.fields) H K (λ p fits. same p (c.names x e start q p has is near (equal_numbers _ _ rooted) fits)))
      (same q near)

  after_same : (s : Stmt) (H K : Held) → Covers (mentions s) → Agree H K → Agree (after_stmt P s H) (after_stmt P s K)
  after_same (LocalS x true ty e) H K c same = local_same _ x e (path_of P e) refl H K c (contains_here (Names x e) (expr_mentions e)) same
  after_same (LocalS x false ty e) H K c same = same
  after_same EmptyS H K c same = same
  after_same (BlockS ss) H K c same = same
  after_same (SetVarS x e) H K c same = same
  after_same (SetFieldS e f g) H K c same = same
  after_same (DoS e drops) H K c same = same
  after_same (IfS b s t) H K c same = same
  after_same (WhileS b s) H K c same = same
  after_same (SyncS p s) H K c same = same
  after_same (ReturnS e) H K c same = same
  after_same (PrintS e) H K c same = same
  after_same (StartS e) H K c same = same

  guard_same : (writes : Bool) (xs : List Mention) (e : Expr) (f : ℕ) (H K : Held) → Covers xs → Contains xs (Accesses e f) → Agree H K → access_effect writes (guard_of P f (path_of P e)) H ≡ access_effect writes (guard_of P f (path_of P e)) K
  guard_same writes xs e f H K c has same = access_same writes (guard_of P f (path_of P e)) H K (λ p is. same p (c.guards e f p has is))

  mutual
    pub expr_same : (e : Expr) (H K : Held) → Covers (expr_mentions e) → Agree H K → expr_effect P rel A e H ≡ expr_effect P rel A e K
    expr_same (IntE n) H K c same = refl
    expr_same (TruthE b) H K c same = refl
    expr_same NullE H K c same = refl
    expr_same ThisE H K c same = refl
    expr_same (VarE x is_final ty) H K c same = refl
    expr_same (NotE e) H K c same = expr_same e H K c same
    expr_same (NegE e) H K c same = expr_same e H K c same
    expr_same (BinaryE op a b) H K c same = seq_same (expr_same a H K (covers_left (expr_mentions a) (expr_mentions b) c) same) (expr_same b H K (covers_right (expr_mentions a) (expr_mentions b) c) same)
    expr_same (AndE a b) H K c same = seq_same (expr_same a H K (covers_left (expr_mentions a) (expr_mentions b) c) same) (expr_same b H K (covers_right (expr_mentions a) (expr_mentions b) c) same)
    expr_same (OrE a b) H K c same = seq_same (expr_same a H K (covers_left (expr_mentions a) (expr_mentions b) c) same) (expr_same b H K (covers_right (expr_mentions a) (expr_mentions b) c) same)
    expr_same (GetE e f) H K c same = seq_same (expr_same e H K (covers_rest (Accesses e f) (expr_mentions e) c) same)
        (guard_same false _ e f H K c (contains_here (Accesses e f) (expr_mentions e)) same)
    expr_same (CallE e m args) H K c same =
        let rest = covers_rest (Calls e m args) (expr_mentions e ++ exprs_mentions args) c in
        seq_same (expr_same e H K (covers_left (expr_mentions e) (exprs_mentions args) rest) same)
        (seq_same (exprs_same args H K (covers_right (expr_mentions e) (exprs_mentions args) rest) same)
        (call_same _ e m args H K c (contains_here (Calls e m args) (expr_mentions e ++ exprs_mentions args)) same))
    expr_same (NewE x args) H K c same = seq_same (exprs_same args H K c same) refl

    exprs_same : (es : Exprs) (H K : Held) → Covers (exprs_mentions es) → Agree H K → exprs_effect P rel A es H ≡ exprs_effect P rel A es K
    exprs_same no_exprs H K c same = refl
    exprs_same (and_expr e es) H K c same = seq_same (expr_same e H K (covers_left (expr_mentions e) (exprs_mentions es) c) same) (exprs_same es H K (covers_right (expr_mentions e) (exprs_mentions es) c) same)

  mutual
    pub stmt_same : (s : Stmt) (H K : Held) → Covers (mentions s) → Agree H K → effect P rel A s H ≡ effect P rel A s K
    stmt_same EmptyS H K c same = refl
    stmt_same (BlockS ss) H K c same = block_same ss H K c same
    stmt_same (LocalS x true ty e) H K c same = seq_same (expr_same e H K (covers_rest (Names x e) (expr_mentions e) c) same) refl
    stmt_same (LocalS x false ty e) H K c same = seq_same (expr_same e H K c same) refl
    stmt_same (SetVarS x e) H K c same = seq_same (expr_same e H K c same) refl
    stmt_same (SetFieldS e f g) H K c same =
        let rest = covers_rest (Accesses e f) (expr_mentions e ++ expr_mentions g) c in
        seq_same (expr_same e H K (covers_left (expr_mentions e) (expr_mentions g) rest) same)
        (seq_same (expr_same g H K (covers_right (expr_mentions e) (expr_mentions g) rest) same)
        (guard_same true _ e f H K c (contains_here (Accesses e f) (expr_mentions e ++ expr_mentions g)) same))
    stmt_same (DoS e drops) H K c same = expr_same e H K c same
    stmt_same (IfS b s t) H K c same =
        let parts = covers_right (expr_mentions b) (mentions s ++ mentions t) c in
        let same_s = stmt_same s H K (covers_left (mentions s) (mentions t) parts) same in
        let same_t = stmt_same t H K (covers_right (mentions s) (mentions t) parts) same in
        seq_same (expr_same b H K (covers_left (expr_mentions b) (mentions s ++ mentions t) c) same) (λ i. join_of (same_s i) (same_t i))
    stmt_same (WhileS b s) H K c same =
        let same_b = expr_same b H K (covers_left (expr_mentions b) (mentions s) c) same in
        let same_s = stmt_same s H K (covers_right (expr_mentions b) (mentions s) c) same in
        seq_same same_b (λ i. star_of (seq_of (same_s i) (same_b i)))
    stmt_same (SyncS p s) H K c same =
        let rest = covers_rest (Locks p) (mentions s) c in
        let same_p = same p (c.locks p (contains_here (Locks p) (mentions s))) in
        let held = stmt_same s H K rest same in
        let taken = stmt_same s (with_path p H) (with_path p K) rest (with_same p H K same) in
        λ i. sync_effect (same_p i) (held i) (taken i)
    stmt_same (ReturnS None) H K c same = refl
    stmt_same (ReturnS (Some e)) H K c same = expr_same e H K c same
    stmt_same (PrintS e) H K c same = seq_same (expr_same e H K c same) refl
    stmt_same (StartS e) H K c same = seq_same (expr_same e H K c same) refl

    pub block_same : (ss : Stmts) (H K : Held) → Covers (block_mentions ss) → Agree H K → block_effect P rel A ss H ≡ block_effect P rel A ss K
    block_same no_stmts H K c same = refl
    block_same (and_stmt s ss) H K c same =
        let first = covers_left (mentions s) (block_mentions ss) c in
        let rest = covers_right (mentions s) (block_mentions ss) c in
        seq_same (stmt_same s H K first same) (block_same ss (after_stmt P s H) (after_stmt P s K) rest (after_same s H K first same))

module _ (P : Program) (sets : List MethodPaths) (relevant : AreRelevant P sets) where
  pub rel_is : (m : ℕ) (o : Option MethodPaths) → slice_get sets m ≡ o → (q : PathData) → has_path (rel_paths o) q ≡ true → IsRel P m q
  rel_is m None is q has = absurd cc
  rel_is m (Some paths) is q has = ((relevant.each m paths is).rel q).0 has

  pub near_covers : (A : Assignment) (m : ℕ) (method : Method) → slice_get P.methods m ≡ Some method → Covers P (rel_of sets) A (Near P m) (mentions method.body)
  near_covers A m method is = record {
    guards = λ e f p has guard. guarded e f (method, is, has) guard;
    locks = λ p has. locked (method, is, has);
    calls = λ e callee args q p has in_rel under. let r = rel_is callee _ refl q in_rel in called e callee args q (method, is, has) r.0 r.1 under;
    names = λ x e start q p has path near rooted fits. named q e start near (method, is, subst (λ y. Contains (mentions method.body) (Names y e)) (sym rooted) has) path fits;
  }

  pub near_only_in : (A : Assignment) (m : ℕ) (method : Method) → slice_get P.methods m ≡ Some method → (H K : Held) → ((q : PathData) → Near P m q → H q ≡ K q) → effect P (rel_of sets) A method.body H ≡ effect P (rel_of sets) A method.body K
  near_only_in A m method is H K same = stmt_same P (rel_of sets) A (Near P m) method.body H K (near_covers A m method is) same

pub near_only : (P : Program) (sets : List MethodPaths) (A : Assignment) → AreRelevant P sets → (m : ℕ) (method : Method) → slice_get P.methods m ≡ Some method → (H K : Held) → ((q : PathData) → Near P m q → H q ≡ K q) → effect P (rel_of sets) A method.body H ≡ effect P (rel_of sets) A method.body K
near_only P sets A relevant m method is H K same = near_only_in P sets relevant A m method is H K same

-- of any part whose mentions are the body's
pub near_only_expr : (P : Program) (sets : List MethodPaths) (A : Assignment) → AreRelevant P sets → (m : ℕ) (method : Method) → slice_get P.methods m ≡ Some method → (e : Expr)
    → ((x : Mention) → Contains (expr_mentions e) x → Contains (mentions method.body) x) → (H K : Held) → ((q : PathData) → Near P m q → H q ≡ K q) → expr_effect P (rel_of sets) A e H ≡ expr_effect P (rel_of sets) A e K
near_only_expr P sets A relevant m method is e part H K same =
    expr_same P (rel_of sets) A (Near P m) e H K (covers_part P (rel_of sets) A (Near P m) (mentions method.body) (expr_mentions e) part (near_covers P sets relevant A m method is)) same

pub near_only_stmt : (P : Program) (sets : List MethodPaths) (A : Assignment) → AreRelevant P sets → (m : ℕ) (method : Method) → slice_get P.methods m ≡ Some method → (s : Stmt)
    → ((x : Mention) → Contains (mentions s) x → Contains (mentions method.body) x) → (H K : Held) → ((q : PathData) → Near P m q → H q ≡ K q) → effect P (rel_of sets) A s H ≡ effect P (rel_of sets) A s K
near_only_stmt P sets A relevant m method is s part H K same =
    stmt_same P (rel_of sets) A (Near P m) s H K (covers_part P (rel_of sets) A (Near P m) (mentions method.body) (mentions s) part (near_covers P sets relevant A m method is)) same
