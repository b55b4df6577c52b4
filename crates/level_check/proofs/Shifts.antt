-- Walks under other levels: a walk comes to the same calls under another level, each under the greater of the two.
use Rattle.std.proofs.Common.{◌≡◌, inl, inr, ℕ, ◌+◌, Bool, true, false, List, [], ◌∷◌, ◌++◌, Some, None, sym, ap, ◌∙◌, arith}
use Rattle.std.specs.Prelude.{Contains, nat_lt, max, if◌then◌else◌}
use Rattle.std.proofs.lemmas.List.Elements.{Contains-append_left, Contains-append_right, Contains-append_cases}
use Rattle.base.proofs.Lists.{contains_cases, contains_later}
use Rattle.paths.specs.Paths.{PathData}
use Rattle.algebra.specs.HeldPaths.{Held, with_path}
use Rattle.core_program.specs.declared.types.CoreType.{CoreType}
use Rattle.core_program.specs.Core.{Program, Method, Expr, Exprs, IntE, TruthE, NullE, ThisE, VarE, NotE, NegE, BinaryE, AndE, OrE, GetE, CallE, NewE, no_exprs, and_expr}
use Rattle.core_program.specs.Core.{Stmt, Stmts, EmptyS, BlockS, LocalS, SetVarS, SetFieldS, DoS, IfS, WhileS, SyncS, ReturnS, PrintS, StartS, no_stmts, and_stmt}
use Rattle.core_program.specs.Locks.{path_of}
use Rattle.rules.specs.Mentions.{paths_of}
use Rattle.rules.specs.Effect.{after_stmt}
use Rattle.levels.specs.SlotTypes.{slot_types}
use Rattle.levels.specs.Walks.{LevelVisit, Comes, Bad, lock_class, syncs_in, call_visits, expr_visits, exprs_visits, sync_visits, visits, block_visits, body_visits}

pub no_visit : {A : Type 0} (v : A) → Contains [] v → ⊥
no_visit v (k, below, is) = omega (arith, below)

abbrev visit_method : LevelVisit → ℕ
visit_method (Comes m known u) = m
visit_method (Bad p c u) = 0

abbrev pub visit_known : LevelVisit → ℕ → Held
visit_known (Comes m known u) = known
visit_known (Bad p c u) = λ k q. false

abbrev visit_under : LevelVisit → ℕ
visit_under (Comes m known u) = u
visit_under (Bad p c u) = 0

abbrev pub is_call : LevelVisit → Bool
is_call (Comes m known u) = true
is_call (Bad p c u) = false

module _ (u : ℕ) where
  -- the calls of the second list are those of the first, each under the greater of its level and this one
  pub record Shifted (xs ys : List LevelVisit) : Type 0 where
    pub up : (m : ℕ) (known : ℕ → Held) (w : ℕ) → Contains xs (Comes m known w) → Contains ys (Comes m known (max u w))
    pub down : (m : ℕ) (known : ℕ → Held) (v : ℕ) → Contains ys (Comes m known v) → (w : ℕ) × (v ≡ max u w) × Contains xs (Comes m known w)

  shifted_none : Shifted [] []
  shifted_none = record { up = λ m known w has. absurd (no_visit _ has); down = λ m known v has. absurd (no_visit _ has) }

  shifted_both : (xs ys zs ws : List LevelVisit) → Shifted xs zs → Shifted ys ws → Shifted (xs ++ ys) (zs ++ ws)
  shifted_both xs ys zs ws first second = record {
    up = λ m known w has. elim (Contains-append_cases xs ys (Comes m known w) has) as (λ _. Contains (zs ++ ws) (Comes m known (max u w))) [
      | inl a ↦ Contains-append_left zs ws (Comes m known (max u w)) (first.up m known w a)
      | inr b ↦ Contains-append_right zs ws (Comes m known (max u w)) (second.up m known w b)
    ];
    down = λ m known v has. elim (Contains-append_cases zs ws (Comes m known v) has) as (λ _. (w : ℕ) × (v ≡ max u w) × Contains (xs ++ ys) (Comes m known w)) [
      | inl a ↦ let r = first.down m known v a in (r.0, r.1, Contains-append_left xs ys (Comes m known r.0) r.2)
      | inr b ↦ let r = second.down m known v b in (r.0, r.1, Contains-append_right xs ys (Comes m known r.0) r.2)
    ];
  }

  shifted_call : (m : ℕ) (known : ℕ → Held) (low high : ℕ) → high ≡ max u low → Shifted (Comes m known low ∷ []) (Comes m known high ∷ [])
  shifted_call m known low high is = record {
    up = λ n other w has. elim (contains_cases (Comes m known low) (Comes n other w) [] has) as (λ _. Contains (Comes m known high ∷ []) (Comes n other (max u w))) [
      | inl same ↦ (0, omega arith, (λ i. Comes (visit_method (same i)) (visit_known (same i)) high) ∙ ap (λ k. Comes n other k) (is ∙ ap (λ k. max u k) (ap visit_under same)))
      | inr later ↦ absurd (no_visit _ later)
    ];
    down = λ n other v has. elim (contains_cases (Comes m known high) (Comes n other v) [] has) as (λ _. (w : ℕ) × (v ≡ max u w) × Contains (Comes m known low ∷ []) (Comes n other w)) [
      | inl same ↦ (low, sym (ap visit_under same) ∙ is, (0, omega arith, λ i. Comes (visit_method (same i)) (visit_known (same i)) low))
      | inr later ↦ absurd (no_visit _ later)
    ];
  }

  -- a bad one more is no call
  bad_first : (p c v : ℕ) (xs ys : List LevelVisit) → Shifted xs ys → Shifted (Bad p c v ∷ xs) ys
  bad_first p c v xs ys s = record {
    up = λ m known w has. elim (contains_cases (Bad p c v) (Comes m known w) xs has) as (λ _. Contains ys (Comes m known (max u w))) [
      | inl same ↦ absurd (let e : false ≡ true = ap is_call same in cc)
      | inr later ↦ s.up m known w later
    ];
    down = λ m known k has. let r = s.down m known k has in (r.0, r.1, contains_later (Bad p c v) (Comes m known r.0) xs r.2);
  }

  bad_second : (p c v : ℕ) (xs ys : List LevelVisit) → Shifted xs ys → Shifted xs (Bad p c v ∷ ys)
  bad_second p c v xs ys s = record {
    up = λ m known w has. contains_later (Bad p c v) (Comes m known (max u w)) ys (s.up m known w has);
    down = λ m known k has. elim (contains_cases (Bad p c v) (Comes m known k) ys has) as (λ _. (w : ℕ) × (k ≡ max u w) × Contains xs (Comes m known w)) [
      | inl same ↦ absurd (let e : false ≡ true = ap is_call same in cc)
      | inr later ↦ s.down m known k later
    ];
  }

  -- the levels of the parts of a `synchronized`
  taken_level : (a b l : ℕ) → b ≡ max u a → max b l ≡ max u (max a l)
  taken_level a b l is = omega (arith, is)

  module _ (P : Program) (rel : ℕ → List PathData) (a b : ℕ) (is : b ≡ max u a) where
    mutual
      expr_shifts : (e : Expr) (H : Held) → Shifted (expr_visits P rel e H a) (expr_visits P rel e H b)
      expr_shifts (IntE n) H = shifted_none
      expr_shifts (TruthE t) H = shifted_none
      expr_shifts NullE H = shifted_none
      expr_shifts ThisE H = shifted_none
      expr_shifts (VarE x is_final ty) H = shifted_none
      expr_shifts (NotE e) H = expr_shifts e H
      expr_shifts (NegE e) H = expr_shifts e H
      expr_shifts (BinaryE op e f) H = shifted_both (expr_visits P rel e H a) (expr_visits P rel f H a) (expr_visits P rel e H b) (expr_visits P rel f H b) (expr_shifts e H) (expr_shifts f H)
      expr_shifts (AndE e f) H = shifted_both (expr_visits P rel e H a) (expr_visits P rel f H a) (expr_visits P rel e H b) (expr_visits P rel f H b) (expr_shifts e H) (expr_shifts f H)
      expr_shifts (OrE e f) H = shifted_both (expr_visits P rel e H a) (expr_visits P rel f H a) (expr_visits P rel e H b) (expr_visits P rel f H b) (expr_shifts e H) (expr_shifts f H)
      expr_shifts (GetE e f) H = expr_shifts e H
      expr_shifts (CallE e m args) H =
          shifted_both (expr_visits P rel e H a) (exprs_visits P rel args H a ++ call_visits P rel m (path_of P e) (paths_of P args) H a)
          (expr_visits P rel e H b) (exprs_visits P rel args H b ++ call_visits P rel m (path_of P e) (paths_of P args) H b) (expr_shifts e H)
          (shifted_both (exprs_visits P rel args H a) (call_visits P rel m (path_of P e) (paths_of P args) H a) (exprs_visits P rel args H b) (call_visits P rel m (path_of P e) (paths_of P args) H b)
          (exprs_shift args H) (shifted_call m _ a b is))
      expr_shifts (NewE c args) H = exprs_shift args H

      exprs_shift : (es : Exprs) (H : Held) → Shifted (exprs_visits P rel es H a) (exprs_visits P rel es H b)
      exprs_shift no_exprs H = shifted_none
      exprs_shift (and_expr e es) H = shifted_both (expr_visits P rel e H a) (exprs_visits P rel es H a) (expr_visits P rel e H b) (exprs_visits P rel es H b) (expr_shifts e H) (exprs_shift es H)

  module _ (P : Program) (rel : ℕ → List PathData) (level : ℕ → ℕ) (slots : List CoreType) where
    sync_shifts : (held : Bool) (n class a b : ℕ) (as_a taken_a as_b taken_b : List LevelVisit) → Shifted as_a as_b → Shifted taken_a taken_b
        → Shifted (sync_visits P rel level slots held n class a as_a taken_a) (sync_visits P rel level slots held n class b as_b taken_b)
    sync_shifts true n class a b as_a taken_a as_b taken_b first second = first
    sync_shifts false n class a b as_a taken_a as_b taken_b first second = by_levels (nat_lt a (level class)) (nat_lt b (level class))
      where
        by_levels : (x y : Bool) → Shifted (if x then taken_a else Bad n class a ∷ taken_a) (if y then taken_b else Bad n class b ∷ taken_b)
        by_levels true true = second
        by_levels true false = bad_second n class b taken_a taken_b second
        by_levels false true = bad_first n class a taken_a taken_b second
        by_levels false false = bad_first n class a taken_a (Bad n class b ∷ taken_b) (bad_second n class b taken_a taken_b second)

    mutual
      stmt_shifts : (s : Stmt) (n : ℕ) (H : Held) (a b : ℕ) → b ≡ max u a → Shifted (visits P rel level slots s n H a) (visits P rel level slots s n H b)
      stmt_shifts EmptyS n H a b is = shifted_none
      stmt_shifts (BlockS ss) n H a b is = block_shifts ss n H a b is
      stmt_shifts (LocalS x is_final ty e) n H a b is = expr_shifts P rel a b is e H
      stmt_shifts (SetVarS x e) n H a b is = expr_shifts P rel a b is e H
      stmt_shifts (SetFieldS e f g) n H a b is = shifted_both (expr_visits P rel e H a) (expr_visits P rel g H a) (expr_visits P rel e H b) (expr_visits P rel g H b) (expr_shifts P rel a b is e H) (expr_shifts P rel a b is g H)
      stmt_shifts (DoS e drops) n H a b is = expr_shifts P rel a b is e H
      stmt_shifts (IfS c s t) n H a b is =
          shifted_both (expr_visits P rel c H a) (visits P rel level slots s n H a ++ visits P rel level slots t (n + syncs_in s) H a)
          (expr_visits P rel c H b) (visits P rel level slots s n H b ++ visits P rel level slots t (n + syncs_in s) H b) (expr_shifts P rel a b is c H)
          (shifted_both (visits P rel level slots s n H a) (visits P rel level slots t (n + syncs_in s) H a) (visits P rel level slots s n H b) (visits P rel level slots t (n + syncs_in s) H b)
          (stmt_shifts s n H a b is) (stmt_shifts t (n + syncs_in s) H a b is))
      stmt_shifts (WhileS c s) n H a b is = shifted_both (expr_visits P rel c H a) (visits P rel level slots s n H a) (expr_visits P rel c H b) (visits P rel level slots s n H b) (expr_shifts P rel a b is c H) (stmt_shifts s n H a b is)
      stmt_shifts (SyncS p s) n H a b is =
          sync_shifts (H p) n (lock_class P slots p) a b (visits P rel level slots s (n + 1) H a) (visits P rel level slots s (n + 1) (with_path p H) (max a (level (lock_class P slots p))))
          (visits P rel level slots s (n + 1) H b) (visits P rel level slots s (n + 1) (with_path p H) (max b (level (lock_class P slots p)))) (stmt_shifts s (n + 1) H a b is)
          (stmt_shifts s (n + 1) (with_path p H) (max a (level (lock_class P slots p))) (max b (level (lock_class P slots p))) (taken_level a b (level (lock_class P slots p)) is))
      stmt_shifts (ReturnS None) n H a b is = shifted_none
      stmt_shifts (ReturnS (Some e)) n H a b is = expr_shifts P rel a b is e H
      stmt_shifts (PrintS e) n H a b is = expr_shifts P rel a b is e H
      stmt_shifts (StartS e) n H a b is = expr_shifts P rel a b is e H

      block_shifts : (ss : Stmts) (n : ℕ) (H : Held) (a b : ℕ) → b ≡ max u a → Shifted (block_visits P rel level slots ss n H a) (block_visits P rel level slots ss n H b)
      block_shifts no_stmts n H a b is = shifted_none
      block_shifts (and_stmt s ss) n H a b is =
          shifted_both (visits P rel level slots s n H a) (block_visits P rel level slots ss (n + syncs_in s) (after_stmt P s H) a) (visits P rel level slots s n H b) (block_visits P rel level slots ss (n + syncs_in s) (after_stmt P s H) b)
          (stmt_shifts s n H a b is) (block_shifts ss (n + syncs_in s) (after_stmt P s H) a b is)

  from_none : u ≡ max u 0
  from_none = omega arith

  -- the walk of a body from level 0, and from this level
  pub body_shifts : (P : Program) (rel : ℕ → List PathData) (level : ℕ → ℕ) (method : Method) (H : Held) → Shifted (body_visits P rel level method H 0) (body_visits P rel level method H u)
  body_shifts P rel level method H = stmt_shifts P rel level (slot_types method) method.body 0 H 0 u from_none
