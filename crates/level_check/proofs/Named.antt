-- What is known at a call: of one set each method knows those of its relevant paths that are in it.
use Rattle.std.proofs.Common.{◌≡◌, inl, inr, ℕ, ◌+◌, ◌&&◌, ◌||◌, Bool, true, false, List, [], ◌∷◌, ◌++◌, Some, None, refl, sym, ap, ◌∙◌}
use Rattle.std.specs.Prelude.{Contains, nat_lt, max, if◌then◌else◌}
use Rattle.std.proofs.lemmas.Bool.{or_left, or_right}
use Rattle.std.proofs.lemmas.List.Elements.{Contains-append_cases}
use Rattle.base.proofs.Lists.{contains_cases}
use Rattle.paths.specs.Paths.{PathData}
use Rattle.algebra.specs.HeldPaths.{Held, has_path, with_path}
use Rattle.core_program.specs.declared.types.CoreType.{CoreType}
use Rattle.core_program.specs.Core.{Program, Method, Expr, Exprs, IntE, TruthE, NullE, ThisE, VarE, NotE, NegE, BinaryE, AndE, OrE, GetE, CallE, NewE, no_exprs, and_expr}
use Rattle.core_program.specs.Core.{Stmt, Stmts, EmptyS, BlockS, LocalS, SetVarS, SetFieldS, DoS, IfS, WhileS, SyncS, ReturnS, PrintS, StartS, no_stmts, and_stmt}
use Rattle.core_program.specs.Locks.{path_of}
use Rattle.rules.specs.Mentions.{paths_of}
use Rattle.rules.specs.Effect.{after_stmt}
use Rattle.rules.specs.Nearest.{LeadTo, near, further}
use Rattle.rules.specs.Rules.{held_in}
use Rattle.rules.specs.Search.{row_at}
use Rattle.levels.specs.SlotTypes.{slot_types}
use Rattle.levels.specs.Walks.{LevelVisit, Comes, Bad, lock_class, syncs_in, call_visits, expr_visits, exprs_visits, sync_visits, visits, block_visits, body_visits}
use Rattle.level_check.specs.Told.{OriginOf, known_to_origin, known_to}
use Rattle.level_check.specs.Origins.{AreOrigins}
use Rattle.level_check.proofs.Known.{known_and}
use Rattle.level_check.proofs.Shifts.{no_visit, visit_known, is_call}

-- what each method knows of a set
abbrev pub of_set : (ℕ → List PathData) → Held → ℕ → Held
of_set rel S k = held_in (rel k) S

module _ (P : Program) (rel : ℕ → List PathData) where
  -- what is known at each call is known of some set
  abbrev pub AreNamed : List LevelVisit → Type 0
  AreNamed vs = (m : ℕ) (known : ℕ → Held) (w : ℕ) → Contains vs (Comes m known w) → (S : Held) × (known ≡ of_set rel S)

  named_none : AreNamed []
  named_none m known w has = absurd (no_visit _ has)

  named_both : (xs ys : List LevelVisit) → AreNamed xs → AreNamed ys → AreNamed (xs ++ ys)
  named_both xs ys first second m known w has = elim (Contains-append_cases xs ys (Comes m known w) has) as (λ _. (S : Held) × (known ≡ of_set rel S)) [
    | inl a ↦ first m known w a
    | inr b ↦ second m known w b
  ]

  named_call : (m : ℕ) (S : Held) (w : ℕ) → AreNamed (Comes m (of_set rel S) w ∷ [])
  named_call m S w n known v has = elim (contains_cases (Comes m (of_set rel S) w) (Comes n known v) [] has) as (λ _. (H : Held) × (known ≡ of_set rel H)) [
    | inl same ↦ (S, sym (ap visit_known same))
    | inr later ↦ absurd (no_visit _ later)
  ]

  named_bad : (p c u : ℕ) (xs : List LevelVisit) → AreNamed xs → AreNamed (Bad p c u ∷ xs)
  named_bad p c u xs each m known w has = elim (contains_cases (Bad p c u) (Comes m known w) xs has) as (λ _. (S : Held) × (known ≡ of_set rel S)) [
    | inl same ↦ absurd (let e : false ≡ true = ap is_call same in cc)
    | inr later ↦ each m known w later
  ]

  module _ (u : ℕ) where
    mutual
      expr_named : (e : Expr) (H : Held) → AreNamed (expr_visits P rel e H u)
      expr_named (IntE n) H = named_none
      expr_named (TruthE t) H = named_none
      expr_named NullE H = named_none
      expr_named ThisE H = named_none
      expr_named (VarE x is_final ty) H = named_none
      expr_named (NotE e) H = expr_named e H
      expr_named (NegE e) H = expr_named e H
      expr_named (BinaryE op e f) H = named_both (expr_visits P rel e H u) (expr_visits P rel f H u) (expr_named e H) (expr_named f H)
      expr_named (AndE e f) H = named_both (expr_visits P rel e H u) (expr_visits P rel f H u) (expr_named e H) (expr_named f H)
      expr_named (OrE e f) H = named_both (expr_visits P rel e H u) (expr_visits P rel f H u) (expr_named e H) (expr_named f H)
      expr_named (GetE e f) H = expr_named e H
      expr_named (CallE e m args) H =
          named_both (expr_visits P rel e H u) (exprs_visits P rel args H u ++ call_visits P rel m (path_of P e) (paths_of P args) H u) (expr_named e H)
          (named_both (exprs_visits P rel args H u) (call_visits P rel m (path_of P e) (paths_of P args) H u) (exprs_named args H) (named_call m _ u))
      expr_named (NewE c args) H = exprs_named args H

      exprs_named : (es : Exprs) (H : Held) → AreNamed (exprs_visits P rel es H u)
      exprs_named no_exprs H = named_none
      exprs_named (and_expr e es) H = named_both (expr_visits P rel e H u) (exprs_visits P rel es H u) (expr_named e H) (exprs_named es H)

  module _ (level : ℕ → ℕ) (slots : List CoreType) where
    sync_named : (held : Bool) (n class u : ℕ) (as_it_is taken : List LevelVisit) → AreNamed as_it_is → AreNamed taken → AreNamed (sync_visits P rel level slots held n class u as_it_is taken)
    sync_named true n class u as_it_is taken first second = first
    sync_named false n class u as_it_is taken first second = by_level (nat_lt u (level class))
      where
        by_level : (b : Bool) → AreNamed (if b then taken else Bad n class u ∷ taken)
        by_level true = second
        by_level false = named_bad n class u taken second

    mutual
      stmt_named : (s : Stmt) (n : ℕ) (H : Held) (u : ℕ) → AreNamed (visits P rel level slots s n H u)
      stmt_named EmptyS n H u = named_none
      stmt_named (BlockS ss) n H u = block_named ss n H u
      stmt_named (LocalS x is_final ty e) n H u = expr_named u e H
      stmt_named (SetVarS x e) n H u = expr_named u e H
      stmt_named (SetFieldS e f g) n H u = named_both (expr_visits P rel e H u) (expr_visits P rel g H u) (expr_named u e H) (expr_named u g H)
      stmt_named (DoS e drops) n H u = expr_named u e H
      stmt_named (IfS c s t) n H u =
          named_both (expr_visits P rel c H u) (visits P rel level slots s n H u ++ visits P rel level slots t (n + syncs_in s) H u) (expr_named u c H)
          (named_both (visits P rel level slots s n H u) (visits P rel level slots t (n + syncs_in s) H u) (stmt_named s n H u) (stmt_named t (n + syncs_in s) H u))
      stmt_named (WhileS c s) n H u = named_both (expr_visits P rel c H u) (visits P rel level slots s n H u) (expr_named u c H) (stmt_named s n H u)
      stmt_named (SyncS p s) n H u =
          sync_named (H p) n (lock_class P slots p) u (visits P rel level slots s (n + 1) H u) (visits P rel level slots s (n + 1) (with_path p H) (max u (level (lock_class P slots p))))
          (stmt_named s (n + 1) H u) (stmt_named s (n + 1) (with_path p H) (max u (level (lock_class P slots p))))
      stmt_named (ReturnS None) n H u = named_none
      stmt_named (ReturnS (Some e)) n H u = expr_named u e H
      stmt_named (PrintS e) n H u = expr_named u e H
      stmt_named (StartS e) n H u = expr_named u e H

      block_named : (ss : Stmts) (n : ℕ) (H : Held) (u : ℕ) → AreNamed (block_visits P rel level slots ss n H u)
      block_named no_stmts n H u = named_none
      block_named (and_stmt s ss) n H u =
          named_both (visits P rel level slots s n H u) (block_visits P rel level slots ss (n + syncs_in s) (after_stmt P s H) u) (stmt_named s n H u) (block_named ss (n + syncs_in s) (after_stmt P s H) u)

  pub body_named : (level : ℕ → ℕ) (method : Method) (H : Held) (u : ℕ) → AreNamed (body_visits P rel level method H u)
  body_named level method H u = stmt_named level (slot_types method) method.body 0 H u

-- What a callee and the origins know together is what each that may run needs.

module _ (rel : ℕ → List PathData) where
  -- where a method or its origin knows each relevant path of another method, what they know of a set is what that method knows of it
  pub all_known : (m : ℕ) (origin : OriginOf) (k : ℕ) (S : Held) → ((p : PathData) → has_path (rel k) p ≡ true → known_to m origin (λ j. has_path (rel j)) p ≡ true)
      → held_in (rel k) (known_to m origin (of_set rel S)) ≡ held_in (rel k) S
  all_known m origin k S known = λ i p. at p i
    where
      by_own : (own others held : Bool) → (own ≡ true → others ≡ true) → (own && (others && held)) ≡ (own && held)
      by_own true others held is = ap (λ b. b && held) (is refl)
      by_own false others held is = refl

      at : (p : PathData) → held_in (rel k) (known_to m origin (of_set rel S)) p ≡ held_in (rel k) S p
      at p = ap (λ b. has_path (rel k) p && b) (known_and (λ j. has_path (rel j)) S m origin p) ∙ by_own (has_path (rel k) p) (known_to m origin (λ j. has_path (rel j)) p) (S p) (known p)

  module _ (rows : List (List ℕ)) (origin : OriginOf) (exact : AreOrigins rel (row_at rows) origin) where
    pub own_known : (m : ℕ) (p : PathData) → has_path (rel m) p ≡ true → known_to m origin (λ j. has_path (rel j)) p ≡ true
    own_known m p is = or_left (has_path (rel m) p) (known_to_origin (origin p) (λ j. has_path (rel j)) p) is

    pub led_known : (m k : ℕ) → LeadTo rows m k → (p : PathData) → has_path (rel k) p ≡ true → known_to m origin (λ j. has_path (rel j)) p ≡ true
    led_known m k (near has) p is = exact m k p has is
    led_known m k (further middle leads has) p is = by_middle (has_path (rel middle) p) refl (λ own. led_known m middle leads p own) (exact middle k p has is)
      where
        by_middle : (b : Bool) → has_path (rel middle) p ≡ b → (has_path (rel middle) p ≡ true → known_to m origin (λ j. has_path (rel j)) p ≡ true) → (b || known_to_origin (origin p) (λ j. has_path (rel j)) p) ≡ true → known_to m origin (λ j. has_path (rel j)) p ≡ true
        by_middle true own earlier known = earlier own
        by_middle false other earlier known = or_right (has_path (rel m) p) (known_to_origin (origin p) (λ j. has_path (rel j)) p) known
