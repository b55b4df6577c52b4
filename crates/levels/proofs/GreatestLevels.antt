-- There is at most one answer; and walks under greater levels come to the same calls and to at least the same bad ones.
use Rattle.std.proofs.Common.{◌≡◌, ◌⊎◌, inl, inr, ◌≤◌, ◌<◌, ℕ, suc, ◌+◌, Bool, true, false, List, [], ◌∷◌, ◌++◌, length, Some, None, refl, sym, ap, subst, ◌∙◌, arith}
use Rattle.std.specs.Prelude.{Option, Contains, slice_get, nat_lt, max, if◌then◌else◌}
use Rattle.std.proofs.lemmas.Bool.{ltb-true, ltb-false}
use Rattle.std.proofs.lemmas.Option.{same_Some}
use Rattle.std.proofs.lemmas.List.Elements.{Contains-append_left, Contains-append_right, Contains-append_cases}
use Rattle.base.proofs.Lists.{at_left, get_right, contains_cases}
use Rattle.paths.specs.Paths.{PathData}
use Rattle.algebra.specs.HeldPaths.{Held, with_path}
use Rattle.core_program.specs.declared.types.CoreType.{CoreType}
use Rattle.core_program.specs.Core.{Program, Method, Expr, Exprs, IntE, TruthE, NullE, ThisE, VarE, NotE, NegE, BinaryE, AndE, OrE, GetE, CallE, NewE, no_exprs, and_expr}
use Rattle.core_program.specs.Core.{Stmt, Stmts, EmptyS, BlockS, LocalS, SetVarS, SetFieldS, DoS, IfS, WhileS, SyncS, ReturnS, PrintS, StartS, no_stmts, and_stmt}
use Rattle.core_program.specs.Locks.{path_of}
use Rattle.rules.specs.Mentions.{paths_of}
use Rattle.rules.specs.Effect.{after_stmt}
use Rattle.levels.specs.SlotTypes.{slot_types}
use Rattle.levels.specs.Walks.{LevelVisit, Comes, Bad, lock_class, syncs_in, syncs_in_each, call_visits, expr_visits, exprs_visits, sync_visits, visits, block_visits, body_visits}
use Rattle.levels.specs.Contexts.{MayRun, Context, at_main, at_start, at_call, IsBadAt, IsOrdered, IsFirstBad}

no_visit : {A : Type 0} (v : A) → Contains [] v → ⊥
no_visit v (k, below, is) = omega (arith, below)

abbrev bad_place : LevelVisit → ℕ
bad_place (Comes m known u) = 0
bad_place (Bad p c u) = p

abbrev bad_class : LevelVisit → ℕ
bad_class (Comes m known u) = 0
bad_class (Bad p c u) = c

abbrev bad_under : LevelVisit → ℕ
bad_under (Comes m known u) = 0
bad_under (Bad p c u) = u

abbrev is_bad : LevelVisit → Bool
is_bad (Comes m known u) = false
is_bad (Bad p c u) = true

module _ (P : Program) (rel : ℕ → List PathData) where
  -- a call is never bad
  call_calm : (m : ℕ) (receiver : Option PathData) (args : List (Option PathData)) (H : Held) (under p c u : ℕ) → Contains (call_visits P rel m receiver args H under) (Bad p c u) → ⊥
  call_calm m receiver args H under p c u has = elim (contains_cases _ (Bad p c u) [] has) as (λ _. ⊥) [
    | inl same ↦ let e : false ≡ true = ap is_bad same in cc
    | inr later ↦ no_visit _ later
  ]

  neither : {X Y : Type 0} → (X → ⊥) → (Y → ⊥) → X ⊎ Y → ⊥
  neither f g (inl x) = f x
  neither f g (inr y) = g y

  mutual
    expr_calm : (e : Expr) (H : Held) (under p c u : ℕ) → Contains (expr_visits P rel e H under) (Bad p c u) → ⊥
    expr_calm (IntE n) H under p c u has = no_visit _ has
    expr_calm (TruthE b) H under p c u has = no_visit _ has
    expr_calm NullE H under p c u has = no_visit _ has
    expr_calm ThisE H under p c u has = no_visit _ has
    expr_calm (VarE x is_final ty) H under p c u has = no_visit _ has
    expr_calm (NotE e) H under p c u has = expr_calm e H under p c u has
    expr_calm (NegE e) H under p c u has = expr_calm e H under p c u has
    expr_calm (BinaryE op a b) H under p c u has = neither (λ h. expr_calm a H under p c u h) (λ h. expr_calm b H under p c u h) (Contains-append_cases (expr_visits P rel a H under) (expr_visits P rel b H under) _ has)
    expr_calm (AndE a b) H under p c u has = neither (λ h. expr_calm a H under p c u h) (λ h. expr_calm b H under p c u h) (Contains-append_cases (expr_visits P rel a H under) (expr_visits P rel b H under) _ has)
    expr_calm (OrE a b) H under p c u has = neither (λ h. expr_calm a H under p c u h) (λ h. expr_calm b H under p c u h) (Contains-append_cases (expr_visits P rel a H under) (expr_visits P rel b H under) _ has)
    expr_calm (GetE e f) H under p c u has = expr_calm e H under p c u has
    expr_calm (CallE e m args) H under p c u has = elim (Contains-append_cases (expr_visits P rel e H under) (exprs_visits P rel args H under ++ call_visits P rel m (path_of P e) (paths_of P args) H under) (Bad p c u) has) as (λ _. ⊥) [
      | inl first ↦ expr_calm e H under p c u first
      | inr rest ↦ elim (Contains-append_cases (exprs_visits P rel args H under) (call_visits P rel m (path_of P e) (paths_of P args) H under) (Bad p c u) rest) as (λ _. ⊥) [
        | inl second ↦ exprs_calm args H under p c u second
        | inr last ↦ call_calm m (path_of P e) (paths_of P args) H under p c u last
      ]
    ]
    expr_calm (NewE k args) H under p c u has = exprs_calm args H under p c u has

    exprs_calm : (es : Exprs) (H : Held) (under p c u : ℕ) → Contains (exprs_visits P rel es H under) (Bad p c u) → ⊥
    exprs_calm no_exprs H under p c u has = no_visit _ has
    exprs_calm (and_expr e es) H under p c u has = elim (Contains-append_cases (expr_visits P rel e H under) (exprs_visits P rel es H under) (Bad p c u) has) as (λ _. ⊥) [
      | inl first ↦ expr_calm e H under p c u first
      | inr second ↦ exprs_calm es H under p c u second
    ]

  module _ (level : ℕ → ℕ) (slots : List CoreType) where
    abbrev mutual
      -- the classes of the locks of a statement, in written order
      sync_classes : Stmt → List ℕ
      sync_classes (BlockS ss) = sync_classes_each ss
      sync_classes (IfS c s t) = sync_classes s ++ sync_classes t
      sync_classes (WhileS c s) = sync_classes s
      sync_classes (SyncS p s) = lock_class P slots p ∷ sync_classes s
      sync_classes _ = []

      sync_classes_each : Stmts → List ℕ
      sync_classes_each no_stmts = []
      sync_classes_each (and_stmt s ss) = sync_classes s ++ sync_classes_each ss

    mutual
      classes_count : (s : Stmt) → length (sync_classes s) ≡ syncs_in s
      classes_count EmptyS = refl
      classes_count (BlockS ss) = each_count ss
      classes_count (LocalS x is_final ty e) = refl
      classes_count (SetVarS x e) = refl
      classes_count (SetFieldS e f g) = refl
      classes_count (DoS e drops) = refl
      classes_count (IfS c s t) = Rattle.std.proofs.Common.length-append (sync_classes s) (sync_classes t) ∙ (λ i. classes_count s i + classes_count t i)
      classes_count (WhileS c s) = classes_count s
      classes_count (SyncS p s) = one_more (length (sync_classes s)) (syncs_in s) (classes_count s)
        where
          one_more : (n m : ℕ) → n ≡ m → suc n ≡ 1 + m
          one_more n m e = omega (arith, e)
      classes_count (ReturnS e) = refl
      classes_count (PrintS e) = refl
      classes_count (StartS e) = refl

      each_count : (ss : Stmts) → length (sync_classes_each ss) ≡ syncs_in_each ss
      each_count no_stmts = refl
      each_count (and_stmt s ss) = Rattle.std.proofs.Common.length-append (sync_classes s) (sync_classes_each ss) ∙ (λ i. classes_count s i + each_count ss i)

    -- a place after this one has this class in the list
    abbrev Placed : ℕ → ℕ → List ℕ → ℕ → Type 0
    Placed n p classes c = (k : ℕ) × (p ≡ n + k) × (slice_get classes k ≡ Some c)

    placed_left : (n p c : ℕ) (xs ys : List ℕ) → Placed n p xs c → Placed n p (xs ++ ys) c
    placed_left n p c xs ys (k, is, at) = (k, is, at_left xs ys k c at)

    placed_right : (n m p c : ℕ) (xs ys : List ℕ) → length xs ≡ m → Placed (n + m) p ys c → Placed n p (xs ++ ys) c
    placed_right n m p c xs ys count (k, is, at) = (length xs + k, is ∙ shifted n m (length xs) k count, get_right xs ys k ∙ at)
      where
        shifted : (n m l k : ℕ) → l ≡ m → n + m + k ≡ n + (l + k)
        shifted n m l k e = omega (arith, e)

    placed_later : (n p c d : ℕ) (xs : List ℕ) → Placed (n + 1) p xs c → Placed n p (d ∷ xs) c
    placed_later n p c d xs (k, is, at) = (suc k, is ∙ shifted n k, at)
      where
        shifted : (n k : ℕ) → n + 1 + k ≡ n + suc k
        shifted n k = omega arith

    sync_placed : (held : Bool) (n class under p c u : ℕ) (classes : List ℕ) (as_it_is taken : List LevelVisit) → (Contains as_it_is (Bad p c u) → Placed (n + 1) p classes c) → (Contains taken (Bad p c u) → Placed (n + 1) p classes c)
        → Contains (sync_visits P rel level slots held n class under as_it_is taken) (Bad p c u) → Placed n p (class ∷ classes) c
    sync_placed true n class under p c u classes as_it_is taken first second has = placed_later n p c class classes (first has)
    sync_placed false n class under p c u classes as_it_is taken first second has = by_level (nat_lt under (level class)) has
      where
        here : (n : ℕ) → n ≡ n + 0
        here n = omega arith

        by_level : (b : Bool) → Contains (if b then taken else Bad n class under ∷ taken) (Bad p c u) → Placed n p (class ∷ classes) c
        by_level true has = placed_later n p c class classes (second has)
        by_level false has = elim (contains_cases (Bad n class under) (Bad p c u) taken has) as (λ _. Placed n p (class ∷ classes) c) [
          | inl same ↦ (0, sym (ap bad_place same) ∙ here n, ap Some (ap bad_class same))
          | inr later ↦ placed_later n p c class classes (second later)
        ]

    mutual
      -- a bad one stands at the place of its class
      bad_placed : (s : Stmt) (n : ℕ) (H : Held) (under p c u : ℕ) → Contains (visits P rel level slots s n H under) (Bad p c u) → Placed n p (sync_classes s) c
      bad_placed EmptyS n H under p c u has = absurd (no_visit _ has)
      bad_placed (BlockS ss) n H under p c u has = block_placed ss n H under p c u has
      bad_placed (LocalS x is_final ty e) n H under p c u has = absurd (expr_calm e H under p c u has)
      bad_placed (SetVarS x e) n H under p c u has = absurd (expr_calm e H under p c u has)
      bad_placed (SetFieldS e f g) n H under p c u has = absurd (neither (λ h. expr_calm e H under p c u h) (λ h. expr_calm g H under p c u h) (Contains-append_cases (expr_visits P rel e H under) (expr_visits P rel g H under) _ has))
      bad_placed (DoS e drops) n H under p c u has = absurd (expr_calm e H under p c u has)
      bad_placed (IfS e s t) n H under p c u has = elim (Contains-append_cases (expr_visits P rel e H under) (visits P rel level slots s n H under ++ visits P rel level slots t (n + syncs_in s) H under) (Bad p c u) has) as (λ _. Placed n p (sync_classes s ++ sync_classes t) c) [
        | inl test ↦ absurd (expr_calm e H under p c u test)
        | inr rest ↦ elim (Contains-append_cases (visits P rel level slots s n H under) (visits P rel level slots t (n + syncs_in s) H under) (Bad p c u) rest) as (λ _. Placed n p (sync_classes s ++ sync_classes t) c) [
          | inl first ↦ placed_left n p c (sync_classes s) (sync_classes t) (bad_placed s n H under p c u first)
          | inr second ↦ placed_right n (syncs_in s) p c (sync_classes s) (sync_classes t) (classes_count s) (bad_placed t (n + syncs_in s) H under p c u second)
        ]
      ]
      bad_placed (WhileS e s) n H under p c u has = elim (Contains-append_cases (expr_visits P rel e H under) (visits P rel level slots s n H under) (Bad p c u) has) as (λ _. Placed n p (sync_classes s) c) [
        | inl test ↦ absurd (expr_calm e H under p c u test)
        | inr body ↦ bad_placed s n H under p c u body
      ]
      bad_placed (SyncS q s) n H under p c u has =
          sync_placed (H q) n (lock_class P slots q) under p c u (sync_classes s) (visits P rel level slots s (n + 1) H under) (visits P rel level slots s (n + 1) (with_path q H) (max under (level (lock_class P slots q))))
          (λ h. bad_placed s (n + 1) H under p c u h) (λ h. bad_placed s (n + 1) (with_path q H) (max under (level (lock_class P slots q))) p c u h) has
      bad_placed (ReturnS None) n H under p c u has = absurd (no_visit _ has)
      bad_placed (ReturnS (Some e)) n H under p c u has = absurd (expr_calm e H under p c u has)
      bad_placed (PrintS e) n H under p c u has = absurd (expr_calm e H under p c u has)
      bad_placed (StartS e) n H under p c u has = absurd (expr_calm e H under p c u has)

      block_placed : (ss : Stmts) (n : ℕ) (H : Held) (under p c u : ℕ) → Contains (block_visits P rel level slots ss n H under) (Bad p c u) → Placed n p (sync_classes_each ss) c
      block_placed no_stmts n H under p c u has = absurd (no_visit _ has)
      block_placed (and_stmt s ss) n H under p c u has = elim (Contains-append_cases (visits P rel level slots s n H under) (block_visits P rel level slots ss (n + syncs_in s) (after_stmt P s H) under) (Bad p c u) has) as (λ _. Placed n p (sync_classes s ++ sync_classes_each ss) c) [
        | inl first ↦ placed_left n p c (sync_classes s) (sync_classes_each ss) (bad_placed s n H under p c u first)
        | inr second ↦ placed_right n (syncs_in s) p c (sync_classes s) (sync_classes_each ss) (classes_count s) (block_placed ss (n + syncs_in s) (after_stmt P s H) under p c u second)
      ]

  module _ (level : ℕ → ℕ) where
    one_class : (m place c d u v : ℕ) → IsBadAt P rel level m place c u → IsBadAt P rel level m place d v → c ≡ d
    one_class m place c d u v (first, H, at, context, is, has) (second, K, later, other, there, found) =
        let same : second ≡ first = same_Some second first (sym there ∙ is) in
        let a = bad_placed level (slot_types first) first.body 0 H at place c u has in
        let b = bad_placed level (slot_types first) first.body 0 K later place d v (subst (λ (x : Method). Contains (body_visits P rel level x K later) (Bad place d v)) same found) in
        same_Some c d (sym a.2 ∙ ap (slice_get (sync_classes level (slot_types first) first.body)) (one_place a.0 b.0 place a.1 b.1) ∙ b.2)
      where
        one_place : (k j p : ℕ) → p ≡ 0 + k → p ≡ 0 + j → k ≡ j
        one_place k j p first second = omega (arith, first, second)

    -- two answers are one
    pub one_answer : (m n c d u v : ℕ) → IsFirstBad P rel level m c u → IsFirstBad P rel level n d v → (m ≡ n) × (c ≡ d) × (u ≡ v)
    one_answer m n c d u v first second =
        let method = equal m n (λ less. second.earlier m first.place c u less first.bad) (λ less. first.earlier n second.place d v less second.bad) in
        let bad = subst (λ k. IsBadAt P rel level k second.place d v) (sym method) second.bad in
        let moved = subst (λ k. IsFirstBad P rel level k d v) (sym method) second in
        at_method m c d u v first moved method
      where
        equal : (m n : ℕ) → (m < n → ⊥) → (n < m → ⊥) → m ≡ n
        equal m n first second = omega (arith, first, second)

        same_place : (p q : ℕ) → p ≤ q → q ≤ p → p ≡ q
        same_place p q first second = omega (arith, first, second)

        at_method : (m c d u v : ℕ) → IsFirstBad P rel level m c u → (second : IsFirstBad P rel level m d v) → m ≡ n → (m ≡ n) × (c ≡ d) × (u ≡ v)
        at_method m c d u v first second method =
            let place = same_place first.place second.place (first.first second.place d v second.bad) (second.first first.place c u first.bad) in
            let bad = subst (λ p. IsBadAt P rel level m p d v) (sym place) second.bad in
            let back = subst (λ p. IsBadAt P rel level m p c u) place first.bad in
            (method, one_class m first.place c d u v first.bad bad, same_place u v (second.greatest c u back) (first.greatest d v bad))

  -- Greater levels.

  -- each visit of the first list has one of the second that is the same under a level at least as great
  pub record Covers (xs ys : List LevelVisit) : Type 0 where
    pub comes : (m : ℕ) (known : ℕ → Held) (u : ℕ) → Contains xs (Comes m known u) → (v : ℕ) × (u ≤ v) × Contains ys (Comes m known v)
    pub bad : (p c u : ℕ) → Contains xs (Bad p c u) → (v : ℕ) × (u ≤ v) × Contains ys (Bad p c v)

  covers_none : (ys : List LevelVisit) → Covers [] ys
  covers_none ys = record { comes = λ m known u has. absurd (no_visit _ has); bad = λ p c u has. absurd (no_visit _ has) }

  covers_both : (xs ys zs ws : List LevelVisit) → Covers xs zs → Covers ys ws → Covers (xs ++ ys) (zs ++ ws)
  covers_both xs ys zs ws first second = record {
    comes = λ m known u has. elim (Contains-append_cases xs ys (Comes m known u) has) as (λ _. (v : ℕ) × (u ≤ v) × Contains (zs ++ ws) (Comes m known v)) [
      | inl a ↦ let r = first.comes m known u a in (r.0, r.1, Contains-append_left zs ws (Comes m known r.0) r.2)
      | inr b ↦ let r = second.comes m known u b in (r.0, r.1, Contains-append_right zs ws (Comes m known r.0) r.2)
    ];
    bad = λ p c u has. elim (Contains-append_cases xs ys (Bad p c u) has) as (λ _. (v : ℕ) × (u ≤ v) × Contains (zs ++ ws) (Bad p c v)) [
      | inl a ↦ let r = first.bad p c u a in (r.0, r.1, Contains-append_left zs ws (Bad p c r.0) r.2)
      | inr b ↦ let r = second.bad p c u b in (r.0, r.1, Contains-append_right zs ws (Bad p c r.0) r.2)
    ];
  }

  covers_more : (v : LevelVisit) (xs ys : List LevelVisit) → Covers xs ys → Covers xs (v ∷ ys)
  covers_more v xs ys c = record {
    comes = λ m known u has. let r = c.comes m known u has in (r.0, r.1, Rattle.base.proofs.Lists.contains_later v (Comes m known r.0) ys r.2);
    bad = λ p d u has. let r = c.bad p d u has in (r.0, r.1, Rattle.base.proofs.Lists.contains_later v (Bad p d r.0) ys r.2);
  }

  abbrev first_comes : LevelVisit → ℕ
  first_comes (Comes m known u) = m
  first_comes (Bad p c u) = 0

  abbrev come_under : LevelVisit → ℕ
  come_under (Comes m known u) = u
  come_under (Bad p c u) = 0

  abbrev come_known : LevelVisit → ℕ → Held
  come_known (Comes m known u) = known
  come_known (Bad p c u) = λ k q. false

  covers_call : (m : ℕ) (known : ℕ → Held) (low high : ℕ) → low ≤ high → Covers (Comes m known low ∷ []) (Comes m known high ∷ [])
  covers_call m known low high le = record {
    comes = λ n other u has. elim (contains_cases (Comes m known low) (Comes n other u) [] has) as (λ _. (v : ℕ) × (u ≤ v) × Contains (Comes m known high ∷ []) (Comes n other v)) [
      | inl same ↦ (high, subst (λ x. x ≤ high) (ap come_under same) le, (0, omega arith, λ i. Comes (first_comes (same i)) (come_known (same i)) high))
      | inr later ↦ absurd (no_visit _ later)
    ];
    bad = λ p c u has. elim (contains_cases (Comes m known low) (Bad p c u) [] has) as (λ _. (v : ℕ) × (u ≤ v) × Contains (Comes m known high ∷ []) (Bad p c v)) [
      | inl same ↦ absurd (let e : false ≡ true = ap is_bad same in cc)
      | inr later ↦ absurd (no_visit _ later)
    ];
  }

  covers_bad : (n c low high : ℕ) (xs ys : List LevelVisit) → low ≤ high → Covers xs ys → Covers (Bad n c low ∷ xs) (Bad n c high ∷ ys)
  covers_bad n c low high xs ys le covers = record {
    comes = λ m known u has. elim (contains_cases (Bad n c low) (Comes m known u) xs has) as (λ _. (v : ℕ) × (u ≤ v) × Contains (Bad n c high ∷ ys) (Comes m known v)) [
      | inl same ↦ absurd (let e : true ≡ false = ap is_bad same in cc)
      | inr later ↦ (covers_more (Bad n c high) xs ys covers).comes m known u later
    ];
    bad = λ p d u has. elim (contains_cases (Bad n c low) (Bad p d u) xs has) as (λ _. (v : ℕ) × (u ≤ v) × Contains (Bad n c high ∷ ys) (Bad p d v)) [
      | inl same ↦ (high, subst (λ x. x ≤ high) (ap bad_under same) le, (0, omega arith, λ i. Bad (bad_place (same i)) (bad_class (same i)) high))
      | inr later ↦ (covers_more (Bad n c high) xs ys covers).bad p d u later
    ];
  }

  mutual
    expr_rises : (e : Expr) (H : Held) (low high : ℕ) → low ≤ high → Covers (expr_visits P rel e H low) (expr_visits P rel e H high)
    expr_rises (IntE n) H low high le = covers_none []
    expr_rises (TruthE b) H low high le = covers_none []
    expr_rises NullE H low high le = covers_none []
    expr_rises ThisE H low high le = covers_none []
    expr_rises (VarE x is_final ty) H low high le = covers_none []
    expr_rises (NotE e) H low high le = expr_rises e H low high le
    expr_rises (NegE e) H low high le = expr_rises e H low high le
    expr_rises (BinaryE op a b) H low high le = covers_both (expr_visits P rel a H low) (expr_visits P rel b H low) (expr_visits P rel a H high) (expr_visits P rel b H high) (expr_rises a H low high le) (expr_rises b H low high le)
    expr_rises (AndE a b) H low high le = covers_both (expr_visits P rel a H low) (expr_visits P rel b H low) (expr_visits P rel a H high) (expr_visits P rel b H high) (expr_rises a H low high le) (expr_rises b H low high le)
    expr_rises (OrE a b) H low high le = covers_both (expr_visits P rel a H low) (expr_visits P rel b H low) (expr_visits P rel a H high) (expr_visits P rel b H high) (expr_rises a H low high le) (expr_rises b H low high le)
    expr_rises (GetE e f) H low high le = expr_rises e H low high le
    expr_rises (CallE e m args) H low high le =
        covers_both (expr_visits P rel e H low) (exprs_visits P rel args H low ++ call_visits P rel m (path_of P e) (paths_of P args) H low)
        (expr_visits P rel e H high) (exprs_visits P rel args H high ++ call_visits P rel m (path_of P e) (paths_of P args) H high) (expr_rises e H low high le)
        (covers_both (exprs_visits P rel args H low) (call_visits P rel m (path_of P e) (paths_of P args) H low) (exprs_visits P rel args H high) (call_visits P rel m (path_of P e) (paths_of P args) H high)
        (exprs_rises args H low high le) (covers_call m _ low high le))
    expr_rises (NewE c args) H low high le = exprs_rises args H low high le

    exprs_rises : (es : Exprs) (H : Held) (low high : ℕ) → low ≤ high → Covers (exprs_visits P rel es H low) (exprs_visits P rel es H high)
    exprs_rises no_exprs H low high le = covers_none []
    exprs_rises (and_expr e es) H low high le = covers_both (expr_visits P rel e H low) (exprs_visits P rel es H low) (expr_visits P rel e H high) (exprs_visits P rel es H high) (expr_rises e H low high le) (exprs_rises es H low high le)

  max_rises : (a b c : ℕ) → a ≤ b → max a c ≤ max b c
  max_rises a b c le = omega (arith, le)

  module _ (level : ℕ → ℕ) (slots : List CoreType) where
    sync_rises : (held : Bool) (n class low high : ℕ) (as_low taken_low as_high taken_high : List LevelVisit) → low ≤ high → Covers as_low as_high → Covers taken_low taken_high
        → Covers (sync_visits P rel level slots held n class low as_low taken_low) (sync_visits P rel level slots held n class high as_high taken_high)
    sync_rises true n class low high as_low taken_low as_high taken_high le first second = first
    sync_rises false n class low high as_low taken_low as_high taken_high le first second = by_levels (nat_lt low (level class)) (nat_lt high (level class)) refl refl
      where
        through : (l h c : ℕ) → nat_lt l c ≡ false → nat_lt h c ≡ true → l ≤ h → ⊥
        through l h c below above le = let a = ltb-false l c below in let b = ltb-true h c above in omega (arith, a, b, le)

        by_levels : (x y : Bool) → nat_lt low (level class) ≡ x → nat_lt high (level class) ≡ y → Covers (if x then taken_low else Bad n class low ∷ taken_low) (if y then taken_high else Bad n class high ∷ taken_high)
        by_levels true true e k = second
        by_levels true false e k = covers_more (Bad n class high) taken_low taken_high second
        by_levels false true e k = absurd (through low high (level class) e k le)
        by_levels false false e k = covers_bad n class low high taken_low taken_high le second

    mutual
      stmt_rises : (s : Stmt) (n : ℕ) (H : Held) (low high : ℕ) → low ≤ high → Covers (visits P rel level slots s n H low) (visits P rel level slots s n H high)
      stmt_rises EmptyS n H low high le = covers_none []
      stmt_rises (BlockS ss) n H low high le = block_rises ss n H low high le
      stmt_rises (LocalS x is_final ty e) n H low high le = expr_rises e H low high le
      stmt_rises (SetVarS x e) n H low high le = expr_rises e H low high le
      stmt_rises (SetFieldS e f g) n H low high le = covers_both (expr_visits P rel e H low) (expr_visits P rel g H low) (expr_visits P rel e H high) (expr_visits P rel g H high) (expr_rises e H low high le) (expr_rises g H low high le)
      stmt_rises (DoS e drops) n H low high le = expr_rises e H low high le
      stmt_rises (IfS c s t) n H low high le =
          covers_both (expr_visits P rel c H low) (visits P rel level slots s n H low ++ visits P rel level slots t (n + syncs_in s) H low)
          (expr_visits P rel c H high) (visits P rel level slots s n H high ++ visits P rel level slots t (n + syncs_in s) H high) (expr_rises c H low high le)
          (covers_both (visits P rel level slots s n H low) (visits P rel level slots t (n + syncs_in s) H low) (visits P rel level slots s n H high) (visits P rel level slots t (n + syncs_in s) H high)
          (stmt_rises s n H low high le) (stmt_rises t (n + syncs_in s) H low high le))
      stmt_rises (WhileS c s) n H low high le = covers_both (expr_visits P rel c H low) (visits P rel level slots s n H low) (expr_visits P rel c H high) (visits P rel level slots s n H high) (expr_rises c H low high le) (stmt_rises s n H low high le)
      stmt_rises (SyncS p s) n H low high le =
          sync_rises (H p) n (lock_class P slots p) low high (visits P rel level slots s (n + 1) H low) (visits P rel level slots s (n + 1) (with_path p H) (max low (level (lock_class P slots p))))
          (visits P rel level slots s (n + 1) H high) (visits P rel level slots s (n + 1) (with_path p H) (max high (level (lock_class P slots p)))) le (stmt_rises s (n + 1) H low high le)
          (stmt_rises s (n + 1) (with_path p H) (max low (level (lock_class P slots p))) (max high (level (lock_class P slots p))) (max_rises low high (level (lock_class P slots p)) le))
      stmt_rises (ReturnS None) n H low high le = covers_none []
      stmt_rises (ReturnS (Some e)) n H low high le = expr_rises e H low high le
      stmt_rises (PrintS e) n H low high le = expr_rises e H low high le
      stmt_rises (StartS e) n H low high le = expr_rises e H low high le

      block_rises : (ss : Stmts) (n : ℕ) (H : Held) (low high : ℕ) → low ≤ high → Covers (block_visits P rel level slots ss n H low) (block_visits P rel level slots ss n H high)
      block_rises no_stmts n H low high le = covers_none []
      block_rises (and_stmt s ss) n H low high le =
          covers_both (visits P rel level slots s n H low) (block_visits P rel level slots ss (n + syncs_in s) (after_stmt P s H) low) (visits P rel level slots s n H high) (block_visits P rel level slots ss (n + syncs_in s) (after_stmt P s H) high)
          (stmt_rises s n H low high le) (block_rises ss (n + syncs_in s) (after_stmt P s H) low high le)

  -- Greatest levels decide.

  module _ (level : ℕ → ℕ) (G : ℕ → Held → ℕ → Type 0) where
    -- contexts with at least the greatest level of each: what G tells are contexts, `main` and each `run` are among them with the empty set, and
    -- so is each call of them, at a level that isn't lower
    pub record AreGreatest : Type 0 where
      pub contexts : (m : ℕ) (H : Held) (u : ℕ) → G m H u → Context P rel level m H u
      pub main : (v : ℕ) × G P.main (λ q. false) v
      pub start : (m : ℕ) → Rattle.levels.specs.Contexts.RunsFirst P m → (v : ℕ) × G m (λ q. false) v
      pub calls : (m : ℕ) (H : Held) (u : ℕ) (method : Method) → G m H u → slice_get P.methods m ≡ Some method → (callee : ℕ) (known : ℕ → Held) (later : ℕ) → Contains (body_visits P rel level method H u) (Comes callee known later)
          → (k : ℕ) → MayRun P k callee → (v : ℕ) × (later ≤ v) × G k (known k) v

    module _ (greatest : AreGreatest) where
      chain : (a b c : ℕ) → a ≤ b → b ≤ c → a ≤ c
      chain a b c first second = omega (arith, first, second)

      from_none : (v : ℕ) → 0 ≤ v
      from_none v = omega arith

      -- each context has one that is told, at a level that isn't lower
      pub told_above : (m : ℕ) (H : Held) (u : ℕ) → Context P rel level m H u → (v : ℕ) × (u ≤ v) × G m H v
      told_above m H u at_main = (greatest.main.0, from_none greatest.main.0, greatest.main.1)
      told_above m H u (at_start {m = n} runs) = let r = greatest.start n runs in (r.0, from_none r.0, r.1)
      told_above m H u (at_call {m = caller} {H = K} {under = low} {k = k} method callee known later context is has runs) =
          let above = told_above caller K low context in
          let rises = stmt_rises level (slot_types method) method.body 0 K low above.0 above.1 in
          let call = rises.comes callee known later has in
          let r = greatest.calls caller K above.0 method above.2 is callee known call.0 call.2 k runs in
          (r.0, chain later call.0 r.0 call.1 r.1, r.2)

      -- a bad one of a context is bad in a walk that is told, under a level that isn't lower
      pub told_bad : (m place class under : ℕ) → IsBadAt P rel level m place class under
          → (method : Method) × (H : Held) × (at : ℕ) × (v : ℕ) × G m H at × (slice_get P.methods m ≡ Some method) × Contains (body_visits P rel level method H at) (Bad place class v) × (under ≤ v)
      told_bad m place class under (method, H, at, context, is, has) =
          let above = told_above m H at context in
          let bad = (stmt_rises level (slot_types method) method.body 0 H at above.0 above.1).bad place class under has in
          (method, H, above.0, bad.0, above.2, is, bad.2, bad.1)

      -- where no walk that is told has a bad one, the program is ordered
      pub told_ordered : ((m : ℕ) (H : Held) (at : ℕ) (method : Method) (place class v : ℕ) → G m H at → slice_get P.methods m ≡ Some method → Contains (body_visits P rel level method H at) (Bad place class v) → ⊥) → IsOrdered P rel level
      told_ordered none m place class under bad = let r = told_bad m place class under bad in none m r.1 r.2 r.0 place class r.3 r.4 r.5 r.6
