-- Unfolding keeps that a list of work is walked, and so does a heap that grows.
use Rattle.std.proofs.Common.{◌≡◌, ◌⊎◌, inl, inr, ◌≤◌, ℕ, zero, suc, ◌+◌, Bool, true, false, ◌||◌, List, [], ◌∷◌, ◌++◌, Some, None, refl, sym, ap, subst, ◌∙◌, arith, append_assoc, append-nil}
use Rattle.std.specs.Prelude.{Option, slice_get, length, nat_le, if◌then◌else◌}
use Rattle.std.specs.List.{list_all}
use Rattle.std.proofs.lemmas.Bool.Decides.{nat_tests}
use Rattle.std.proofs.lemmas.Bool.{and_parts, or_parts}
use Rattle.std.proofs.lemmas.List.Elements.{Contains-append_left, Contains-append_right}
use Rattle.paths.specs.Paths.{PathData, extended, most_fields}
use Rattle.algebra.specs.HeldPaths.{Held}
use Rattle.core_program.specs.declared.types.CoreType.{CoreType}
use Rattle.core_program.specs.declared.types.CoreType.TheVariants as type
use Rattle.core_program.specs.declared.types.UnaryOp.TheVariants.{Not, Neg}
use Rattle.core_program.specs.Core.{Program, Expr, Exprs, IntE, TruthE, NullE, ThisE, VarE, NotE, NegE, BinaryE, AndE, OrE, GetE, CallE, NewE, no_exprs, and_expr}
use Rattle.core_program.specs.Core.{Stmt, Stmts, EmptyS, BlockS, LocalS, SetVarS, SetFieldS, DoS, IfS, WhileS, SyncS, ReturnS, PrintS, StartS, no_stmts, and_stmt}
use Rattle.core_program.specs.Locks.{leads_on, get_path, path_of, slot_path}
use Rattle.rules.specs.Mentions.{paths_of}
use Rattle.rules.specs.Effect.{after_stmt}
use Rattle.state.specs.declared.value.Address.{Address}
use Rattle.state.specs.declared.value.Value.{Value}
use Rattle.state.specs.Memory.{Object}
use Rattle.state.specs.Work as W
use Rattle.state.specs.Work.{Action, Item, Ex, St, Act, Next, exprs_items, stmts_items, gets, open_expr, open_new, open_stmt, open_block, opened, first_release, open_return, settled, settled_some, unfolded}
use Rattle.semantics.specs.Step.{has_result}
use Rattle.reduction.specs.Leads.{Env, machine_memory, Grows, Paths, MayLeadTo, with_slot, top_path, under_path, taken_paths, dropped_paths}
use Rattle.reduction.specs.Fits.{SlotsAgree, Fresh, FreshEach, TidyE, TidyEach, TidyS, TidyBlock, argument_count, arity_of, final_field_count, stores, stores_each, has_release, pushed, awaited}
use Rattle.reduction.specs.Safe.{releases_in_work}
use Rattle.state.specs.States.{Frame}
use Rattle.reduction.proofs.LeadLemmas.{leads_grows, may_shrink, sound_grows, each_grows}
use Rattle.reduction.proofs.FitLemmas.{same_slot, other_slot, agrees_shrinks}
use Rattle.reduction.proofs.SetLemmas.{after_sound, after_fresh}
use Rattle.reduction.proofs.PushedPaths.{pushed_each, taken_all, dropped_all, on_pushed, exprs_release, stmts_release}
use Rattle.levels.specs.SlotTypes.{slot_types}
use Rattle.levels.specs.TypedStates.{Stays}
use Rattle.levels.specs.Walks.{LevelVisit, call_visits, expr_visits, exprs_visits, visits, block_visits}
use Rattle.levels.proofs.Ranked.{IsUnder, Stands, At, Fine, RankedAct, RankedItem, Ranked, RankedNext, RankedOpens, FramesRanked}

-- Releases in lists of parts.

gets_release : (a : Address) (fs : List ℕ) (st : Stmt) (more : List Item) → has_release a (gets fs (Act (W.Acquire st) ∷ more)) ≡ has_release a more
gets_release a [] st more = refl
gets_release a (f ∷ fs) st more = gets_release a fs st more

call_pushed : (b : Bool) (os : Paths) → (if b then None ∷ os else os) ≡ (if b then None ∷ [] else []) ++ os
call_pushed true os = refl
call_pushed false os = refl

module _ (P : Program) (rel : ℕ → List PathData) (level : ℕ → ℕ) where
  pub fine_first : (xs ys : List LevelVisit) → Fine P rel level (xs ++ ys) → Fine P rel level xs
  fine_first xs ys f = record {
    comes = λ m known u has k runs. f.comes m known u (Contains-append_left xs ys _ has) k runs;
    none_bad = λ place c u has. f.none_bad place c u (Contains-append_left xs ys _ has);
  }

  pub fine_second : (xs ys : List LevelVisit) → Fine P rel level (xs ++ ys) → Fine P rel level ys
  fine_second xs ys f = record {
    comes = λ m known u has k runs. f.comes m known u (Contains-append_right xs ys _ has) k runs;
    none_bad = λ place c u has. f.none_bad place c u (Contains-append_right xs ys _ has);
  }

module _ (P : Program) (rel : ℕ → List PathData) (level : ℕ → ℕ) (slots : List CoreType) (objects : Address → Option Object) (outer : Address → Bool) where
  -- the held locks where this is left to do
  abbrev held_at : List Item → Address → Bool
  held_at more a = has_release a more || outer a

  stands_same : (more later : List Item) (env : Env) (H : Held) (under : ℕ) → ((a : Address) → has_release a later ≡ has_release a more) → Stands P level objects env H under (held_at more) → Stands P level objects env H under (held_at later)
  stands_same more later env H under same s = subst (Stands P level objects env H under) (λ i a. sym (same a) i || outer a) s

  exprs_open : (es : Exprs) (work : List Item) (env : Env) (H : Held) (under : ℕ) (os : Paths) → Stands P level objects env H under (held_at work) → TidyEach P es → Fine P rel level (exprs_visits P rel es H under)
      → Ranked P rel level slots objects outer work env (pushed_each P es os) → Ranked P rel level slots objects outer (exprs_items es work) env os
  exprs_open no_exprs work env H under os s tidy fine r = r
  exprs_open (and_expr e es) work env H under os s tidy fine r = (
    record {
      set = H;
      under = under;
      stands = stands_same work (exprs_items es work) env H under (λ a. exprs_release a es work) s;
      rest = (tidy.1, fine_first P rel level (expr_visits P rel e H under) (exprs_visits P rel es H under) fine);
    },
    on_pushed P (λ z. Ranked P rel level slots objects outer (exprs_items es work) env z) e os tidy.0
        (exprs_open es work env H under (path_of P e ∷ os) s tidy.2 (fine_second P rel level (expr_visits P rel e H under) (exprs_visits P rel es H under) fine) r),
  )

  call_ranked : (e : Expr) (m : ℕ) (args : Exprs) (more : List Item) (env : Env) (H : Held) (under : ℕ) (os : Paths) → Stands P level objects env H under (held_at more) → arity_of (slice_get P.methods m) ≡ argument_count args
      → Fine P rel level (call_visits P rel m (path_of P e) (paths_of P args) H under) → Ranked P rel level slots objects outer more env (pushed P (CallE e m args) os)
      → Ranked P rel level slots objects outer (Act (W.Call m) ∷ more) env (pushed_each P args (path_of P e ∷ os))
  call_ranked e m args more env H under os s count fine r =
      let n = arity_of (slice_get P.methods m) in
      let below = dropped_all P args (arity_of (slice_get P.methods m)) (path_of P e ∷ os) count in
      let taken = taken_all P args (arity_of (slice_get P.methods m)) (path_of P e ∷ os) count in (
        record {
          set = H;
          under = under;
          stands = s;
          rest = subst (λ z. Fine P rel level (call_visits P rel m (top_path z) (taken_paths n [] (pushed_each P args (path_of P e ∷ os))) H under)) (sym below)
              (subst (λ z. Fine P rel level (call_visits P rel m (path_of P e) z H under)) (sym taken) fine);
        },
        subst (λ z. Ranked P rel level slots objects outer more env (awaited P m ++ under_path z)) (sym below)
            (subst (λ z. Ranked P rel level slots objects outer more env z) (call_pushed (has_result (slice_get P.methods m)) os) r),
      )

  new_ranked : (c : ℕ) (args : Exprs) (more : List Item) (env : Env) (os : Paths) → final_field_count (slice_get P.classes c) ≡ argument_count args → Ranked P rel level slots objects outer more env (None ∷ os)
      → Ranked P rel level slots objects outer (Act (W.New c) ∷ more) env (pushed_each P args os)
  new_ranked c args more env os count r = subst (λ z. Ranked P rel level slots objects outer more env (None ∷ z)) (sym (dropped_all P args (final_field_count (slice_get P.classes c)) os count)) r

  mutual
    pub expr_opens : (e : Expr) (more : List Item) (env : Env) (H : Held) (under : ℕ) (os : Paths) → Stands P level objects env H under (held_at more) → TidyE P e → Fine P rel level (expr_visits P rel e H under)
        → Ranked P rel level slots objects outer more env (pushed P e os) → RankedNext P rel level slots objects outer (open_expr e more) env os
    expr_opens (IntE n) more env H under os s tidy fine r = r
    expr_opens (TruthE b) more env H under os s tidy fine r = r
    expr_opens NullE more env H under os s tidy fine r = r
    expr_opens ThisE more env H under os s tidy fine r = (Some (slot_path 0), refl, r)
    expr_opens (VarE x true (type.Class c)) more env H under os s tidy fine r = (Some (slot_path x), refl, r)
    expr_opens (VarE x true type.Int) more env H under os s tidy fine r = (None, tt, r)
    expr_opens (VarE x true type.Boolean) more env H under os s tidy fine r = (None, tt, r)
    expr_opens (VarE x false ty) more env H under os s tidy fine r = (None, tt, r)
    expr_opens (NotE e) more env H under os s tidy fine r = expr_opens e (Act (W.Unary Not) ∷ more) env H under os s tidy.1 fine (on_pushed P (λ z. Ranked P rel level slots objects outer more env (None ∷ under_path z)) e os tidy.0 r)
    expr_opens (NegE e) more env H under os s tidy fine r = expr_opens e (Act (W.Unary Neg) ∷ more) env H under os s tidy.1 fine (on_pushed P (λ z. Ranked P rel level slots objects outer more env (None ∷ under_path z)) e os tidy.0 r)
    expr_opens (BinaryE op a b) more env H under os s tidy fine r =
        expr_opens a (Ex b ∷ Act (W.Binary op) ∷ more) env H under os s tidy.1 (fine_first P rel level (expr_visits P rel a H under) (expr_visits P rel b H under) fine) (
          record { set = H; under = under; stands = s; rest = (tidy.3, fine_second P rel level (expr_visits P rel a H under) (expr_visits P rel b H under) fine) },
          on_pushed P (λ z. Ranked P rel level slots objects outer more env (None ∷ under_path (under_path z))) b (pushed P a os) tidy.2
              (on_pushed P (λ z. Ranked P rel level slots objects outer more env (None ∷ under_path z)) a os tidy.0 r),
        )
    expr_opens (AndE a b) more env H under os s tidy fine r =
        expr_opens a (Act (W.AndThen b) ∷ more) env H under os s tidy.1 (fine_first P rel level (expr_visits P rel a H under) (expr_visits P rel b H under) fine) (
          record { set = H; under = under; stands = s; rest = (tidy.2, tidy.3, tidy.4, fine_second P rel level (expr_visits P rel a H under) (expr_visits P rel b H under) fine) },
          on_pushed P (λ z. Ranked P rel level slots objects outer more env (None ∷ under_path z)) a os tidy.0 r,
        )
    expr_opens (OrE a b) more env H under os s tidy fine r =
        expr_opens a (Act (W.OrElse b) ∷ more) env H under os s tidy.1 (fine_first P rel level (expr_visits P rel a H under) (expr_visits P rel b H under) fine) (
          record { set = H; under = under; stands = s; rest = (tidy.2, tidy.3, tidy.4, fine_second P rel level (expr_visits P rel a H under) (expr_visits P rel b H under) fine) },
          on_pushed P (λ z. Ranked P rel level slots objects outer more env (None ∷ under_path z)) a os tidy.0 r,
        )
    expr_opens (GetE e f) more env H under os s tidy fine r = expr_opens e (Act (W.Get f) ∷ more) env H under os s tidy.1 fine
        (on_pushed P (λ z. Ranked P rel level slots objects outer more env (get_path P f (top_path z) ∷ under_path z)) e os tidy.0 r)
    expr_opens (CallE e m args) more env H under os s tidy fine r =
        let rest = fine_second P rel level (expr_visits P rel e H under) (exprs_visits P rel args H under ++ call_visits P rel m (path_of P e) (paths_of P args) H under) fine in
        expr_opens e (exprs_items args (Act (W.Call m) ∷ more)) env H under os (stands_same more (exprs_items args (Act (W.Call m) ∷ more)) env H under (λ a. exprs_release a args (Act (W.Call m) ∷ more)) s) tidy.1
        (fine_first P rel level (expr_visits P rel e H under) (exprs_visits P rel args H under ++ call_visits P rel m (path_of P e) (paths_of P args) H under) fine)
        (on_pushed P (λ z. Ranked P rel level slots objects outer (exprs_items args (Act (W.Call m) ∷ more)) env z) e os tidy.0
        (exprs_open args (Act (W.Call m) ∷ more) env H under (path_of P e ∷ os) s tidy.2 (fine_first P rel level (exprs_visits P rel args H under) (call_visits P rel m (path_of P e) (paths_of P args) H under) rest)
        (call_ranked e m args more env H under os s tidy.3 (fine_second P rel level (exprs_visits P rel args H under) (call_visits P rel m (path_of P e) (paths_of P args) H under) rest) r)))
    expr_opens (NewE c args) more env H under os s tidy fine r = new_opens c args more env H under os s tidy.0 fine (new_ranked c args more env os tidy.1 r)

    new_opens : (c : ℕ) (args : Exprs) (more : List Item) (env : Env) (H : Held) (under : ℕ) (os : Paths) → Stands P level objects env H under (held_at more) → TidyEach P args → Fine P rel level (exprs_visits P rel args H under)
        → Ranked P rel level slots objects outer (Act (W.New c) ∷ more) env (pushed_each P args os) → RankedNext P rel level slots objects outer (open_new c args more) env os
    new_opens c no_exprs more env H under os s tidy fine r = r
    new_opens c (and_expr e es) more env H under os s tidy fine r =
        expr_opens e (exprs_items es (Act (W.New c) ∷ more)) env H under os (stands_same more (exprs_items es (Act (W.New c) ∷ more)) env H under (λ a. exprs_release a es (Act (W.New c) ∷ more)) s) tidy.1
        (fine_first P rel level (expr_visits P rel e H under) (exprs_visits P rel es H under) fine)
        (on_pushed P (λ z. Ranked P rel level slots objects outer (exprs_items es (Act (W.New c) ∷ more)) env z) e os tidy.0
        (exprs_open es (Act (W.New c) ∷ more) env H under (path_of P e ∷ os) s tidy.2 (fine_second P rel level (expr_visits P rel e H under) (exprs_visits P rel es H under) fine) r))

  -- the kept slots, and what stands after a statement
  abbrev Kept : (ℕ → Bool) → Env → Env → Type 0
  Kept test env later = (y : ℕ) → test y ≡ false → later y ≡ env y

  abbrev After : Stmt → List Item → Env → Type 0
  After st more env = (later : Env) → SlotsAgree P (machine_memory P objects) st env later → Ranked P rel level slots objects outer more later []

  -- the statements of a block, each at the set that those before it leave
  block_ranked : (ss : Stmts) (more : List Item) (env : Env) (H : Held) (under n : ℕ) → Stands P level objects env H under (held_at more) → FreshEach H ss → TidyBlock P ss → Fine P rel level (block_visits P rel level slots ss n H under)
      → ((later : Env) → Kept (stores_each ss) env later → Ranked P rel level slots objects outer more later []) → Ranked P rel level slots objects outer (stmts_items ss more) env []
  block_ranked no_stmts more env H under n s fresh tidy fine r = r env (λ y other. refl)
  block_ranked (and_stmt st ss) more env H under n s fresh tidy fine r =
      let first : Fresh H st = record { at = λ x has. (or_parts (stores st x.root) (stores_each ss x.root) (fresh.at x has)).0 } in (
        record {
          set = H;
          under = under;
          stands = stands_same more (stmts_items ss more) env H under (λ a. stmts_release a ss more) s;
          rest = (first, tidy.0, (n, fine_first P rel level (visits P rel level slots st n H under) (block_visits P rel level slots ss (n + Rattle.levels.specs.Walks.syncs_in st) (after_stmt P st H) under) fine));
        },
        λ later agrees. block_ranked ss more later (after_stmt P st H) under (n + Rattle.levels.specs.Walks.syncs_in st)
            (record { sound = after_sound P (machine_memory P objects) env later (held_at more) st H agrees first s.sound; high = s.high }) (after_fresh P st ss H tidy.1 fresh) tidy.2
            (fine_second P rel level (visits P rel level slots st n H under) (block_visits P rel level slots ss (n + Rattle.levels.specs.Walks.syncs_in st) (after_stmt P st H) under) fine)
            (λ last kept. r last (λ y other. kept y ((or_parts (stores st y) (stores_each ss y) other).1) ∙ agrees.kept y ((or_parts (stores st y) (stores_each ss y) other).0))),
      )

  extended_short : (p : PathData) (f : ℕ) → length (p.fields ++ f ∷ []) ≤ most_fields → extended p (f ∷ []) ≡ Some (record { root = p.root; fields = p.fields ++ f ∷ [] })
  extended_short p f short = ap (λ b. if b then Some (record { root = p.root; fields = p.fields ++ f ∷ [] }) else None) (is_short (length (p.fields ++ f ∷ [])) short)
    where
      is_short : (n : ℕ) → n ≤ most_fields → nat_le n most_fields ≡ true
      is_short n short = grind (arith, nat_tests)

  path_read : (f : ℕ) (q : PathData) → leads_on (slice_get P.fields f) ≡ true → length (q.fields ++ f ∷ []) ≤ most_fields → get_path P f (Some q) ≡ Some (record { root = q.root; fields = q.fields ++ f ∷ [] })
  path_read f q on short = ap (λ b. if b then extended q (f ∷ []) else None) on ∙ extended_short q f short

  front_short : (xs : List ℕ) (f : ℕ) (fs : List ℕ) (n : ℕ) → length (xs ++ f ∷ fs) ≤ n → length (xs ++ f ∷ []) ≤ n
  front_short [] f fs n short = omega (arith, short)
  front_short (x ∷ xs) f fs zero short = absurd (omega (arith, short))
  front_short (x ∷ xs) f fs (suc n) short = let more : length (xs ++ f ∷ []) ≤ n = front_short xs f fs n (omega (arith, short)) in omega (arith, more)

  -- the reads of a lock's path, and then the acquire
  gets_open : (fs : List ℕ) (q whole : PathData) (st : Stmt) (more : List Item) (env : Env) → list_all (λ f. leads_on (slice_get P.fields f)) fs ≡ true → length (q.fields ++ fs) ≤ most_fields
      → record { root = q.root; fields = q.fields ++ fs } ≡ whole → Ranked P rel level slots objects outer (Act (W.Acquire st) ∷ more) env (Some whole ∷ []) → Ranked P rel level slots objects outer (gets fs (Act (W.Acquire st) ∷ more)) env (Some q ∷ [])
  gets_open [] q whole st more env on short is r = subst (λ z. Ranked P rel level slots objects outer (Act (W.Acquire st) ∷ more) env (Some z ∷ [])) (sym is ∙ nothing_more q) r
    where
      nothing_more : (q : PathData) → record { root = q.root; fields = q.fields ++ [] } ≡ q
      nothing_more q = ap (λ fs. record { root = q.root; fields = fs }) (append-nil q.fields)
  gets_open (g ∷ fs) q whole st more env on short is r =
      let tests = and_parts (leads_on (slice_get P.fields g)) (list_all (λ f. leads_on (slice_get P.fields f)) fs) on in
      let next : PathData = record { root = q.root; fields = q.fields ++ g ∷ [] } in
      let same : (q.fields ++ g ∷ []) ++ fs ≡ q.fields ++ g ∷ fs = append_assoc q.fields (g ∷ []) fs in
      subst (λ z. Ranked P rel level slots objects outer (gets fs (Act (W.Acquire st) ∷ more)) env (z ∷ []))
      (sym (path_read g q tests.0 (front_short q.fields g fs most_fields short)))
      (gets_open fs next whole st more env tests.1 (subst (λ z. length z ≤ most_fields) (sym same) short) (ap (λ z. record { root = q.root; fields = z }) same ∙ is) r)

  mutual
    stmt_opens : (st : Stmt) (more : List Item) (next : Option Next) (env : Env) (H : Held) (under n : ℕ) → ((later : Env) → Ranked P rel level slots objects outer more later [] → RankedOpens P rel level slots objects outer next later [])
        → Stands P level objects env H under (held_at more) → Fresh H st → TidyS P st → Fine P rel level (visits P rel level slots st n H under) → After st more env → RankedOpens P rel level slots objects outer (open_stmt st more next) env []
    stmt_opens EmptyS more next env H under n opens s fresh tidy fine r = opens env (r env (record { kept = λ y other. refl; local = tt }))
    stmt_opens (BlockS ss) more next env H under n opens s fresh tidy fine r = items_open ss more next env opens
        (block_ranked ss more env H under n s (record { at = λ q has. fresh.at q has }) tidy fine (λ later kept. r later (record { kept = kept; local = tt })))
    stmt_opens (LocalS x true ty e) more next env H under n opens s fresh tidy fine r = expr_opens e (Act (W.Store x) ∷ more) env H under [] s tidy.1 fine
        (on_pushed P (λ z. (v : Value) → MayLeadTo P (machine_memory P objects) env (top_path z) v → Ranked P rel level slots objects outer more (with_slot env x v) []) e [] tidy.0
        (λ v may. r (with_slot env x v) (record { kept = λ y other. other_slot env x v y other; local = subst (MayLeadTo P (machine_memory P objects) env (path_of P e)) (sym (same_slot env x v)) may })))
    stmt_opens (LocalS x false ty e) more next env H under n opens s fresh tidy fine r = expr_opens e (Act (W.Store x) ∷ more) env H under [] s tidy.1 fine
        (λ v may. r (with_slot env x v) (record { kept = λ y other. other_slot env x v y other; local = tt }))
    stmt_opens (SetVarS x e) more next env H under n opens s fresh tidy fine r = expr_opens e (Act (W.Store x) ∷ more) env H under [] s tidy.1 fine
        (λ v may. r (with_slot env x v) (record { kept = λ y other. other_slot env x v y other; local = tt }))
    stmt_opens (SetFieldS e f g) more next env H under n opens s fresh tidy fine r =
        expr_opens e (Ex g ∷ Act (W.Put f) ∷ more) env H under [] s tidy.1 (fine_first P rel level (expr_visits P rel e H under) (expr_visits P rel g H under) fine) (
          record { set = H; under = under; stands = s; rest = (tidy.3, fine_second P rel level (expr_visits P rel e H under) (expr_visits P rel g H under) fine) },
          on_pushed P (λ z. Ranked P rel level slots objects outer more env (under_path (under_path z))) g (pushed P e []) tidy.2
              (on_pushed P (λ z. Ranked P rel level slots objects outer more env (under_path z)) e [] tidy.0 (r env (record { kept = λ z other. refl; local = tt }))),
        )
    stmt_opens (DoS e true) more next env H under n opens s fresh tidy fine r = expr_opens e (Act W.Drop ∷ more) env H under [] s tidy.1 fine
        (on_pushed P (λ z. Ranked P rel level slots objects outer more env (under_path z)) e [] (sym tidy.0) (r env (record { kept = λ y other. refl; local = tt })))
    stmt_opens (DoS e false) more next env H under n opens s fresh tidy fine r = expr_opens e more env H under [] s tidy.1 fine
        (subst (λ b. Ranked P rel level slots objects outer more env (if b then path_of P e ∷ [] else [])) tidy.0 (r env (record { kept = λ y other. refl; local = tt })))
    stmt_opens (IfS c t u) more next env H under n opens s fresh tidy fine r =
        let rest = fine_second P rel level (expr_visits P rel c H under) (visits P rel level slots t n H under ++ visits P rel level slots u (n + Rattle.levels.specs.Walks.syncs_in t) H under) fine in
        expr_opens c (Act (W.Choose t u) ∷ more) env H under [] s tidy.1 (fine_first P rel level (expr_visits P rel c H under) (visits P rel level slots t n H under ++ visits P rel level slots u (n + Rattle.levels.specs.Walks.syncs_in t) H under) fine) (
          record {
            set = H;
            under = under;
            stands = s;
            rest = (
              record { at = λ x has. (or_parts (stores t x.root) (stores u x.root) (fresh.at x has)).0 },
              record { at = λ x has. (or_parts (stores t x.root) (stores u x.root) (fresh.at x has)).1 },
              tidy.2,
              tidy.3,
              (n, fine_first P rel level (visits P rel level slots t n H under) (visits P rel level slots u (n + Rattle.levels.specs.Walks.syncs_in t) H under) rest),
              (n + Rattle.levels.specs.Walks.syncs_in t, fine_second P rel level (visits P rel level slots t n H under) (visits P rel level slots u (n + Rattle.levels.specs.Walks.syncs_in t) H under) rest),
            );
          },
          λ later kept. r later (record { kept = kept; local = tt }),
        )
    stmt_opens (WhileS c t) more next env H under n opens s fresh tidy fine r =
        let test = fine_first P rel level (expr_visits P rel c H under) (visits P rel level slots t n H under) fine in
        expr_opens c (Act (W.Loop c t) ∷ more) env H under [] s tidy.1 test (
          record {
            set = H;
            under = under;
            stands = s;
            rest = (
              record { at = λ x has. fresh.at x has },
              tidy.0,
              tidy.1,
              tidy.2,
              test,
              (n, fine_second P rel level (expr_visits P rel c H under) (visits P rel level slots t n H under) fine),
            );
          },
          λ later kept. r later (record { kept = kept; local = tt }),
        )
    stmt_opens (SyncS path t) more next env H under n opens s fresh tidy fine r = (
      Some (slot_path path.root),
      refl,
      gets_open path.fields (slot_path path.root) path t more env tidy.0 tidy.1 refl (
        record { set = H; under = under; stands = s; rest = (path, refl, record { at = λ x has. fresh.at x has }, tidy.2, tidy.3, (n, fine)) },
        λ later kept. r later (record { kept = kept; local = tt }),
      ),
    )
    stmt_opens (ReturnS None) more next env H under n opens s fresh tidy fine r = tt
    stmt_opens (ReturnS (Some e)) more next env H under n opens s fresh tidy fine r = expr_opens e (Act W.Ret ∷ more) env H under [] s tidy.1 fine tt
    stmt_opens (PrintS e) more next env H under n opens s fresh tidy fine r = expr_opens e (Act W.Print ∷ more) env H under [] s tidy.1 fine
        (on_pushed P (λ z. Ranked P rel level slots objects outer more env (under_path z)) e [] tidy.0 (r env (record { kept = λ y other. refl; local = tt })))
    stmt_opens (StartS e) more next env H under n opens s fresh tidy fine r = expr_opens e (Act W.Start ∷ more) env H under [] s tidy.1 fine
        (on_pushed P (λ z. Ranked P rel level slots objects outer more env (under_path z)) e [] tidy.0 (r env (record { kept = λ y other. refl; local = tt })))

    items_open : (ss : Stmts) (more : List Item) (next : Option Next) (env : Env) → ((later : Env) → Ranked P rel level slots objects outer more later [] → RankedOpens P rel level slots objects outer next later [])
        → Ranked P rel level slots objects outer (stmts_items ss more) env [] → RankedOpens P rel level slots objects outer (open_block ss more next) env []
    items_open no_stmts more next env opens r = opens env r
    items_open (and_stmt st ss) more next env opens r =
        stmt_opens st (stmts_items ss more) (open_block ss more next) env r.0.set r.0.under r.0.rest.2.0 (λ later g. items_open ss more next later opens g) r.0.stands r.0.rest.0 r.0.rest.1 r.0.rest.2.1 r.1

  either_same : (T : Type 0) → T ⊎ T → T
  either_same T (inl x) = x
  either_same T (inr x) = x

  work_opens : (work : List Item) (env : Env) (os : Paths) → Ranked P rel level slots objects outer work env os → RankedOpens P rel level slots objects outer (opened work) env os ⊎ RankedOpens P rel level slots objects outer (opened work) env []
  work_opens [] env os r = inl tt
  work_opens (Ex e ∷ more) env os r = inl (expr_opens e more env r.0.set r.0.under os r.0.stands r.0.rest.0 r.0.rest.1 r.1)
  work_opens (St st ∷ more) env os r = inr (stmt_opens st more (opened more) env r.0.set r.0.under r.0.rest.2.0 (λ later g. either_same _ (work_opens more later [] g)) r.0.stands r.0.rest.0 r.0.rest.1 r.0.rest.2.1 r.1)
  work_opens (Act a ∷ more) env os r = inl r

  return_opens : (later : Option (Address × List Item)) (more : List Item) (env : Env) (os : Paths) → RankedNext P rel level slots objects outer (open_return later more) env os
  return_opens None more env os = tt
  return_opens (Some later) more env os = tt

  settles : (a : Action) (more : List Item) (env : Env) (os : Paths) → RankedNext P rel level slots objects outer (a, more) env os → RankedNext P rel level slots objects outer (settled (a, more)) env os
  settles (W.Push v) more env os r = r
  settles (W.Load x) more env os r = r
  settles (W.Store x) more env os r = r
  settles W.Drop more env os r = r
  settles (W.Unary op) more env os r = r
  settles (W.Binary op) more env os r = r
  settles (W.AndThen e) more env os r = r
  settles (W.OrElse e) more env os r = r
  settles (W.Choose s t) more env os r = r
  settles (W.Loop c s) more env os r = r
  settles (W.Get f) more env os r = r
  settles (W.Put f) more env os r = r
  settles (W.New c) more env os r = r
  settles (W.Call m) more env os r = r
  settles (W.Acquire s) more env os r = r
  settles (W.Release a) more env os r = r
  settles W.Ret more env os r = return_opens (first_release more) more env os
  settles W.Print more env os r = r
  settles W.Start more env os r = r

  some_settles : (o : Option Next) (env : Env) (os : Paths) → RankedOpens P rel level slots objects outer o env os → RankedOpens P rel level slots objects outer (settled_some o) env os
  some_settles None env os r = tt
  some_settles (Some next) env os r = settles next.0 next.1 env os r

  map_either : {A B C D : Type 0} → (A → C) → (B → D) → A ⊎ B → C ⊎ D
  map_either f g (inl x) = inl (f x)
  map_either f g (inr x) = inr (g x)

  -- what a list unfolds into is walked, with the same paths of operands or with none known
  pub unfolds : (work : List Item) (env : Env) (os : Paths) → Ranked P rel level slots objects outer work env os → RankedOpens P rel level slots objects outer (unfolded work) env os ⊎ RankedOpens P rel level slots objects outer (unfolded work) env []
  unfolds work env os r = map_either (some_settles (opened work) env os) (some_settles (opened work) env []) (work_opens work env os r)

-- In a heap that has grown.

module _ (P : Program) (rel : ℕ → List PathData) (level : ℕ → ℕ) (old new : Address → Option Object) (grows : Grows P (machine_memory P old) (machine_memory P new)) (stays : Stays old new) where
  under_stays : (under : ℕ) (a : Address) → IsUnder level old under a → IsUnder level new under a
  under_stays under a (o, is, low) = let later = stays a o is in (later.0, later.1, subst (λ c. level c ≤ under) (sym later.2) low)

  stands_grow : (env : Env) (H : Held) (under : ℕ) (held : Address → Bool) → Stands P level old env H under held → Stands P level new env H under held
  stands_grow env H under held s = record { sound = sound_grows P (machine_memory P old) (machine_memory P new) grows env H held s.sound; high = λ a is. under_stays under a (s.high a is) }

  at_grows : (outer : Address → Bool) (env : Env) (more : List Item) (C : Held → ℕ → Type 0) → At P level old outer env more C → At P level new outer env more C
  at_grows outer env more C a = record { set = a.set; under = a.under; stands = stands_grow env a.set a.under (λ b. has_release b more || outer b) a.stands; rest = a.rest }

  module _ (slots : List CoreType) (outer : Address → Bool) where
    act_grows : (more : List Item) (G K : Env → Paths → Type 0) → ((env : Env) (os : Paths) → G env os → K env os) → (a : Action) (env : Env) (os : Paths) → RankedAct P rel level slots old outer a more G env os → RankedAct P rel level slots new outer a more K env os
    act_grows more G K f (W.Push v) env os r = f env (None ∷ os) r
    act_grows more G K f (W.Load x) env os r = (r.0, leads_grows P (machine_memory P old) (machine_memory P new) grows env r.0 (env x) r.1, f env (r.0 ∷ os) r.2)
    act_grows more G K f (W.Store x) env os r = λ v may. f (with_slot env x v) [] (r v (may_shrink P (machine_memory P old) (machine_memory P new) grows env (top_path os) v may))
    act_grows more G K f W.Drop env os r = f env (under_path os) r
    act_grows more G K f (W.Unary op) env os r = f env (None ∷ under_path os) r
    act_grows more G K f (W.Binary op) env os r = f env (None ∷ under_path (under_path os)) r
    act_grows more G K f (W.AndThen e) env os r = (at_grows outer env more _ r.0, f env (None ∷ under_path os) r.1)
    act_grows more G K f (W.OrElse e) env os r = (at_grows outer env more _ r.0, f env (None ∷ under_path os) r.1)
    act_grows more G K f (W.Choose s t) env os r = (at_grows outer env more _ r.0, λ later kept. f later [] (r.1 later kept))
    act_grows more G K f (W.Loop c s) env os r = (at_grows outer env more _ r.0, λ later kept. f later [] (r.1 later kept))
    act_grows more G K f (W.Get x) env os r = f env (get_path P x (top_path os) ∷ under_path os) r
    act_grows more G K f (W.Put x) env os r = f env (under_path (under_path os)) r
    act_grows more G K f (W.New c) env os r = f env (None ∷ dropped_paths (final_field_count (slice_get P.classes c)) os) r
    act_grows more G K f (W.Call m) env os r = (at_grows outer env more _ r.0, f env (awaited P m ++ under_path (dropped_paths (arity_of (slice_get P.methods m)) os)) r.1)
    act_grows more G K f (W.Acquire s) env os r = (at_grows outer env more _ r.0, λ later kept. f later [] (r.1 later kept))
    act_grows more G K f (W.Release a) env os r = f env [] r
    act_grows more G K f W.Ret env os r = tt
    act_grows more G K f W.Print env os r = f env (under_path os) r
    act_grows more G K f W.Start env os r = f env (under_path os) r

    item_grows : (more : List Item) (G K : Env → Paths → Type 0) → ((env : Env) (os : Paths) → G env os → K env os) → (i : Item) (env : Env) (os : Paths) → RankedItem P rel level slots old outer i more G env os → RankedItem P rel level slots new outer i more K env os
    item_grows more G K f (Ex e) env os r = (at_grows outer env more _ r.0, f env (pushed P e os) r.1)
    item_grows more G K f (St s) env os r = (at_grows outer env more _ r.0, λ later agrees. f later [] (r.1 later (agrees_shrinks P (machine_memory P old) (machine_memory P new) grows s env later agrees)))
    item_grows more G K f (Act a) env os r = act_grows more G K f a env os r

    work_grows : (work : List Item) (env : Env) (os : Paths) → Ranked P rel level slots old outer work env os → Ranked P rel level slots new outer work env os
    work_grows [] env os r = tt
    work_grows (i ∷ more) env os r = item_grows more (Ranked P rel level slots old outer more) (Ranked P rel level slots new outer more) (λ e o g. work_grows more e o g) i env os r

  -- frames that are walked stay so
  pub frames_grow : (fs : List Frame) (coming : Paths) → FramesRanked P rel level old fs coming → FramesRanked P rel level new fs coming
  frames_grow [] coming r = tt
  frames_grow (f ∷ fs) coming r = (
    record {
      method = r.0.method;
      is = r.0.is;
      paths = r.0.paths;
      leads = each_grows P (machine_memory P old) (machine_memory P new) grows (Rattle.reduction.specs.Leads.env_of f.slots) r.0.paths f.operands r.0.leads;
      ranked = work_grows (slot_types r.0.method) (releases_in_work fs) f.work (Rattle.reduction.specs.Leads.env_of f.slots) (coming ++ r.0.paths) r.0.ranked;
    },
    frames_grow fs (awaited P f.method) r.1,
  )
