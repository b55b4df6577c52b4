-- Unfolding keeps that a list fits.
use Rattle.std.proofs.Common.{◌≡◌, ◌⊎◌, inl, inr, ℕ, zero, suc, ◌+◌, Bool, true, false, ◌||◌, ◌&&◌, List, [], ◌∷◌, ◌++◌, Some, None, refl, sym, ap, subst, ◌∙◌, arith, append_assoc, append-nil, ◌≤◌}
use Rattle.std.specs.Prelude.{Option, slice_get, length, nat_le, if◌then◌else◌}
use Rattle.std.specs.List.{list_all}
use Rattle.std.proofs.lemmas.Bool.Decides.{nat_tests}
use Rattle.std.proofs.lemmas.Bool.{or_parts}
use Rattle.paths.specs.Paths.{PathData, extended, most_fields}
use Rattle.algebra.specs.declared.basic.Basic.TheVariants.{Const, Mover, Atomic}
use Rattle.algebra.specs.Basics.{seq_of, join_of, star_of}
use Rattle.algebra.specs.HeldPaths.{Held, with_path}
use Rattle.core_program.specs.declared.types.CoreType.TheVariants as type
use Rattle.core_program.specs.Core as core
use Rattle.core_program.specs.Core.{Program, Expr, Exprs, IntE, TruthE, NullE, ThisE, VarE, NotE, NegE, BinaryE, AndE, OrE, GetE, CallE, NewE, no_exprs, and_expr}
use Rattle.core_program.specs.Core.{Stmt, Stmts, EmptyS, BlockS, LocalS, SetVarS, SetFieldS, DoS, IfS, WhileS, SyncS, ReturnS, PrintS, StartS, no_stmts, and_stmt}
use Rattle.core_program.specs.Locks.{leads_on, get_path, path_of, slot_path}
use Rattle.rules.specs.Guards.{field_guard}
use Rattle.rules.specs.Mentions.{paths_of}
use Rattle.rules.specs.Effect.{Assignment, access_effect, access_of, call_of, sync_effect, after_stmt, expr_effect, exprs_effect, effect, block_effect}
use Rattle.state.specs.declared.value.Address.{Address}
use Rattle.state.specs.declared.value.Value.{Value}
use Rattle.state.specs.Work as W
use Rattle.state.specs.Work.{Action, Item, Ex, St, Act, Next, exprs_items, stmts_items, gets, open_expr, open_new, open_stmt, open_block, opened, first_release, open_return, settled, settled_some, unfolded}
use Rattle.semantics.specs.Step.{has_result}
use Rattle.reduction.specs.Phases.{Phase, PassesPart, IsDownClosed, freed}
use Rattle.reduction.specs.Leads.{Env, Memory, Sound, Paths, MayLeadTo, with_slot, top_path, under_path, taken_paths}
use Rattle.reduction.specs.Fits.{SlotsAgree, Fresh, FreshEach, TidyE, TidyEach, TidyS, TidyBlock, argument_count, arity_of, final_field_count, stores, stores_each, has_release, return_phase, pushed, awaited, FitsPhase, FitsNext, Opens}
use Rattle.reduction.proofs.PhaseLemmas.{passes_map, passes_seq, const_stays, const_passes, mover_stays}
use Rattle.reduction.proofs.LeadLemmas.{sound_more}
use Rattle.reduction.proofs.FitLemmas.{fits_left, same_slot, other_slot}
use Rattle.reduction.proofs.SetLemmas.{after_sound, after_fresh}
use Rattle.reduction.proofs.PushedPaths.{exprs_release, stmts_release, or_first, pushed_each, taken_all, dropped_all, on_pushed, call_pushed}

-- a final field of class type is read at any set
final_read : (P : Program) (f : ℕ) (o : Option PathData) (H : Held) (field : Option core.Field) → slice_get P.fields f ≡ field → leads_on field ≡ true → access_of P false f o H ≡ Const
final_read P f o H None is on = absurd cc
final_read P f o H (Some x) is on = ap (λ z. access_effect false (field_guard z o) H) is ∙ ap (λ b. access_effect false (if b then Rattle.rules.specs.declared.guard.Guard.TheVariants.Final else Rattle.rules.specs.Guards.mutable_guard x.writes_only x.guard o) H) (both_first x.is_final _ on)
  where
    both_first : (a b : Bool) → (a && b) ≡ true → a ≡ true
    both_first true b e = refl
    both_first false b e = absurd cc

module _ (P : Program) (rel : ℕ → List PathData) (A : Assignment) (h : Memory) (outer : Address → Bool) (K : Phase → Type 0) (falls : IsDownClosed K) where
  -- the held locks where this is left to do
  abbrev held_at : List Item → Address → Bool
  held_at more a = has_release a more || outer a

  exprs_fit : (es : Exprs) (work : List Item) (env : Env) (H : Held) (os : Paths) (p : Phase) → Sound P h env H (held_at work) → TidyEach P es
      → PassesPart p (exprs_effect P rel A es H) (λ q. FitsPhase P rel A h outer K work env q (pushed_each P es os)) → FitsPhase P rel A h outer K (exprs_items es work) env p os
  exprs_fit no_exprs work env H os p s tidy r = const_stays _ p r
  exprs_fit (and_expr e es) work env H os p s tidy r = record {
    set = H;
    sound = sound_more P h env H (held_at work) (held_at (exprs_items es work)) (λ a is. or_first (has_release a work) _ (outer a) (sym (exprs_release a es work)) is) s;
    rest = (
      tidy.1,
      passes_map _ _ p (expr_effect P rel A e H)
          (λ q g. on_pushed P (λ z. FitsPhase P rel A h outer K (exprs_items es work) env q z) e os tidy.0 (exprs_fit es work env H (path_of P e ∷ os) q s tidy.2 g))
          (passes_seq _ p (expr_effect P rel A e H) (exprs_effect P rel A es H) r),
    );
  }

  new_fits : (c : ℕ) (args : Exprs) (more : List Item) (env : Env) (H : Held) (os : Paths) (p : Phase) → final_field_count (slice_get P.classes c) ≡ argument_count args
      → FitsPhase P rel A h outer K more env p (None ∷ os) → FitsPhase P rel A h outer K (Act (W.New c) ∷ more) env p (pushed_each P args os)
  new_fits c args more env H os p count f = subst (λ z. FitsPhase P rel A h outer K more env p (None ∷ z)) (sym (dropped_all P args (final_field_count (slice_get P.classes c)) os count)) f

  call_fits : (e : Expr) (m : ℕ) (args : Exprs) (more : List Item) (env : Env) (H : Held) (os : Paths) (p : Phase) → Sound P h env H (held_at more) → arity_of (slice_get P.methods m) ≡ argument_count args
      → PassesPart p (call_of P rel A m (path_of P e) (paths_of P args) H) (λ q. FitsPhase P rel A h outer K more env q (pushed P (CallE e m args) os))
      → FitsPhase P rel A h outer K (Act (W.Call m) ∷ more) env p (pushed_each P args (path_of P e ∷ os))
  call_fits e m args more env H os p s count r =
      let n = arity_of (slice_get P.methods m) in
      let below = dropped_all P args n (path_of P e ∷ os) count in
      let taken = taken_all P args n (path_of P e ∷ os) count in
      record {
        set = H;
        sound = s;
        rest = subst (λ z. PassesPart p (call_of P rel A m (top_path z) (taken_paths n [] (pushed_each P args (path_of P e ∷ os))) H) (λ q. FitsPhase P rel A h outer K more env q (awaited P m ++ under_path z))) (sym below)
            (subst (λ z. PassesPart p (call_of P rel A m (path_of P e) z H) (λ q. FitsPhase P rel A h outer K more env q (awaited P m ++ os))) (sym taken)
            (passes_map _ _ p (call_of P rel A m (path_of P e) (paths_of P args) H) (λ q g. subst (λ z. FitsPhase P rel A h outer K more env q z) (call_pushed P (has_result (slice_get P.methods m)) os) g) r));
      }

  mutual
    pub expr_opens : (e : Expr) (more : List Item) (env : Env) (H : Held) (os : Paths) (p : Phase) → Sound P h env H (held_at more) → TidyE P e
        → PassesPart p (expr_effect P rel A e H) (λ q. FitsPhase P rel A h outer K more env q (pushed P e os)) → FitsNext P rel A h outer K (open_expr e more) env p os
    expr_opens (IntE n) more env H os p s tidy r = const_stays _ p r
    expr_opens (TruthE b) more env H os p s tidy r = const_stays _ p r
    expr_opens NullE more env H os p s tidy r = const_stays _ p r
    expr_opens ThisE more env H os p s tidy r = (Some (slot_path 0), refl, const_stays _ p r)
    expr_opens (VarE x true (type.Class c)) more env H os p s tidy r = (Some (slot_path x), refl, const_stays _ p r)
    expr_opens (VarE x true type.Int) more env H os p s tidy r = (None, tt, const_stays _ p r)
    expr_opens (VarE x true type.Boolean) more env H os p s tidy r = (None, tt, const_stays _ p r)
    expr_opens (VarE x false ty) more env H os p s tidy r = (None, tt, mover_stays _ p r)
    expr_opens (NotE e) more env H os p s tidy r = expr_opens e (Act (W.Unary Rattle.core_program.specs.declared.types.UnaryOp.TheVariants.Not) ∷ more) env H os p s tidy.1
        (passes_map _ _ p (expr_effect P rel A e H) (λ q g. on_pushed P (λ z. FitsPhase P rel A h outer K more env q (None ∷ under_path z)) e os tidy.0 g) r)
    expr_opens (NegE e) more env H os p s tidy r = expr_opens e (Act (W.Unary Rattle.core_program.specs.declared.types.UnaryOp.TheVariants.Neg) ∷ more) env H os p s tidy.1
        (passes_map _ _ p (expr_effect P rel A e H) (λ q g. on_pushed P (λ z. FitsPhase P rel A h outer K more env q (None ∷ under_path z)) e os tidy.0 g) r)
    expr_opens (BinaryE op a b) more env H os p s tidy r = expr_opens a (Ex b ∷ Act (W.Binary op) ∷ more) env H os p s tidy.1
        (passes_map _ _ p (expr_effect P rel A a H)
        (λ q g. record {
          set = H;
          sound = s;
          rest = (
            tidy.3,
            passes_map _ _ q (expr_effect P rel A b H)
                (λ x k. on_pushed P (λ z. FitsPhase P rel A h outer K more env x (None ∷ under_path (under_path z))) b (pushed P a os) tidy.2
                (on_pushed P (λ z. FitsPhase P rel A h outer K more env x (None ∷ under_path z)) a os tidy.0 k)) g,
          );
        })
        (passes_seq _ p (expr_effect P rel A a H) (expr_effect P rel A b H) r))
    expr_opens (AndE a b) more env H os p s tidy r = expr_opens a (Act (W.AndThen b) ∷ more) env H os p s tidy.1
        (passes_map _ _ p (expr_effect P rel A a H)
        (λ q g. record { set = H; sound = s; rest = (tidy.2, tidy.3, tidy.4, passes_map _ _ q (expr_effect P rel A b H) (λ x k. on_pushed P (λ z. FitsPhase P rel A h outer K more env x (None ∷ under_path z)) a os tidy.0 k) g) })
        (passes_seq _ p (expr_effect P rel A a H) (expr_effect P rel A b H) r))
    expr_opens (OrE a b) more env H os p s tidy r = expr_opens a (Act (W.OrElse b) ∷ more) env H os p s tidy.1
        (passes_map _ _ p (expr_effect P rel A a H)
        (λ q g. record { set = H; sound = s; rest = (tidy.2, tidy.3, tidy.4, passes_map _ _ q (expr_effect P rel A b H) (λ x k. on_pushed P (λ z. FitsPhase P rel A h outer K more env x (None ∷ under_path z)) a os tidy.0 k) g) })
        (passes_seq _ p (expr_effect P rel A a H) (expr_effect P rel A b H) r))
    expr_opens (GetE e f) more env H os p s tidy r = expr_opens e (Act (W.Get f) ∷ more) env H os p s tidy.1
        (passes_map _ _ p (expr_effect P rel A e H)
        (λ q g. on_pushed P (λ z. FitsPhase P rel A h outer K (Act (W.Get f) ∷ more) env q z) e os tidy.0 (record { set = H; sound = s; rest = g }))
        (passes_seq _ p (expr_effect P rel A e H) (access_of P false f (path_of P e) H) r))
    expr_opens (CallE e m args) more env H os p s tidy r = expr_opens e (exprs_items args (Act (W.Call m) ∷ more)) env H os p
        (sound_more P h env H (held_at more) (held_at (exprs_items args (Act (W.Call m) ∷ more))) (λ a is. or_first (has_release a more) _ (outer a) (sym (exprs_release a args (Act (W.Call m) ∷ more))) is) s) tidy.1
        (passes_map _ _ p (expr_effect P rel A e H)
        (λ q g. on_pushed P (λ z. FitsPhase P rel A h outer K (exprs_items args (Act (W.Call m) ∷ more)) env q z) e os tidy.0
        (exprs_fit args (Act (W.Call m) ∷ more) env H (path_of P e ∷ os) q s tidy.2
        (passes_map _ _ q (exprs_effect P rel A args H) (λ x k. call_fits e m args more env H os x s tidy.3 k)
        (passes_seq _ q (exprs_effect P rel A args H) (call_of P rel A m (path_of P e) (paths_of P args) H) g))))
        (passes_seq _ p (expr_effect P rel A e H) (seq_of (exprs_effect P rel A args H) (call_of P rel A m (path_of P e) (paths_of P args) H)) r))
    expr_opens (NewE c args) more env H os p s tidy r = new_opens c args more env H os p s tidy.0 tidy.1 (passes_seq _ p (exprs_effect P rel A args H) Mover r)

    new_opens : (c : ℕ) (args : Exprs) (more : List Item) (env : Env) (H : Held) (os : Paths) (p : Phase) → Sound P h env H (held_at more) → TidyEach P args → final_field_count (slice_get P.classes c) ≡ argument_count args
        → PassesPart p (exprs_effect P rel A args H) (λ x. PassesPart x Mover (λ q. FitsPhase P rel A h outer K more env q (None ∷ os))) → FitsNext P rel A h outer K (open_new c args more) env p os
    new_opens c no_exprs more env H os p s tidy count r = new_fits c no_exprs more env H os p count (mover_stays _ p (const_stays _ p r))
    new_opens c (and_expr e es) more env H os p s tidy count r = expr_opens e (exprs_items es (Act (W.New c) ∷ more)) env H os p
        (sound_more P h env H (held_at more) (held_at (exprs_items es (Act (W.New c) ∷ more))) (λ a is. or_first (has_release a more) _ (outer a) (sym (exprs_release a es (Act (W.New c) ∷ more))) is) s) tidy.1
        (passes_map _ _ p (expr_effect P rel A e H)
        (λ q g. on_pushed P (λ z. FitsPhase P rel A h outer K (exprs_items es (Act (W.New c) ∷ more)) env q z) e os tidy.0
        (exprs_fit es (Act (W.New c) ∷ more) env H (path_of P e ∷ os) q s tidy.2
        (passes_map _ _ q (exprs_effect P rel A es H) (λ x k. new_fits c (and_expr e es) more env H os x count (mover_stays _ x k)) g)))
        (passes_seq _ p (expr_effect P rel A e H) (exprs_effect P rel A es H) r))

  -- the kept slots
  abbrev Kept : (ℕ → Bool) → Env → Env → Type 0
  Kept test env later = (y : ℕ) → test y ≡ false → later y ≡ env y

  -- the statements of a block, each at the set that those before it leave
  block_fits : (ss : Stmts) (more : List Item) (env : Env) (H : Held) (p : Phase) → Sound P h env H (held_at more) → FreshEach H ss → TidyBlock P ss
      → PassesPart p (block_effect P rel A ss H) (λ q. (later : Env) → Kept (stores_each ss) env later → FitsPhase P rel A h outer K more later q []) → FitsPhase P rel A h outer K (stmts_items ss more) env p []
  block_fits no_stmts more env H p s fresh tidy r = const_stays _ p r env (λ y other. refl)
  block_fits (and_stmt st ss) more env H p s fresh tidy r = record {
    set = H;
    sound = sound_more P h env H (held_at more) (held_at (stmts_items ss more)) (λ a is. or_first (has_release a more) _ (outer a) (sym (stmts_release a ss more)) is) s;
    rest = (
      record { at = λ q has. (or_parts (stores st q.root) (stores_each ss q.root) (fresh.at q has)).0 },
      tidy.0,
      passes_map _ _ p (effect P rel A st H)
          (λ q g later agrees.
          let first : Fresh H st = record { at = λ x has. (or_parts (stores st x.root) (stores_each ss x.root) (fresh.at x has)).0 } in
          block_fits ss more later (after_stmt P st H) q (after_sound P h env later (held_at more) st H agrees first s) (after_fresh P st ss H tidy.1 fresh) tidy.2
          (passes_map _ _ q (block_effect P rel A ss (after_stmt P st H))
          (λ x k last kept. k last (λ y other. kept y ((or_parts (stores st y) (stores_each ss y) other).1) ∙ agrees.kept y ((or_parts (stores st y) (stores_each ss y) other).0))) g))
          (passes_seq _ p (effect P rel A st H) (block_effect P rel A ss (after_stmt P st H)) r),
    );
  }

  extended_short : (p : PathData) (f : ℕ) → length (p.fields ++ f ∷ []) ≤ most_fields → extended p (f ∷ []) ≡ Some (record { root = p.root; fields = p.fields ++ f ∷ [] })
  extended_short p f short = ap (λ b. if b then Some (record { root = p.root; fields = p.fields ++ f ∷ [] }) else None) (is_short (length (p.fields ++ f ∷ [])) short)
    where
      is_short : (n : ℕ) → n ≤ most_fields → nat_le n most_fields ≡ true
      is_short n short = grind (arith, nat_tests)

  path_read : (f : ℕ) (q : PathData) → leads_on (slice_get P.fields f) ≡ true → length (q.fields ++ f ∷ []) ≤ most_fields → get_path P f (Some q) ≡ Some (record { root = q.root; fields = q.fields ++ f ∷ [] })
  path_read f q on short = ap (λ b. if b then extended q (f ∷ []) else None) on ∙ extended_short q f short

  both_tests : (a b : Bool) → (a && b) ≡ true → (a ≡ true) × (b ≡ true)
  both_tests true b e = (refl, e)
  both_tests false b e = absurd cc

  front_short : (xs : List ℕ) (f : ℕ) (fs : List ℕ) (n : ℕ) → length (xs ++ f ∷ fs) ≤ n → length (xs ++ f ∷ []) ≤ n
  front_short [] f fs n short = omega (arith, short)
  front_short (x ∷ xs) f fs zero short = absurd (omega (arith, short))
  front_short (x ∷ xs) f fs (suc n) short = let more : length (xs ++ f ∷ []) ≤ n = front_short xs f fs n (omega (arith, short)) in omega (arith, more)

  -- the reads of a lock's path, and then the acquire
  gets_fit : (fs : List ℕ) (q whole : PathData) (st : Stmt) (more : List Item) (env : Env) (H : Held) (p : Phase) → Sound P h env H (held_at more)
      → list_all (λ f. leads_on (slice_get P.fields f)) fs ≡ true → length (q.fields ++ fs) ≤ most_fields → record { root = q.root; fields = q.fields ++ fs } ≡ whole
      → FitsPhase P rel A h outer K (Act (W.Acquire st) ∷ more) env p (Some whole ∷ []) → FitsPhase P rel A h outer K (gets fs (Act (W.Acquire st) ∷ more)) env p (Some q ∷ [])
  gets_fit [] q whole st more env H p s on short is f = subst (λ z. FitsPhase P rel A h outer K (Act (W.Acquire st) ∷ more) env p (Some z ∷ [])) (sym is ∙ nothing_more q) f
    where
      nothing_more : (q : PathData) → record { root = q.root; fields = q.fields ++ [] } ≡ q
      nothing_more q = ap (λ fs. record { root = q.root; fields = fs }) (append-nil q.fields)
  gets_fit (g ∷ fs) q whole st more env H p s on short is f =
      let tests = both_tests (leads_on (slice_get P.fields g)) _ on in
      let next : PathData = record { root = q.root; fields = q.fields ++ g ∷ [] } in
      let same : (q.fields ++ g ∷ []) ++ fs ≡ q.fields ++ g ∷ fs = append_assoc q.fields (g ∷ []) fs in
      record {
        set = H;
        sound = sound_more P h env H (held_at more) (held_at (gets fs (Act (W.Acquire st) ∷ more))) (λ a held. or_first (has_release a more) _ (outer a) (sym (gets_release a fs)) held) s;
        rest = subst (λ b. PassesPart p b (λ x. FitsPhase P rel A h outer K (gets fs (Act (W.Acquire st) ∷ more)) env x (get_path P g (Some q) ∷ [])))
            (sym (final_read P g (Some q) H (slice_get P.fields g) refl tests.0))
            (const_passes _ p (subst (λ z. FitsPhase P rel A h outer K (gets fs (Act (W.Acquire st) ∷ more)) env p (z ∷ []))
            (sym (path_read g q tests.0 (front_short q.fields g fs most_fields short)))
            (gets_fit fs next whole st more env H p s tests.1 (subst (λ z. length z ≤ most_fields) (sym same) short) (ap (λ z. record { root = q.root; fields = z }) same ∙ is) f)));
      }
    where
      gets_release : (a : Address) (fs : List ℕ) → has_release a (gets fs (Act (W.Acquire st) ∷ more)) ≡ has_release a more
      gets_release a [] = refl
      gets_release a (f ∷ fs) = gets_release a fs

  -- what stands after a statement fits, for all slots that the statement may leave
  abbrev After : Stmt → List Item → Env → Phase → Type 0
  After st more env q = (later : Env) → SlotsAgree P h st env later → FitsPhase P rel A h outer K more later q []

  mutual
    stmt_opens : (st : Stmt) (more : List Item) (next : Option Next) (env : Env) (H : Held) (p : Phase) → ((later : Env) (q : Phase) → FitsPhase P rel A h outer K more later q [] → Opens P rel A h outer K next later q [])
        → Sound P h env H (held_at more) → Fresh H st → TidyS P st → PassesPart p (effect P rel A st H) (λ q. (later : Env) → SlotsAgree P h st env later → FitsPhase P rel A h outer K more later q []) → Opens P rel A h outer K (open_stmt st more next) env p []
    stmt_opens EmptyS more next env H p opens s fresh tidy r = opens env p (const_stays (After EmptyS more env) p r env (record { kept = λ y other. refl; local = tt }))
    stmt_opens (BlockS ss) more next env H p opens s fresh tidy r = items_open ss more next env p opens
        (block_fits ss more env H p s (record { at = λ q has. fresh.at q has }) tidy (passes_map (After (BlockS ss) more env) _ p (block_effect P rel A ss H) (λ q g later kept. g later (record { kept = kept; local = tt })) r))
    stmt_opens (LocalS x true ty e) more next env H p opens s fresh tidy r = expr_opens e (Act (W.Store x) ∷ more) env H [] p s tidy.1
        (passes_map (λ q. PassesPart q Mover (After (LocalS x true ty e) more env)) _ p (expr_effect P rel A e H)
        (λ q g. on_pushed P (λ z. (v : Value) → MayLeadTo P h env (top_path z) v → FitsPhase P rel A h outer K more (with_slot env x v) q []) e [] tidy.0
        (λ v may. mover_stays (After (LocalS x true ty e) more env) q g (with_slot env x v) (record { kept = λ y other. other_slot env x v y other; local = subst (MayLeadTo P h env (path_of P e)) (sym (same_slot env x v)) may })))
        (passes_seq _ p (expr_effect P rel A e H) Mover r))
    stmt_opens (LocalS x false ty e) more next env H p opens s fresh tidy r = expr_opens e (Act (W.Store x) ∷ more) env H [] p s tidy.1
        (passes_map (λ q. PassesPart q Mover (After (LocalS x false ty e) more env)) _ p (expr_effect P rel A e H) (λ q g v may. mover_stays (After (LocalS x false ty e) more env) q g (with_slot env x v) (record { kept = λ y other. other_slot env x v y other; local = tt })) (passes_seq _ p (expr_effect P rel A e H) Mover r))
    stmt_opens (SetVarS x e) more next env H p opens s fresh tidy r = expr_opens e (Act (W.Store x) ∷ more) env H [] p s tidy.1
        (passes_map (λ q. PassesPart q Mover (After (SetVarS x e) more env)) _ p (expr_effect P rel A e H) (λ q g v may. mover_stays (After (SetVarS x e) more env) q g (with_slot env x v) (record { kept = λ y other. other_slot env x v y other; local = tt })) (passes_seq _ p (expr_effect P rel A e H) Mover r))
    stmt_opens (SetFieldS e f g) more next env H p opens s fresh tidy r = expr_opens e (Ex g ∷ Act (W.Put f) ∷ more) env H [] p s tidy.1
        (passes_map (λ q. PassesPart q (seq_of (expr_effect P rel A g H) (access_of P true f (path_of P e) H)) (After (SetFieldS e f g) more env)) _ p (expr_effect P rel A e H)
        (λ q k. record {
          set = H;
          sound = s;
          rest = (
            tidy.3,
            passes_map (λ q. PassesPart q (access_of P true f (path_of P e) H) (After (SetFieldS e f g) more env)) _ q (expr_effect P rel A g H)
                (λ x k2. on_pushed P (λ z. FitsPhase P rel A h outer K (Act (W.Put f) ∷ more) env x z) g (pushed P e []) tidy.2
                (on_pushed P (λ z. FitsPhase P rel A h outer K (Act (W.Put f) ∷ more) env x (path_of P g ∷ z)) e [] tidy.0
                (record { set = H; sound = s; rest = passes_map (After (SetFieldS e f g) more env) _ x (access_of P true f (path_of P e) H) (λ y k3. k3 env (record { kept = λ z other. refl; local = tt })) k2 })))
                (passes_seq _ q (expr_effect P rel A g H) (access_of P true f (path_of P e) H) k),
          );
        })
        (passes_seq _ p (expr_effect P rel A e H) (seq_of (expr_effect P rel A g H) (access_of P true f (path_of P e) H)) r))
    stmt_opens (DoS e true) more next env H p opens s fresh tidy r = expr_opens e (Act W.Drop ∷ more) env H [] p s tidy.1
        (passes_map (After (DoS e true) more env) _ p (expr_effect P rel A e H) (λ q g. on_pushed P (λ z. FitsPhase P rel A h outer K more env q (under_path z)) e [] (sym tidy.0) (g env (record { kept = λ y other. refl; local = tt }))) r)
    stmt_opens (DoS e false) more next env H p opens s fresh tidy r = expr_opens e more env H [] p s tidy.1
        (passes_map (After (DoS e false) more env) _ p (expr_effect P rel A e H) (λ q g. subst (λ b. FitsPhase P rel A h outer K more env q (if b then path_of P e ∷ [] else [])) tidy.0 (g env (record { kept = λ y other. refl; local = tt }))) r)
    stmt_opens (IfS c t u) more next env H p opens s fresh tidy r = expr_opens c (Act (W.Choose t u) ∷ more) env H [] p s tidy.1
        (passes_map (λ q. PassesPart q (join_of (effect P rel A t H) (effect P rel A u H)) (After (IfS c t u) more env)) _ p (expr_effect P rel A c H)
        (λ q g. record {
          set = H;
          sound = s;
          rest = (
            record { at = λ x has. (or_parts (stores t x.root) (stores u x.root) (fresh.at x has)).0 },
            record { at = λ x has. (or_parts (stores t x.root) (stores u x.root) (fresh.at x has)).1 },
            tidy.2,
            tidy.3,
            passes_map (After (IfS c t u) more env) _ q (join_of (effect P rel A t H) (effect P rel A u H)) (λ x k later kept. k later (record { kept = kept; local = tt })) g,
          );
        })
        (passes_seq _ p (expr_effect P rel A c H) (join_of (effect P rel A t H) (effect P rel A u H)) r))
    stmt_opens (WhileS c t) more next env H p opens s fresh tidy r = expr_opens c (Act (W.Loop c t) ∷ more) env H [] p s tidy.1
        (passes_map (λ q. PassesPart q (star_of (seq_of (effect P rel A t H) (expr_effect P rel A c H))) (After (WhileS c t) more env)) _ p (expr_effect P rel A c H)
        (λ q g. record {
          set = H;
          sound = s;
          rest = (
            record { at = λ x has. fresh.at x has },
            tidy.0,
            tidy.1,
            tidy.2,
            passes_map (After (WhileS c t) more env) _ q (star_of (seq_of (effect P rel A t H) (expr_effect P rel A c H))) (λ x k later kept. k later (record { kept = kept; local = tt })) g,
          );
        })
        (passes_seq _ p (expr_effect P rel A c H) (star_of (seq_of (effect P rel A t H) (expr_effect P rel A c H))) r))
    stmt_opens (SyncS path t) more next env H p opens s fresh tidy r = (
      Some (slot_path path.root),
      refl,
      gets_fit path.fields (slot_path path.root) path t more env H p s tidy.0 tidy.1 refl
          (record {
            set = H;
            sound = s;
            rest = (
              path,
              refl,
              record { at = λ x has. fresh.at x has },
              tidy.2,
              tidy.3,
              passes_map (After (SyncS path t) more env) _ p (sync_effect (H path) (effect P rel A t H) (effect P rel A t (with_path path H))) (λ x k later kept. k later (record { kept = kept; local = tt })) r,
            );
          }),
    )
    stmt_opens (ReturnS None) more next env H p opens s fresh tidy r = fits_left P rel A h outer K falls more env p [] (const_stays (After (ReturnS None) more env) p r env (record { kept = λ y other. refl; local = tt }))
    stmt_opens (ReturnS (Some e)) more next env H p opens s fresh tidy r = expr_opens e (Act W.Ret ∷ more) env H [] p s tidy.1
        (passes_map (After (ReturnS (Some e)) more env) _ p (expr_effect P rel A e H) (λ q g. fits_left P rel A h outer K falls more env q [] (g env (record { kept = λ y other. refl; local = tt }))) r)
    stmt_opens (PrintS e) more next env H p opens s fresh tidy r = expr_opens e (Act W.Print ∷ more) env H [] p s tidy.1
        (passes_map (λ q. PassesPart q Atomic (After (PrintS e) more env)) _ p (expr_effect P rel A e H)
        (λ q g. passes_map (After (PrintS e) more env) _ q Atomic (λ x k. on_pushed P (λ z. FitsPhase P rel A h outer K more env x (under_path z)) e [] tidy.0 (k env (record { kept = λ y other. refl; local = tt }))) g)
        (passes_seq _ p (expr_effect P rel A e H) Atomic r))
    stmt_opens (StartS e) more next env H p opens s fresh tidy r = expr_opens e (Act W.Start ∷ more) env H [] p s tidy.1
        (passes_map (λ q. PassesPart q Atomic (After (StartS e) more env)) _ p (expr_effect P rel A e H)
        (λ q g. passes_map (After (StartS e) more env) _ q Atomic (λ x k. on_pushed P (λ z. FitsPhase P rel A h outer K more env x (under_path z)) e [] tidy.0 (k env (record { kept = λ y other. refl; local = tt }))) g)
        (passes_seq _ p (expr_effect P rel A e H) Atomic r))

    items_open : (ss : Stmts) (more : List Item) (next : Option Next) (env : Env) (p : Phase) → ((later : Env) (q : Phase) → FitsPhase P rel A h outer K more later q [] → Opens P rel A h outer K next later q [])
        → FitsPhase P rel A h outer K (stmts_items ss more) env p [] → Opens P rel A h outer K (open_block ss more next) env p []
    items_open no_stmts more next env p opens f = opens env p f
    items_open (and_stmt st ss) more next env p opens f =
        stmt_opens st (stmts_items ss more) (open_block ss more next) env f.set p (λ later q g. items_open ss more next later q opens g) f.sound f.rest.0 f.rest.1 f.rest.2

  either_same : (T : Type 0) → T ⊎ T → T
  either_same T (inl x) = x
  either_same T (inr x) = x

  -- what a list opens into fits with the same paths of operands, or with none known
  pub fits_opens : (work : List Item) (env : Env) (p : Phase) (os : Paths) → FitsPhase P rel A h outer K work env p os → Opens P rel A h outer K (opened work) env p os ⊎ Opens P rel A h outer K (opened work) env p []
  fits_opens [] env p os f = inl tt
  fits_opens (Ex e ∷ more) env p os f = inl (expr_opens e more env f.set os p f.sound f.rest.0 f.rest.1)
  fits_opens (St st ∷ more) env p os f = inr (stmt_opens st more (opened more) env f.set p (λ later q g. either_same _ (fits_opens more later q [] g)) f.sound f.rest.0 f.rest.1 f.rest.2)
  fits_opens (Act a ∷ more) env p os f = inl f

  -- a return that gives back its locks first

  abbrev after_first : Option (Address × List Item) → Phase → Phase
  after_first None p = p
  after_first (Some later) p = return_phase outer later.1 (freed (has_release later.0 later.1 || outer later.0) p)

  first_returns : (more : List Item) (p : Phase) → return_phase outer more p ≡ after_first (first_release more) p
  first_returns [] p = refl
  first_returns (Ex e ∷ more) p = first_returns more p
  first_returns (St st ∷ more) p = first_returns more p
  first_returns (Act (W.Push v) ∷ more) p = first_returns more p
  first_returns (Act (W.Load x) ∷ more) p = first_returns more p
  first_returns (Act (W.Store x) ∷ more) p = first_returns more p
  first_returns (Act W.Drop ∷ more) p = first_returns more p
  first_returns (Act (W.Unary op) ∷ more) p = first_returns more p
  first_returns (Act (W.Binary op) ∷ more) p = first_returns more p
  first_returns (Act (W.AndThen e) ∷ more) p = first_returns more p
  first_returns (Act (W.OrElse e) ∷ more) p = first_returns more p
  first_returns (Act (W.Choose t u) ∷ more) p = first_returns more p
  first_returns (Act (W.Loop c t) ∷ more) p = first_returns more p
  first_returns (Act (W.Get f) ∷ more) p = first_returns more p
  first_returns (Act (W.Put f) ∷ more) p = first_returns more p
  first_returns (Act (W.New c) ∷ more) p = first_returns more p
  first_returns (Act (W.Call m) ∷ more) p = first_returns more p
  first_returns (Act (W.Acquire t) ∷ more) p = first_returns more p
  first_returns (Act (W.Release a) ∷ more) p = refl
  first_returns (Act W.Ret ∷ more) p = first_returns more p
  first_returns (Act W.Print ∷ more) p = first_returns more p
  first_returns (Act W.Start ∷ more) p = first_returns more p

  return_settles : (more : List Item) (o : Option (Address × List Item)) → first_release more ≡ o → (env : Env) (p : Phase) (os : Paths) → K (return_phase outer more p) → FitsNext P rel A h outer K (open_return o more) env p os
  return_settles more None is env p os k = k
  return_settles more (Some later) is env p os k = subst K (first_returns more p ∙ first_is more later is p) k
    where
      first_is : (more : List Item) (later : Address × List Item) → first_release more ≡ Some later → (p : Phase) → after_first (first_release more) p ≡ return_phase outer later.1 (freed (has_release later.0 later.1 || outer later.0) p)
      first_is more later is p = ap (λ o. after_first o p) is

  settled_fits : (a : Action) (more : List Item) (env : Env) (p : Phase) (os : Paths) → FitsNext P rel A h outer K (a, more) env p os → FitsNext P rel A h outer K (settled (a, more)) env p os
  settled_fits (W.Push v) more env p os f = f
  settled_fits (W.Load x) more env p os f = f
  settled_fits (W.Store x) more env p os f = f
  settled_fits W.Drop more env p os f = f
  settled_fits (W.Unary op) more env p os f = f
  settled_fits (W.Binary op) more env p os f = f
  settled_fits (W.AndThen e) more env p os f = f
  settled_fits (W.OrElse e) more env p os f = f
  settled_fits (W.Choose t u) more env p os f = f
  settled_fits (W.Loop c t) more env p os f = f
  settled_fits (W.Get x) more env p os f = f
  settled_fits (W.Put x) more env p os f = f
  settled_fits (W.New c) more env p os f = f
  settled_fits (W.Call m) more env p os f = f
  settled_fits (W.Acquire t) more env p os f = f
  settled_fits (W.Release a) more env p os f = f
  settled_fits W.Ret more env p os f = return_settles more (first_release more) refl env p os f
  settled_fits W.Print more env p os f = f
  settled_fits W.Start more env p os f = f

  settled_opens : (o : Option Next) (env : Env) (p : Phase) (os : Paths) → Opens P rel A h outer K o env p os → Opens P rel A h outer K (settled_some o) env p os
  settled_opens None env p os f = tt
  settled_opens (Some next) env p os f = settled_fits next.0 next.1 env p os f

  map_either : {A B C D : Type 0} → (A → C) → (B → D) → A ⊎ B → C ⊎ D
  map_either f g (inl x) = inl (f x)
  map_either f g (inr x) = inr (g x)

  -- what a list unfolds into fits
  pub fits_unfolds : (work : List Item) (env : Env) (p : Phase) (os : Paths) → FitsPhase P rel A h outer K work env p os → Opens P rel A h outer K (unfolded work) env p os ⊎ Opens P rel A h outer K (unfolded work) env p []
  fits_unfolds work env p os f = map_either (settled_opens (opened work) env p os) (settled_opens (opened work) env p []) (fits_opens work env p os f)
