-- A list that fits fits each smaller phase, and a memory that has grown; and what a return leaves of it fits too.
use Rattle.std.proofs.Common.{◌≡◌, ℕ, Bool, true, false, ◌||◌, ◌==◌, List, [], ◌∷◌, ◌++◌, Some, None, refl, sym, ap, subst}
use Rattle.std.specs.Prelude.{Option, slice_get, unwrap_or, if◌then◌else◌}
use Rattle.std.proofs.lemmas.Bool.{eq-eqb}
use Rattle.paths.specs.Paths.{PathData}
use Rattle.algebra.specs.declared.basic.Basic.TheVariants.{Atomic}
use Rattle.algebra.specs.Basics.{seq_of, join_of, star_of}
use Rattle.algebra.specs.HeldPaths.{Held, with_path}
use Rattle.core_program.specs.Core.{Program, Stmt, EmptyS, BlockS, LocalS, SetVarS, SetFieldS, DoS, IfS, WhileS, SyncS, ReturnS, PrintS, StartS}
use Rattle.core_program.specs.Locks.{get_path, path_of}
use Rattle.rules.specs.Effect.{Assignment, access_of, call_of, sync_effect, expr_effect, effect}
use Rattle.state.specs.declared.value.Address.{Address}
use Rattle.state.specs.declared.value.Value.{Value}
use Rattle.state.specs.declared.value.Value.TheVariants as value
use Rattle.state.specs.Work as W
use Rattle.state.specs.Work.{Action, Item, Ex, St, Act}
use Rattle.reduction.specs.Phases.{Phase, phase_le, IsDownClosed, FallsTo}
use Rattle.reduction.specs.Leads.{Env, Memory, Grows, lead, Paths, MayLeadTo, with_slot, top_path, under_path, taken_paths, dropped_paths}
use Rattle.reduction.specs.Fits.{At, SlotsAgree, LocalAgrees, stores, has_release, return_phase, pushed, awaited, arity_of, final_field_count, FitsAct, FitsItem, FitsPhase}
use Rattle.reduction.proofs.PhaseLemmas.{passes_moves, passes_rises, passes_map, freed_falls}
use Rattle.reduction.proofs.LeadLemmas.{leads_grows, may_shrink, sound_grows, grows_itself}

module _ (P : Program) (h k : Memory) (grows : Grows P h k) where
  pub at_grows : (outer : Address → Bool) (env : Env) (more : List Item) (C D : Held → Type 0) → ((H : Held) → C H → D H) → At P h outer env more C → At P k outer env more D
  at_grows outer env more C D f a = record { set = a.set; sound = sound_grows P h k grows env a.set (λ b. has_release b more || outer b) a.sound; rest = f a.set a.rest }

  local_shrinks : (s : Stmt) (env later : Env) → LocalAgrees P k s env later → LocalAgrees P h s env later
  local_shrinks EmptyS env later l = tt
  local_shrinks (BlockS ss) env later l = tt
  local_shrinks (LocalS x true ty e) env later l = may_shrink P h k grows env (path_of P e) (later x) l
  local_shrinks (LocalS x false ty e) env later l = tt
  local_shrinks (SetVarS x e) env later l = tt
  local_shrinks (SetFieldS e f g) env later l = tt
  local_shrinks (DoS e drops) env later l = tt
  local_shrinks (IfS c s t) env later l = tt
  local_shrinks (WhileS c s) env later l = tt
  local_shrinks (SyncS p s) env later l = tt
  local_shrinks (ReturnS e) env later l = tt
  local_shrinks (PrintS e) env later l = tt
  local_shrinks (StartS e) env later l = tt

  pub agrees_shrinks : (s : Stmt) (env later : Env) → SlotsAgree P k s env later → SlotsAgree P h s env later
  agrees_shrinks s env later a = record { kept = a.kept; local = local_shrinks s env later a.local }

-- a list that fits fits at a smaller phase, in a memory that has grown, and before frames of which the same holds
module _ (P : Program) (rel : ℕ → List PathData) (A : Assignment) (h k : Memory) (grows : Grows P h k) (outer : Address → Bool) (K L : Phase → Type 0) (falls : FallsTo K L) where
  -- what is asked of the rest of a list
  abbrev Rests : (G M : Env → Phase → Paths → Type 0) → Type 0
  Rests G M = (env : Env) (os : Paths) → FallsTo (λ p. G env p os) (λ p. M env p os)

  returns_move : (more : List Item) (p q : Phase) → phase_le p q ≡ true → phase_le (return_phase outer more p) (return_phase outer more q) ≡ true
  returns_move [] p q small = small
  returns_move (Ex e ∷ more) p q small = returns_move more p q small
  returns_move (St s ∷ more) p q small = returns_move more p q small
  returns_move (Act (W.Push v) ∷ more) p q small = returns_move more p q small
  returns_move (Act (W.Load x) ∷ more) p q small = returns_move more p q small
  returns_move (Act (W.Store x) ∷ more) p q small = returns_move more p q small
  returns_move (Act W.Drop ∷ more) p q small = returns_move more p q small
  returns_move (Act (W.Unary op) ∷ more) p q small = returns_move more p q small
  returns_move (Act (W.Binary op) ∷ more) p q small = returns_move more p q small
  returns_move (Act (W.AndThen e) ∷ more) p q small = returns_move more p q small
  returns_move (Act (W.OrElse e) ∷ more) p q small = returns_move more p q small
  returns_move (Act (W.Choose s t) ∷ more) p q small = returns_move more p q small
  returns_move (Act (W.Loop c s) ∷ more) p q small = returns_move more p q small
  returns_move (Act (W.Get f) ∷ more) p q small = returns_move more p q small
  returns_move (Act (W.Put f) ∷ more) p q small = returns_move more p q small
  returns_move (Act (W.New c) ∷ more) p q small = returns_move more p q small
  returns_move (Act (W.Call m) ∷ more) p q small = returns_move more p q small
  returns_move (Act (W.Acquire s) ∷ more) p q small = returns_move more p q small
  returns_move (Act (W.Release a) ∷ more) p q small = returns_move more _ _ (freed_falls (has_release a more || outer a) p q small)
  returns_move (Act W.Ret ∷ more) p q small = returns_move more p q small
  returns_move (Act W.Print ∷ more) p q small = returns_move more p q small
  returns_move (Act W.Start ∷ more) p q small = returns_move more p q small

  module _ (more : List Item) (G M : Env → Phase → Paths → Type 0) (rests : Rests G M) where
    -- after a part of this effect, for all slots that it may leave
    abbrev Later : (Env → Type 0) → (Env → Phase → Paths → Type 0) → Phase → Type 0
    Later C N next = (later : Env) → C later → N later next []

    later_moves : (C D : Env → Type 0) → ((later : Env) → D later → C later) → FallsTo (Later C G) (Later D M)
    later_moves C D f p q small g later d = rests later [] p q small (g later (f later d))

    act_moves : (a : Action) (env : Env) (os : Paths) → FallsTo (λ p. FitsAct P rel A h outer K a more G env p os) (λ p. FitsAct P rel A k outer L a more M env p os)
    act_moves (W.Push v) env os p q small f = rests env (None ∷ os) p q small f
    act_moves (W.Load x) env os p q small f = (f.0, leads_grows P h k grows env f.0 (env x) f.1, rests env (f.0 ∷ os) p q small f.2)
    act_moves (W.Store x) env os p q small f = λ v may. rests (with_slot env x v) [] p q small (f v (may_shrink P h k grows env (top_path os) v may))
    act_moves W.Drop env os p q small f = rests env (under_path os) p q small f
    act_moves (W.Unary op) env os p q small f = rests env (None ∷ under_path os) p q small f
    act_moves (W.Binary op) env os p q small f = rests env (None ∷ under_path (under_path os)) p q small f
    act_moves (W.AndThen e) env os p q small f = at_grows P h k grows outer env more _ _ (λ H c. (c.0, c.1, c.2, passes_moves _ _ p q (expr_effect P rel A e H) small (rests env (None ∷ under_path os)) c.3)) f
    act_moves (W.OrElse e) env os p q small f = at_grows P h k grows outer env more _ _ (λ H c. (c.0, c.1, c.2, passes_moves _ _ p q (expr_effect P rel A e H) small (rests env (None ∷ under_path os)) c.3)) f
    act_moves (W.Choose s t) env os p q small f = at_grows P h k grows outer env more _ _ (λ H c. (
      c.0,
      c.1,
      c.2,
      c.3,
      passes_moves _ _ p q (join_of (effect P rel A s H) (effect P rel A t H)) small
          (later_moves (λ later. (y : ℕ) → (stores s y || stores t y) ≡ false → later y ≡ env y) (λ later. (y : ℕ) → (stores s y || stores t y) ≡ false → later y ≡ env y) (λ later d. d)) c.4,
    )) f
    act_moves (W.Loop b s) env os p q small f = at_grows P h k grows outer env more _ _ (λ H c. (
      c.0,
      c.1,
      c.2,
      c.3,
      passes_moves _ _ p q (star_of (seq_of (effect P rel A s H) (expr_effect P rel A b H))) small
          (later_moves (λ later. (y : ℕ) → stores s y ≡ false → later y ≡ env y) (λ later. (y : ℕ) → stores s y ≡ false → later y ≡ env y) (λ later d. d)) c.4,
    )) f
    act_moves (W.Get x) env os p q small f = at_grows P h k grows outer env more _ _ (λ H c. passes_moves _ _ p q (access_of P false x (top_path os) H) small (rests env (get_path P x (top_path os) ∷ under_path os)) c) f
    act_moves (W.Put x) env os p q small f = at_grows P h k grows outer env more _ _ (λ H c. passes_moves _ _ p q (access_of P true x (top_path (under_path os)) H) small (rests env (under_path (under_path os))) c) f
    act_moves (W.New c) env os p q small f = rests env (None ∷ dropped_paths (final_field_count (slice_get P.classes c)) os) p q small f
    act_moves (W.Call m) env os p q small f = at_grows P h k grows outer env more _ _ (λ H c.
        passes_moves _ _ p q (call_of P rel A m (top_path (dropped_paths (arity_of (slice_get P.methods m)) os)) (taken_paths (arity_of (slice_get P.methods m)) [] os) H) small
        (rests env (awaited P m ++ under_path (dropped_paths (arity_of (slice_get P.methods m)) os))) c) f
    act_moves (W.Acquire s) env os p q small f = at_grows P h k grows outer env more _ _ (λ H c. (
      c.0,
      c.1,
      c.2,
      c.3,
      c.4,
      passes_moves _ _ p q (sync_effect (H c.0) (effect P rel A s H) (effect P rel A s (with_path c.0 H))) small
          (later_moves (λ later. (y : ℕ) → stores s y ≡ false → later y ≡ env y) (λ later. (y : ℕ) → stores s y ≡ false → later y ≡ env y) (λ later d. d)) c.5,
    )) f
    act_moves (W.Release a) env os p q small f = rests env [] _ _ (freed_falls (has_release a more || outer a) p q small) f
    act_moves W.Ret env os p q small f = falls _ _ (returns_move more p q small) f
    act_moves W.Print env os p q small f = passes_moves _ _ p q Atomic small (rests env (under_path os)) f
    act_moves W.Start env os p q small f = passes_moves _ _ p q Atomic small (rests env (under_path os)) f

    item_moves : (i : Item) (env : Env) (os : Paths) → FallsTo (λ p. FitsItem P rel A h outer K i more G env p os) (λ p. FitsItem P rel A k outer L i more M env p os)
    item_moves (Ex e) env os p q small f = at_grows P h k grows outer env more _ _ (λ H c. (c.0, passes_moves _ _ p q (expr_effect P rel A e H) small (rests env (pushed P e os)) c.1)) f
    item_moves (St s) env os p q small f = at_grows P h k grows outer env more _ _ (λ H c. (
      c.0,
      c.1,
      passes_moves _ _ p q (effect P rel A s H) small
          (later_moves (λ later. SlotsAgree P h s env later) (λ later. SlotsAgree P k s env later) (λ later d. agrees_shrinks P h k grows s env later d)) c.2,
    )) f
    item_moves (Act a) env os p q small f = act_moves a env os p q small f

  pub fits_moves : (work : List Item) (env : Env) (os : Paths) → FallsTo (λ p. FitsPhase P rel A h outer K work env p os) (λ p. FitsPhase P rel A k outer L work env p os)
  fits_moves [] env os p q small f = falls p q small f
  fits_moves (i ∷ more) env os p q small f = item_moves more (FitsPhase P rel A h outer K more) (FitsPhase P rel A k outer L more) (λ e r. fits_moves more e r) i env os p q small f

pub same_slot : (env : Env) (x : ℕ) (v : Value) → with_slot env x v x ≡ v
same_slot env x v = ap (λ b. if b then v else env x) (eq-eqb x x refl)

pub other_slot : (env : Env) (x : ℕ) (v : Value) (y : ℕ) → (x == y) ≡ false → with_slot env x v y ≡ env y
other_slot env x v y e = ap (λ b. if b then v else env y) e

module _ (P : Program) (rel : ℕ → List PathData) (A : Assignment) (h : Memory) (outer : Address → Bool) (K : Phase → Type 0) (falls : IsDownClosed K) where
  pub fits_falls : (work : List Item) (env : Env) (os : Paths) → IsDownClosed (λ p. FitsPhase P rel A h outer K work env p os)
  fits_falls work env os p q small f = fits_moves P rel A h h (grows_itself P h) outer K K falls work env os p q small f

  may_itself : (env : Env) (o : Option PathData) → (v : Value) × MayLeadTo P h env o v
  may_itself env None = (value.Null, tt)
  may_itself env (Some p) = (unwrap_or (lead P h env p) value.Null, λ w is. ap (λ o. unwrap_or o value.Null) is)

  -- some slots that a statement may leave
  some_later : (s : Stmt) (env : Env) → (later : Env) × SlotsAgree P h s env later
  some_later (LocalS x true ty e) env = let v = may_itself env (path_of P e) in
      (with_slot env x v.0, record { kept = λ y other. other_slot env x v.0 y other; local = subst (MayLeadTo P h env (path_of P e)) (sym (same_slot env x v.0)) v.1 })
  some_later (LocalS x false ty e) env = (env, record { kept = λ y other. refl; local = tt })
  some_later EmptyS env = (env, record { kept = λ y other. refl; local = tt })
  some_later (BlockS ss) env = (env, record { kept = λ y other. refl; local = tt })
  some_later (SetVarS x e) env = (env, record { kept = λ y other. refl; local = tt })
  some_later (SetFieldS e f g) env = (env, record { kept = λ y other. refl; local = tt })
  some_later (DoS e drops) env = (env, record { kept = λ y other. refl; local = tt })
  some_later (IfS c s t) env = (env, record { kept = λ y other. refl; local = tt })
  some_later (WhileS c s) env = (env, record { kept = λ y other. refl; local = tt })
  some_later (SyncS p s) env = (env, record { kept = λ y other. refl; local = tt })
  some_later (ReturnS e) env = (env, record { kept = λ y other. refl; local = tt })
  some_later (PrintS e) env = (env, record { kept = λ y other. refl; local = tt })
  some_later (StartS e) env = (env, record { kept = λ y other. refl; local = tt })

  -- what K has of the phase of a return falls with the phase
  left_falls : (more : List Item) → IsDownClosed (λ p. K (return_phase outer more p))
  left_falls more p q small = falls _ _ (returns_move P rel A h h (grows_itself P h) outer K K falls more p q small)

  -- a list that fits leaves something that fits to a return: what stood before is dropped, and the locks are given back
  pub fits_left : (work : List Item) (env : Env) (p : Phase) (os : Paths) → FitsPhase P rel A h outer K work env p os → K (return_phase outer work p)
  fits_left [] env p os f = f
  fits_left (Ex e ∷ more) env p os f = passes_rises _ p _ (left_falls more) (passes_map _ _ p _ (λ q g. fits_left more env q _ g) f.rest.1)
  fits_left (St s ∷ more) env p os f = let later = some_later s env in
      passes_rises _ p _ (left_falls more) (passes_map _ _ p _ (λ q g. fits_left more later.0 q [] (g later.0 later.1)) f.rest.2)
  fits_left (Act (W.Push v) ∷ more) env p os f = fits_left more env p _ f
  fits_left (Act (W.Load x) ∷ more) env p os f = fits_left more env p _ f.2
  fits_left (Act (W.Store x) ∷ more) env p os f = let v = may_itself env (top_path os) in fits_left more (with_slot env x v.0) p [] (f v.0 v.1)
  fits_left (Act W.Drop ∷ more) env p os f = fits_left more env p _ f
  fits_left (Act (W.Unary op) ∷ more) env p os f = fits_left more env p _ f
  fits_left (Act (W.Binary op) ∷ more) env p os f = fits_left more env p _ f
  fits_left (Act (W.AndThen e) ∷ more) env p os f = passes_rises _ p _ (left_falls more) (passes_map _ _ p _ (λ q g. fits_left more env q _ g) f.rest.3)
  fits_left (Act (W.OrElse e) ∷ more) env p os f = passes_rises _ p _ (left_falls more) (passes_map _ _ p _ (λ q g. fits_left more env q _ g) f.rest.3)
  fits_left (Act (W.Choose s t) ∷ more) env p os f = passes_rises _ p _ (left_falls more) (passes_map _ _ p _ (λ q g. fits_left more env q [] (g env (λ y other. refl))) f.rest.4)
  fits_left (Act (W.Loop c s) ∷ more) env p os f = passes_rises _ p _ (left_falls more) (passes_map _ _ p _ (λ q g. fits_left more env q [] (g env (λ y other. refl))) f.rest.4)
  fits_left (Act (W.Get x) ∷ more) env p os f = passes_rises _ p _ (left_falls more) (passes_map _ _ p _ (λ q g. fits_left more env q _ g) f.rest)
  fits_left (Act (W.Put x) ∷ more) env p os f = passes_rises _ p _ (left_falls more) (passes_map _ _ p _ (λ q g. fits_left more env q _ g) f.rest)
  fits_left (Act (W.New c) ∷ more) env p os f = fits_left more env p _ f
  fits_left (Act (W.Call m) ∷ more) env p os f = passes_rises _ p _ (left_falls more) (passes_map _ _ p _ (λ q g. fits_left more env q _ g) f.rest)
  fits_left (Act (W.Acquire s) ∷ more) env p os f = passes_rises _ p _ (left_falls more) (passes_map _ _ p _ (λ q g. fits_left more env q [] (g env (λ y other. refl))) f.rest.5)
  fits_left (Act (W.Release a) ∷ more) env p os f = fits_left more env _ [] f
  fits_left (Act W.Ret ∷ more) env p os f = f
  fits_left (Act W.Print ∷ more) env p os f = passes_rises _ p _ (left_falls more) (passes_map _ _ p _ (λ q g. fits_left more env q _ g) f)
  fits_left (Act W.Start ∷ more) env p os f = passes_rises _ p _ (left_falls more) (passes_map _ _ p _ (λ q g. fits_left more env q _ g) f)
