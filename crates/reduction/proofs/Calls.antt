-- A call, and the beginning of a thread: what a method holds at its entry.
use Rattle.std.proofs.Common.{◌≡◌, ℕ, zero, suc, ◌+◌, Bool, true, false, ◌||◌, ◌&&◌, List, [], ◌∷◌, ◌++◌, Some, None, refl, sym, ap, subst, ◌∙◌, arith}
use Rattle.std.specs.Prelude.{Option, slice_get, unwrap_or, nat_lt, length, replicate, ◌-◌, if◌then◌else◌}
use Rattle.std.specs.List.{list_all}
use Rattle.std.proofs.lemmas.Bool.{and_parts, and_from}
use Rattle.base.proofs.Lists.{at_left}
use Rattle.paths.specs.Paths.{PathData, path_eq, extended, extended_some}
use Rattle.paths.specs.Renamings.{argument_at, passed, under_call}
use Rattle.paths.proofs.PathOrder.{eq_is}
use Rattle.algebra.specs.declared.basic.Basic.{Basic}
use Rattle.algebra.specs.declared.basic.Basic.TheVariants.{Const, Mover, Atomic, Cmpd, Error}
use Rattle.algebra.specs.HeldPaths.{Held, has_path, holds_at}
use Rattle.core_program.specs.Core.{Program, Method}
use Rattle.core_program.specs.Dispatch.{target_of}
use Rattle.rules.specs.Effect.{Assignment, required_paths, held_under, call_of, effect}
use Rattle.rules.specs.Rules.{IsSubset, AtMost, held_in, declared_bound}
use Rattle.rules.proofs.BasicLemmas.{below_chain}
use Rattle.rules.proofs.SetLemmas.{all_has}
use Rattle.state.specs.declared.value.Address.{Address}
use Rattle.state.specs.declared.value.Value.{Value}
use Rattle.state.specs.declared.value.Value.TheVariants as value
use Rattle.state.specs.declared.value.Fault.TheVariants as fault
use Rattle.state.specs.Values.{top, under, popped, dropped, address_of}
use Rattle.state.specs.Work as W
use Rattle.state.specs.Work.{Item}
use Rattle.state.specs.States.{Frame, new_frame, new_slots}
use Rattle.semantics.specs.Run.{is_annotated}
use Rattle.semantics.specs.Step.{Shared, most_frames, has_result, object_class, target_at, call, call_on, dispatch, enter_some, enter, enter_first}
use Rattle.reduction.specs.Phases.{Phase, Free, Opened, Committed, PassesPart, phase_of, IsDownClosed}
use Rattle.reduction.specs.Leads.{Env, env_of, Memory, machine_memory, lead_from, lead, Sound, Paths, LeadsTo, top_path, under_path, taken_paths, dropped_paths}
use Rattle.reduction.specs.Fits.{has_release, count_release, arity_of, awaited, FitsAct, FitsPhase}
use Rattle.reduction.specs.Safe.{LeadEach, FramesFit, Owns, IsFree, frames_inside, outer_phase, releases_in_work, count_frames, held_count}
use Rattle.reduction.proofs.PhaseLemmas.{passes_falls, no_error, both_allowed}
use Rattle.reduction.proofs.LeadLemmas.{grows_itself, each_top, each_under, each_dropped, aligned_taken, aligned_at, leads_from}
use Rattle.reduction.proofs.SetLemmas.{extended_is, holds_some}
use Rattle.reduction.specs.Turn.{RunsFor, Accepted, Fine}
use Rattle.reduction.proofs.Actions.{fault_fine, list_falls, address_is}

held_here : (H : Held) (p q : PathData) (b later : Bool) → path_eq p q ≡ b → H p ≡ true → (later ≡ true → H q ≡ true) → (b || later) ≡ true → H q ≡ true
held_here H p q true later same here rest has = ap H (sym (eq_is p q same)) ∙ here
held_here H p q false later other here rest has = rest has

-- a body that is at most atomic passes in a new call
opens_atomic : (b : Basic) (X : Type 0) → AtMost b Atomic → X → PassesPart Opened b (λ q. X)
opens_atomic Const X below x = record { next = Opened; passes = refl; rest = x }
opens_atomic Mover X below x = record { next = Opened; passes = refl; rest = x }
opens_atomic Atomic X below x = record { next = Committed; passes = refl; rest = x }
opens_atomic Cmpd X below x = absurd (let e : false ≡ true = below in cc)
opens_atomic Error X below x = absurd (let e : false ≡ true = below in cc)

free_compound : (b : Basic) (X : Type 0) → AtMost b Cmpd → X → PassesPart Free b (λ q. X)
free_compound Const X below x = record { next = Free; passes = refl; rest = x }
free_compound Mover X below x = record { next = Free; passes = refl; rest = x }
free_compound Atomic X below x = record { next = Free; passes = refl; rest = x }
free_compound Cmpd X below x = record { next = Free; passes = refl; rest = x }
free_compound Error X below x = absurd (let e : false ≡ true = below in cc)

-- outside atomic calls the phase stays Free
free_rest : (G : Phase → Type 0) (b : Basic) → IsDownClosed G → PassesPart Free b G → G Free
free_rest G b falls r = falls Free r.next refl r.rest

-- a body passes in the phase in which its method is entered, and the caller goes on in the phase after it, or outside
enters : (annotated stands flag : Bool) (body whole : Basic) (G : Phase → Type 0) → IsDownClosed G → AtMost body whole → (annotated ≡ true → AtMost body Atomic) → PassesPart (phase_of stands flag) whole G
    → PassesPart (phase_of (annotated || stands) ((stands && flag) || false)) body (λ q. G (if stands then q else Free))
enters true true true body whole G falls below atomic r = passes_falls G G Committed Committed body whole refl below falls r
enters true true false body whole G falls below atomic r = passes_falls G G Opened Opened body whole refl below falls r
enters false true true body whole G falls below atomic r = passes_falls G G Committed Committed body whole refl below falls r
enters false true false body whole G falls below atomic r = passes_falls G G Opened Opened body whole refl below falls r
enters true false flag body whole G falls below atomic r = opens_atomic body (G Free) (atomic refl) (free_rest G whole falls r)
enters false false flag body whole G falls below atomic r = passes_falls G (λ q. G Free) Free Free body whole refl below (λ p q small g. falls Free q refl g) r

some_extended : (o : Option PathData) (fs : List ℕ) (p : PathData) → extended_some o fs ≡ Some p → (r : PathData) × (o ≡ Some r) × (extended r fs ≡ Some p)
some_extended None fs p e = absurd (let k : None ≡ Some p = e in cc)
some_extended (Some r) fs p e = (r, refl, e)

argument_is : (o : Option (Option PathData)) (r : PathData) → argument_at o ≡ Some r → o ≡ Some (Some r)
argument_is None r e = absurd (let k : None ≡ Some r = e in cc)
argument_is (Some o) r e = ap Some e

-- the slots of a new frame have what the paths of receiver and arguments lead to
module _ (P : Program) (h : Memory) (slots : Env) (method : Method) (this : Value) (receiver : Option PathData) (args : Paths) (values : List Value)
    (leads : LeadsTo P h slots receiver this) (aligned : Rattle.reduction.proofs.LeadLemmas.Aligned P h slots args values) where
  receiver_leads : (o : Option PathData) (r : PathData) → o ≡ Some r → LeadsTo P h slots o this → lead P h slots r ≡ Some this
  receiver_leads o r is l = subst (λ z. LeadsTo P h slots z this) is l

  root_value : (root : ℕ) (r : PathData) → passed receiver args root ≡ Some r → (v : Value) × (env_of (new_slots method this values) root ≡ v) × (lead P h slots r ≡ Some v)
  root_value zero r is = (this, refl, receiver_leads receiver r is leads)
  root_value (suc k) r is =
      let at = aligned_at P h slots args values k r aligned (argument_is (slice_get args k) r is) in
      (at.0, ap (λ o. unwrap_or o value.Null) (at_left values (replicate (method.slots - length (this ∷ values)) (value.Int (Rattle.std.specs.Prelude.pos 0))) k at.0 at.1), at.2)

  module _ (rel : List PathData) (H : Held) (held : Address → Bool) (sound : Sound P h slots H held) where
    -- what a path of the callee's set leads to, its name in the caller leads to
    entry_at : (q : PathData) → holds_at (under_call receiver args q) H ≡ true → (a : Address) × (lead P h (env_of (new_slots method this values)) q ≡ Some (value.Ref a)) × (held a ≡ true)
    entry_at q has =
        let p = holds_some (under_call receiver args q) H has in
        let r = some_extended (passed receiver args q.root) q.fields p.0 p.1 in
        let v = root_value q.root r.0 r.1 in
        let at = sound.at p.0 p.2 in
        let whole : lead_from P h (slots (r.0).root) ((r.0).fields ++ q.fields) ≡ Some (value.Ref at.0) = ap (λ y. lead P h slots y) (extended_is r.0 q.fields p.0 r.2) ∙ at.1 in
        (at.0, ap (λ w. lead_from P h w q.fields) v.1 ∙ sym (leads_from P h slots r.0 v.0 q.fields v.2) ∙ whole, at.2)

    pub entry_sound : Sound P h (env_of (new_slots method this values)) (held_under rel receiver args H) held
    entry_sound = record { at = λ q has. entry_at q (and_parts (has_path rel q) (holds_at (under_call receiver args q) H) has).1 }

module _ (P : Program) (rel : ℕ → List PathData) (A : Assignment) (accepted : Accepted P rel A) (see : Shared) (t : ℕ) (f : Frame) (below : List Frame) (rest : List Item) (flag : Bool)
    (own_frame : Owns t (f ∷ below) see.lock_at) (own_rest : (a : Address) → held_count t (see.lock_at a) ≡ count_release a rest + count_frames a below)
    (os : Paths) (known : LeadEach P (machine_memory P see.object_at) (env_of f.slots) os f.operands) where
  abbrev stands : Bool
  stands = frames_inside P (f ∷ below)

  abbrev now : Phase
  now = phase_of stands flag

  abbrev K : Phase → Type 0
  K next = FramesFit P rel A (machine_memory P see.object_at) below (awaited P f.method) (outer_phase P below next)

  abbrev List_fits : List Item → Env → Phase → Paths → Type 0
  List_fits work env p os = FitsPhase P rel A (machine_memory P see.object_at) (releases_in_work below) K work env p os

  module _ (m : ℕ) (method : Method) (is : slice_get P.methods m ≡ Some method) (a : Address) (receives : address_of (top (dropped (length method.params) f.operands)) ≡ Some a)
      (H : Held) (sound : Sound P (machine_memory P see.object_at) (env_of f.slots) H (λ b. has_release b rest || releases_in_work below b)) where
    abbrev n : ℕ
    n = length method.params

    abbrev receiver : Option PathData
    receiver = top_path (dropped_paths n os)

    abbrev args : Paths
    args = taken_paths n [] os

    abbrev values : List Value
    values = popped n [] f.operands

    abbrev caller : Frame
    caller = record f { operands = under (dropped n f.operands); work = rest }

    abbrev G : Phase → Type 0
    G q = List_fits rest (env_of f.slots) q (awaited P m ++ under_path (dropped_paths n os))

    abbrev set : Held
    set = held_under (rel m) receiver args H

    below_known : LeadEach P (machine_memory P see.object_at) (env_of f.slots) (dropped_paths n os) (dropped n f.operands)
    below_known = each_dropped P (machine_memory P see.object_at) (env_of f.slots) n os f.operands known

    receiver_known : LeadsTo P (machine_memory P see.object_at) (env_of f.slots) receiver (value.Ref a)
    receiver_known = subst (LeadsTo P (machine_memory P see.object_at) (env_of f.slots) receiver) (address_is (top (dropped n f.operands)) a receives)
        (each_top P (machine_memory P see.object_at) (env_of f.slots) (dropped_paths n os) (dropped n f.operands) below_known)

    G_falls : IsDownClosed G
    G_falls = list_falls P rel A see t f below rest flag own_frame rest (env_of f.slots) (awaited P m ++ under_path (dropped_paths n os))

    caller_fits : (q : Phase) → G (if stands then q else Free) → FramesFit P rel A (machine_memory P see.object_at) (caller ∷ below) (awaited P m) (outer_phase P (caller ∷ below) q)
    caller_fits q g = record {
      paths = under_path (dropped_paths n os);
      lead = each_under P (machine_memory P see.object_at) (env_of f.slots) (dropped_paths n os) (dropped n f.operands) below_known;
      fits = g;
    }

    set_part : IsSubset set (has_path (rel m))
    set_part q has = (and_parts (has_path (rel m) q) (holds_at (under_call receiver args q) H) has).0

    no_count : (k : ℕ) → k ≡ 0 + k
    no_count k = omega arith

    module _ (c k : ℕ) (running : Method) (there : slice_get P.methods k ≡ Some running) (runs : target_of P c m ≡ Some k) where
      facts : RunsFor P rel A m method k running
      facts = accepted.runs c m k method running runs is there

      -- what the method that runs knows of the set
      abbrev inner : Held
      inner = held_in (rel k) set

      inner_part : IsSubset inner (has_path (rel k))
      inner_part q has = (and_parts (has_path (rel k) q) (set q) has).0

      inner_sound : (slots : Env) (held : Address → Bool) → Sound P (machine_memory P see.object_at) slots set held → Sound P (machine_memory P see.object_at) slots inner held
      inner_sound slots held sound = record { at = λ q has. sound.at q (and_parts (has_path (rel k) q) (set q) has).1 }

      inner_required : IsSubset (has_path method.requires_) set → IsSubset (has_path running.requires_) inner
      inner_required required q has = and_from (has_path (rel k) q) (set q) (accepted.known k running there q has) (required q (ap (λ ps. has_path ps q) (sym facts.locks) ∙ has))

      awaited_same : awaited P k ≡ awaited P m
      awaited_same = ap (λ o. if has_result o then None ∷ [] else []) there ∙ ap (λ b. if b then None ∷ [] else []) facts.result ∙ sym (ap (λ o. if has_result o then None ∷ [] else []) is)

      entered : IsSubset (has_path method.requires_) set → PassesPart now (A m set) G → Fine P rel A see t stands flag (enter P see t f below rest n k running a true)
      entered required r =
          let below_body = accepted.closed k running there inner inner_part (inner_required required) in
          record {
            kind = both_allowed now;
            thread = (
              subst (λ b. FramesFit P rel A (machine_memory P see.object_at) (new_frame k running (value.Ref a) values ∷ caller ∷ below) [] (phase_of (b || stands) ((stands && flag) || false))) (ap is_annotated (sym there))
                  (record {
                    paths = [];
                    lead = tt;
                    fits = record {
                      set = inner;
                      sound = inner_sound (env_of (new_slots running (value.Ref a) values)) (λ b. has_release b rest || releases_in_work below b)
                          (entry_sound P (machine_memory P see.object_at) (env_of f.slots) running (value.Ref a) receiver args values receiver_known
                          (aligned_taken P (machine_memory P see.object_at) (env_of f.slots) n os [] f.operands [] known tt) (rel m) H (λ b. has_release b rest || releases_in_work below b) sound);
                      rest = (
                        record { at = λ q has. accepted.rooted k running there q (inner_part q has) },
                        accepted.tidy k running there,
                        Rattle.reduction.proofs.PhaseLemmas.passes_map (λ q. G (if stands then q else Free)) _ (phase_of (running.annotated || stands) ((stands && flag) || false)) (effect P rel A running.body inner)
                            (λ q g later agrees. subst (λ w. FramesFit P rel A (machine_memory P see.object_at) (caller ∷ below) w (outer_phase P (caller ∷ below) q)) (sym awaited_same) (caller_fits q g))
                            (enters running.annotated stands flag (effect P rel A running.body inner) (A m set) G G_falls
                            (below_chain (effect P rel A running.body inner) (A k inner) (A m set) below_body (facts.below set set_part required))
                            (λ annotated. below_chain (effect P rel A running.body inner) (A k inner) Atomic below_body (accepted.bound k running there annotated inner inner_part (inner_required required))) r),
                      );
                    };
                  }),
              λ b. own_rest b ∙ no_count (count_release b rest + count_frames b below),
            );
            grows = grows_itself P (machine_memory P see.object_at);
            others = λ u other b. refl;
            started = tt;
          }

      by_required : (b : Bool) → list_all set (required_paths (slice_get P.methods m)) ≡ b → PassesPart now (if b then A m set else Error) G → (room : Bool) → Fine P rel A see t stands flag (enter P see t f below rest n k running a room)
      by_required b req r false = fault_fine P rel A see t f below rest flag own_frame fault.Depth
      by_required true req r true = entered (all_has method.requires_ set (ap (λ o. list_all set (required_paths o)) (sym is) ∙ req)) r
      by_required false req r true = absurd (no_error G now r)

  module _ (m : ℕ) (method : Method) (is : slice_get P.methods m ≡ Some method) (at : FitsAct P rel A (machine_memory P see.object_at) (releases_in_work below) K (W.Call m) rest (List_fits rest) (env_of f.slots) now os)
      (a : Address) (receives : address_of (top (dropped (length method.params) f.operands)) ≡ Some a) where
    enter_fine_some : (c k : ℕ) → target_of P c m ≡ Some k → (o : Option Method) → slice_get P.methods k ≡ o → Fine P rel A see t stands flag (enter_some P see t f below rest (length method.params) k o a)
    enter_fine_some c k runs None there = fault_fine P rel A see t f below rest flag own_frame fault.Null
    enter_fine_some c k runs (Some running) there =
        by_required m method is a receives at.set at.sound c k running there runs (list_all (held_under (rel m) (top_path (dropped_paths (length method.params) os)) (taken_paths (length method.params) [] os) at.set) (required_paths (slice_get P.methods m))) refl
        (subst (λ k. PassesPart now (call_of P rel A m (top_path (dropped_paths k os)) (taken_paths k [] os) at.set) (λ q. List_fits rest (env_of f.slots) q (awaited P m ++ under_path (dropped_paths k os)))) (ap arity_of is) at.rest)
        (nat_lt (length (f ∷ below)) most_frames)

    dispatch_fine : (c : Option ℕ) → (o : Option ℕ) → target_at P m c ≡ o → Fine P rel A see t stands flag (dispatch P see t f below rest (length method.params) o a)
    dispatch_fine c None runs = fault_fine P rel A see t f below rest flag own_frame fault.Null
    dispatch_fine None (Some k) runs = absurd (let e : None ≡ Some k = runs in cc)
    dispatch_fine (Some c) (Some k) runs = enter_fine_some c k runs (slice_get P.methods k) refl

  call_on_fine : (m : ℕ) (method : Method) → slice_get P.methods m ≡ Some method → FitsAct P rel A (machine_memory P see.object_at) (releases_in_work below) K (W.Call m) rest (List_fits rest) (env_of f.slots) now os
      → (o : Option Address) → address_of (top (dropped (length method.params) f.operands)) ≡ o → Fine P rel A see t stands flag (call_on P see t f below rest (length method.params) m o)
  call_on_fine m method is at None receives = fault_fine P rel A see t f below rest flag own_frame fault.Null
  call_on_fine m method is at (Some a) receives = dispatch_fine m method is at a receives (object_class (see.object_at a)) (target_at P m (object_class (see.object_at a))) refl

  pub call_fine : (m : ℕ) → FitsAct P rel A (machine_memory P see.object_at) (releases_in_work below) K (W.Call m) rest (List_fits rest) (env_of f.slots) now os → (o : Option Method) → slice_get P.methods m ≡ o
      → Fine P rel A see t stands flag (call P see t f below rest m o)
  call_fine m at None is = fault_fine P rel A see t f below rest flag own_frame fault.Null
  call_fine m at (Some method) is = call_on_fine m method is at (address_of (top (dropped (length method.params) f.operands))) refl

-- The beginning of a thread.

module _ (P : Program) (rel : ℕ → List PathData) (A : Assignment) (accepted : Accepted P rel A) (see : Shared) (t : ℕ) (owns : Owns t [] see.lock_at) where
  first_passes : (annotated : Bool) (b : Basic) (X : Type 0) → AtMost b (declared_bound annotated) → X → PassesPart (phase_of (annotated || false) false) b (λ q. X)
  first_passes true b X below x = opens_atomic b X below x
  first_passes false b X below x = free_compound b X below x

  no_held : (q : PathData) → false ≡ true → ⊥
  no_held q e = absurd cc

  none_required : (method : Method) → method.requires_ ≡ [] → IsSubset (has_path method.requires_) (λ q. false)
  none_required method none q has = ap (λ ps. has_path ps q) (sym none) ∙ has

  none_part : (ps : List PathData) → IsSubset (λ q. false) (has_path ps)
  none_part ps q has = absurd (let e : false ≡ true = has in cc)

  pub enter_fine : (a : Address) (m : ℕ) (flag : Bool) → IsFree P m → (o : Option Method) → slice_get P.methods m ≡ o → Fine P rel A see t false flag (enter_first P see t a m o)
  enter_fine a m flag free None is = record { kind = refl; thread = owns; grows = grows_itself P (machine_memory P see.object_at); others = λ u other b. refl; started = tt }
  enter_fine a m flag free (Some method) is = record {
    kind = refl;
    thread = (
      subst (λ b. FramesFit P rel A (machine_memory P see.object_at) (new_frame m method (value.Ref a) [] ∷ []) [] (phase_of (b || false) false)) (ap is_annotated (sym is))
          (record {
            paths = [];
            lead = tt;
            fits = record {
              set = λ q. false;
              sound = record { at = λ q has. absurd (no_held q has) };
              rest = (
                record { at = λ q has. absurd (no_held q has) },
                accepted.tidy m method is,
                Rattle.reduction.proofs.PhaseLemmas.passes_map (λ q. Unit {0}) _ (phase_of (method.annotated || false) false) (effect P rel A method.body (λ q. false)) (λ q x later agrees. tt)
                    (first_passes method.annotated (effect P rel A method.body (λ q. false)) (Unit {0})
                    (below_chain (effect P rel A method.body (λ q. false)) (A m (λ q. false)) (declared_bound method.annotated)
                    (accepted.closed m method is (λ q. false) (none_part (rel m)) (none_required method (free method is))) (accepted.first m method is (free method is))) tt),
              );
            };
          }),
      λ b. owns b,
    );
    grows = grows_itself P (machine_memory P see.object_at);
    others = λ u other b. refl;
    started = tt;
  }
