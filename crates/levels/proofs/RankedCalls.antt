-- A thread's turn that calls a method leaves it walked, in the heap before the turn.
use Rattle.std.proofs.Common.{◌≡◌, ℕ, ◌+◌, ◌-◌, Bool, true, false, ◌||◌, List, [], ◌∷◌, ◌++◌, Some, None, refl, sym, ap, subst, ◌∙◌, arith}
use Rattle.std.specs.Prelude.{Option, Contains, slice_get, nat_lt, length, is_some, if◌then◌else◌}
use Rattle.std.proofs.lemmas.Bool.{and_parts}
use Rattle.std.proofs.lemmas.Option.{none-some}
use Rattle.paths.specs.Paths.{PathData}
use Rattle.algebra.specs.HeldPaths.{has_path}
use Rattle.core_program.specs.Core.{Program, Method}
use Rattle.core_program.specs.Dispatch.{target_of}
use Rattle.state.specs.declared.value.Address.{Address}
use Rattle.state.specs.declared.value.Value.TheVariants as value
use Rattle.state.specs.declared.value.Fault.{Fault}
use Rattle.state.specs.declared.value.Fault.TheVariants as fault
use Rattle.state.specs.Values.{top, under, popped, dropped, address_of}
use Rattle.state.specs.Memory.{Object}
use Rattle.state.specs.Work as W
use Rattle.state.specs.Work.{Item}
use Rattle.state.specs.States.{Frame}
use Rattle.semantics.specs.Step.{Shared, most_frames, has_result, object_class, target_at, faults, enter, enter_some, dispatch, call_on, call}
use Rattle.reduction.specs.Leads.{Env, env_of, machine_memory, Paths, LeadsTo, top_path, under_path, taken_paths, dropped_paths}
use Rattle.reduction.specs.Fits.{has_release, count_release, arity_of, awaited}
use Rattle.reduction.specs.Safe.{LeadEach, Owns, releases_in_work, count_frames, held_count}
use Rattle.reduction.proofs.LeadLemmas.{grows_itself, each_top, each_under, each_dropped, aligned_taken}
use Rattle.reduction.proofs.Actions.{address_is}
use Rattle.reduction.proofs.Calls.{entry_sound}
use Rattle.levels.specs.SlotTypes.{slot_types}
use Rattle.levels.specs.Walks.{LevelVisit, call_visits}
use Rattle.levels.proofs.Ranked.{Fine, RankedAct, Ranked, FramesRanked, AreCounted}
use Rattle.levels.proofs.RankedSteps.{IsOrderedProgram, OutcomeRanked, fault_ranked}

module _ (P : Program) (rel : ℕ → List PathData) (level : ℕ → ℕ) (see : Shared) (t : ℕ) where
  module _ (program : IsOrderedProgram P rel level) (counted : AreCounted see.lock_at) (f : Frame) (below : List Frame) (rest : List Item) (method : Method) (is : slice_get P.methods f.method ≡ Some method)
      (own_frame : Owns t (f ∷ below) see.lock_at) (further : FramesRanked P rel level see.object_at below (awaited P f.method)) where
    abbrev Walked : List Item → Env → Paths → Type 0
    Walked work env os = Ranked P rel level (slot_types method) see.object_at (releases_in_work below) work env os

    failed : (why : Fault) → OutcomeRanked P rel level see t (faults P see t f below rest why)
    failed = fault_ranked P rel level see t program counted f below rest method is own_frame further

    module _ (own_rest : (a : Address) → held_count t (see.lock_at a) ≡ count_release a rest + count_frames a below) where
      module _ (os : Paths) (known : LeadEach P (machine_memory P see.object_at) (env_of f.slots) os f.operands) where
        -- Calls.

        object_target : (m k : ℕ) (o : Option Object) → target_at P m (object_class o) ≡ Some k → (p : Object) × (target_of P p.class m ≡ Some k)
        object_target m k None e = absurd (none-some k e)
        object_target m k (Some p) e = (p, e)

        first_visit : (v : LevelVisit) → Contains (v ∷ []) v
        first_visit v = (0, omega arith, refl)

        same_awaited : (m k : ℕ) (called running : Method) → slice_get P.methods m ≡ Some called → slice_get P.methods k ≡ Some running → running.result ≡ called.result → awaited P k ≡ awaited P m
        same_awaited m k called running there at same = ap (λ o. if has_result o then None ∷ [] else []) at ∙ ap (λ r. if is_some r then None ∷ [] else []) same ∙ sym (ap (λ o. if has_result o then None ∷ [] else []) there)

        module _ (alike : (c m n : ℕ) (called running : Method) → target_of P c m ≡ Some n → slice_get P.methods m ≡ Some called → slice_get P.methods n ≡ Some running → running.result ≡ called.result) where
          enter_ranked : (m : ℕ) (called : Method) → slice_get P.methods m ≡ Some called → RankedAct P rel level (slot_types method) see.object_at (releases_in_work below) (W.Call m) rest (Walked rest) (env_of f.slots) os
              → (a : Address) → address_of (top (dropped (length called.params) f.operands)) ≡ Some a → (k : ℕ) (running : Method) → slice_get P.methods k ≡ Some running → target_at P m (object_class (see.object_at a)) ≡ Some k → (room : Bool)
              → OutcomeRanked P rel level see t (enter P see t f below rest (length called.params) k running a room)
          enter_ranked m called there r a receives k running at runs false = failed fault.Depth
          enter_ranked m called there r a receives k running at runs true =
              let n = length called.params in
              let o = object_target m k (see.object_at a) runs in
              let arity = ap arity_of there in
              let receiver = top_path (dropped_paths (length called.params) os) in
              let args = taken_paths (length called.params) [] os in
              let below_known = each_dropped P (machine_memory P see.object_at) (env_of f.slots) (length called.params) os f.operands known in
              let receiver_known = subst (LeadsTo P (machine_memory P see.object_at) (env_of f.slots) (top_path (dropped_paths (length called.params) os))) (address_is (top (dropped (length called.params) f.operands)) a receives)
              (each_top P (machine_memory P see.object_at) (env_of f.slots) (dropped_paths (length called.params) os) (dropped (length called.params) f.operands) below_known) in
              let fine : Fine P rel level (call_visits P rel m (top_path (dropped_paths (length called.params) os)) (taken_paths (length called.params) [] os) r.0.set r.0.under) =
              subst (λ z. Fine P rel level (call_visits P rel m (top_path (dropped_paths z os)) (taken_paths z [] os) r.0.set r.0.under)) arity r.0.rest in
              let set = Rattle.rules.specs.Effect.held_under (rel k) (top_path (dropped_paths (length called.params) os)) (taken_paths (length called.params) [] os) r.0.set in
              let context = fine.comes m (λ j. Rattle.rules.specs.Effect.held_under (rel j) (top_path (dropped_paths (length called.params) os)) (taken_paths (length called.params) [] os) r.0.set) r.0.under (first_visit _) k (program.may_run (o.0).class m k o.1) in
              record {
                thread = (
                  (
                    record {
                      method = running;
                      is = at;
                      paths = [];
                      leads = tt;
                      ranked = (
                        record {
                          set = set;
                          under = r.0.under;
                          stands = record {
                            sound = entry_sound P (machine_memory P see.object_at) (env_of f.slots) running (value.Ref a) (top_path (dropped_paths (length called.params) os)) (taken_paths (length called.params) [] os) (popped (length called.params) [] f.operands) receiver_known
                                (aligned_taken P (machine_memory P see.object_at) (env_of f.slots) (length called.params) os [] f.operands [] known tt) (rel k) r.0.set (λ b. has_release b rest || releases_in_work below b) r.0.stands.sound;
                            high = r.0.stands.high;
                          };
                          rest = (record { at = λ q has. program.rooted k running at q (and_parts (has_path (rel k) q) _ has).0 }, program.tidy k running at, (0, program.fine k running set r.0.under at context));
                        },
                        λ later agrees. tt,
                      );
                    },
                    (
                      record {
                        method = method;
                        is = is;
                        paths = under_path (dropped_paths (length called.params) os);
                        leads = each_under P (machine_memory P see.object_at) (env_of f.slots) (dropped_paths (length called.params) os) (dropped (length called.params) f.operands) below_known;
                        ranked = subst (λ w. Walked rest (env_of f.slots) (w ++ under_path (dropped_paths (length called.params) os))) (sym (same_awaited m k called running there at (alike (o.0).class m k called running o.1 there at)))
                            (subst (λ z. Walked rest (env_of f.slots) (awaited P m ++ under_path (dropped_paths z os))) arity r.1);
                      },
                      further,
                    ),
                  ),
                  λ b. own_rest b ∙ no_count (count_release b rest + count_frames b below),
                );
                others = λ u other b. refl;
                grows = grows_itself P (machine_memory P see.object_at);
                counted = counted;
                started = tt;
              }
            where
              no_count : (k : ℕ) → k ≡ 0 + k
              no_count k = omega arith

          enter_some_ranked : (m : ℕ) (called : Method) → slice_get P.methods m ≡ Some called → RankedAct P rel level (slot_types method) see.object_at (releases_in_work below) (W.Call m) rest (Walked rest) (env_of f.slots) os
              → (a : Address) → address_of (top (dropped (length called.params) f.operands)) ≡ Some a → (k : ℕ) → target_at P m (object_class (see.object_at a)) ≡ Some k → (o : Option Method) → slice_get P.methods k ≡ o
              → OutcomeRanked P rel level see t (enter_some P see t f below rest (length called.params) k o a)
          enter_some_ranked m called there r a receives k runs None at = failed fault.Null
          enter_some_ranked m called there r a receives k runs (Some running) at = enter_ranked m called there r a receives k running at runs (nat_lt (length (f ∷ below)) most_frames)

          dispatch_ranked : (m : ℕ) (called : Method) → slice_get P.methods m ≡ Some called → RankedAct P rel level (slot_types method) see.object_at (releases_in_work below) (W.Call m) rest (Walked rest) (env_of f.slots) os
              → (a : Address) → address_of (top (dropped (length called.params) f.operands)) ≡ Some a → (o : Option ℕ) → target_at P m (object_class (see.object_at a)) ≡ o → OutcomeRanked P rel level see t (dispatch P see t f below rest (length called.params) o a)
          dispatch_ranked m called there r a receives None runs = failed fault.Null
          dispatch_ranked m called there r a receives (Some k) runs = enter_some_ranked m called there r a receives k runs (slice_get P.methods k) refl

          call_on_ranked : (m : ℕ) (called : Method) → slice_get P.methods m ≡ Some called → RankedAct P rel level (slot_types method) see.object_at (releases_in_work below) (W.Call m) rest (Walked rest) (env_of f.slots) os
              → (o : Option Address) → address_of (top (dropped (length called.params) f.operands)) ≡ o → OutcomeRanked P rel level see t (call_on P see t f below rest (length called.params) m o)
          call_on_ranked m called there r None receives = failed fault.Null
          call_on_ranked m called there r (Some a) receives = dispatch_ranked m called there r a receives (target_at P m (object_class (see.object_at a))) refl

          pub call_ranked : (m : ℕ) → RankedAct P rel level (slot_types method) see.object_at (releases_in_work below) (W.Call m) rest (Walked rest) (env_of f.slots) os → (o : Option Method) → slice_get P.methods m ≡ o → OutcomeRanked P rel level see t (call P see t f below rest m o)
          call_ranked m r None there = failed fault.Null
          call_ranked m r (Some called) there = call_on_ranked m called there r (address_of (top (dropped (length called.params) f.operands))) refl
