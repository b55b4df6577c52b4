-- A thread's turn leaves it walked, in the heap before the turn, and leaves to other threads what they rest on.
use Rattle.std.proofs.Common.{◌≡◌, inl, inr, ℕ, ◌+◌, ◌-◌, Bool, true, false, ◌||◌, ◌==◌, List, [], ◌∷◌, ◌++◌, Some, None, refl, sym, ap, subst, ◌∙◌, arith}
use Rattle.std.specs.Prelude.{Option, slice_get, unwrap_or, option_and_then, length, if◌then◌else◌}
use Rattle.std.proofs.lemmas.Bool.{or_parts}
use Rattle.std.proofs.lemmas.Option.{none-some, same_Some}
use Rattle.paths.specs.Paths.{PathData, extended, extended_some}
use Rattle.algebra.specs.HeldPaths.{Held, has_path}
use Rattle.core_program.specs.declared.types.CoreType.{CoreType}
use Rattle.core_program.specs.Core.{Program, Class, Field, Method, Expr, Stmt, WhileS}
use Rattle.core_program.specs.Dispatch.{target_of}
use Rattle.core_program.specs.Locks.{leads_on, get_path, path_of}
use Rattle.state.specs.declared.value.Address.{Address}
use Rattle.state.specs.declared.value.Value.{Value}
use Rattle.state.specs.declared.value.Value.TheVariants as value
use Rattle.state.specs.declared.value.Fault.{Fault}
use Rattle.state.specs.declared.value.Fault.TheVariants as fault
use Rattle.state.specs.declared.value.StepKind.{StepKind}
use Rattle.state.specs.declared.value.StepKind.TheVariants.{Both, Other}
use Rattle.state.specs.Values.{top, under, popped, dropped, address_of}
use Rattle.state.specs.Memory.{field_value}
use Rattle.state.specs.Work as W
use Rattle.state.specs.Work.{Item, Ex, St, first_release}
use Rattle.state.specs.States.{Frame, new_object}
use Rattle.semantics.specs.Step.{Change, Nothing, FieldIs, ObjectIs, Starts, Shared, Move, Outcome, Moves, Absent, IsDone, HadFaulted, Waits, has_result, with_result, unless_final, object_class, run_of, run_of_class, value_at, access_kind, faults, goes_on, load, store, binary, and_then, or_else, choose, loop, get_value, get, put_value, put, new_address, new, return_to, start_run, start}
use Rattle.semantics.specs.Changes.{objects_after, locks_after}
use Rattle.reduction.specs.Leads.{Env, env_of, Memory, machine_memory, next_value, lead, Grows, Paths, LeadsTo, MayLeadTo, with_slot, top_path, under_path, dropped_paths}
use Rattle.reduction.specs.Fits.{Fresh, TidyE, TidyS, valued, stores, has_release, count_release, final_field_count, awaited}
use Rattle.reduction.specs.Safe.{LeadEach, Owns, releases_in_work, count_frames, held_count}
use Rattle.reduction.proofs.LeadLemmas.{grows_itself, each_top, each_under, each_dropped, leads_from}
use Rattle.reduction.proofs.SetLemmas.{sound_kept, extended_is}
use Rattle.reduction.proofs.FrameLemmas.{stored, put_grows, made_grows}
use Rattle.reduction.proofs.Actions.{address_is}
use Rattle.reduction.proofs.Counting.{none_count}
use Rattle.reduction.proofs.PushedPaths.{on_pushed}
use Rattle.levels.specs.SlotTypes.{slot_types}
use Rattle.levels.specs.Walks.{LevelVisit, Comes, Bad, expr_visits, visits, body_visits}
use Rattle.levels.specs.Contexts.{MayRun, RunsFirst, Context, at_start}
use Rattle.levels.proofs.Ranked.{At, Fine, RankedAct, Ranked, FramesRanked, RankedThread, AreCounted}

-- what the proof uses of an ordered program
pub record IsOrderedProgram (P : Program) (rel : ℕ → List PathData) (level : ℕ → ℕ) : Type 0 where
  pub fine : (m : ℕ) (method : Method) (H : Held) (under : ℕ) → slice_get P.methods m ≡ Some method → Context P rel level m H under → Fine P rel level (body_visits P rel level method H under)
  pub tidy : (m : ℕ) (method : Method) → slice_get P.methods m ≡ Some method → TidyS P method.body
  pub rooted : (m : ℕ) (method : Method) → slice_get P.methods m ≡ Some method → (q : PathData) → has_path (rel m) q ≡ true → stores method.body q.root ≡ false
  pub may_run : (c m n : ℕ) → target_of P c m ≡ Some n → MayRun P n m

-- Numbers.

no_more : (n k m : ℕ) → n ≡ k + m → 0 ≡ k → n ≡ m
no_more n k m e none = omega (arith, e, none)

with_lead : (P : Program) (h : Memory) (env : Env) (b : Bool) (v : Value) (paths : Paths) (operands : List Value) → LeadEach P h env paths operands → LeadEach P h env ((if b then None ∷ [] else []) ++ paths) (with_result b v operands)
with_lead P h env true v paths operands known = (tt, known)
with_lead P h env false v paths operands known = known

module _ (P : Program) (rel : ℕ → List PathData) (level : ℕ → ℕ) (see : Shared) (t : ℕ) where
  -- a new thread begins with a context
  abbrev pub RankedChange : Change → Type 0
  RankedChange (Starts a m) = Context P rel level m (λ q. false) 0
  RankedChange _ = Unit {0}

  pub record StepRanked (move : Move) : Type 0 where
    pub thread : RankedThread P rel level see.object_at (locks_after move.change see.lock_at) t (Some move.thread)
    pub others : (u : ℕ) → (u == t) ≡ false → (b : Address) → held_count u (locks_after move.change see.lock_at b) ≡ held_count u (see.lock_at b)
    pub grows : Grows P (machine_memory P see.object_at) (machine_memory P (objects_after move.change see.object_at))
    pub counted : AreCounted (locks_after move.change see.lock_at)
    pub started : RankedChange move.change

  abbrev pub OutcomeRanked : Outcome → Type 0
  OutcomeRanked (Moves move) = StepRanked move
  OutcomeRanked Absent = Unit {0}
  OutcomeRanked IsDone = Unit {0}
  OutcomeRanked (HadFaulted why) = Unit {0}
  OutcomeRanked (Waits a holder) = Unit {0}

  module _ (program : IsOrderedProgram P rel level) (counted : AreCounted see.lock_at) (f : Frame) (below : List Frame) (rest : List Item) (method : Method) (is : slice_get P.methods f.method ≡ Some method)
      (own_frame : Owns t (f ∷ below) see.lock_at) (further : FramesRanked P rel level see.object_at below (awaited P f.method)) where
    abbrev slots : Env
    slots = env_of f.slots

    abbrev h : Memory
    h = machine_memory P see.object_at

    abbrev types : List CoreType
    types = slot_types method

    abbrev Walked : List Item → Env → Paths → Type 0
    Walked work env os = Ranked P rel level (slot_types method) see.object_at (releases_in_work below) work env os

    pub fault_ranked : (why : Fault) → OutcomeRanked (faults P see t f below rest why)
    fault_ranked why = record { thread = own_frame; others = λ u other b. refl; grows = grows_itself P (machine_memory P see.object_at); counted = counted; started = tt }

    module _ (own_rest : (a : Address) → held_count t (see.lock_at a) ≡ count_release a rest + count_frames a below) where
      pub go_with : (kind : StepKind) (operands : List Value) (work : List Item) (os : Paths) (change : Change) → LeadEach P (machine_memory P see.object_at) (env_of f.slots) os operands → Walked work (env_of f.slots) os
          → ((a : Address) → count_release a work ≡ count_release a rest) → Grows P (machine_memory P see.object_at) (machine_memory P (objects_after change see.object_at)) → (locks_after change see.lock_at ≡ see.lock_at) → RankedChange change
          → OutcomeRanked (goes_on P see t f below rest kind operands work change)
      go_with kind operands work os change leads walked count grows same starts = record {
        thread = (
          (record { method = method; is = is; paths = os; leads = leads; ranked = walked }, further),
          λ a. ap (λ l. held_count t (l a)) same ∙ own_rest a ∙ ap (λ n. n + count_frames a below) (sym (count a)),
        );
        others = λ u other b. ap (λ l. held_count u (l b)) same;
        grows = grows;
        counted = subst AreCounted (sym same) counted;
        started = starts;
      }

      pub go : (kind : StepKind) (operands : List Value) (work : List Item) (os : Paths) → LeadEach P (machine_memory P see.object_at) (env_of f.slots) os operands → Walked work (env_of f.slots) os
          → ((a : Address) → count_release a work ≡ count_release a rest) → OutcomeRanked (goes_on P see t f below rest kind operands work Nothing)
      go kind operands work os leads walked count = go_with kind operands work os Nothing leads walked count (grows_itself P (machine_memory P see.object_at)) refl tt

      module _ (os : Paths) (known : LeadEach P (machine_memory P see.object_at) (env_of f.slots) os f.operands) where
        pub once : LeadEach P (machine_memory P see.object_at) (env_of f.slots) (under_path os) (under f.operands)
        once = each_under P (machine_memory P see.object_at) (env_of f.slots) os f.operands known

        twice : LeadEach P (machine_memory P see.object_at) (env_of f.slots) (under_path (under_path os)) (under (under f.operands))
        twice = each_under P (machine_memory P see.object_at) (env_of f.slots) (under_path os) (under f.operands) once

        pub load_ranked : (x : ℕ) (o : Option PathData) → LeadsTo P (machine_memory P see.object_at) (env_of f.slots) o (env_of f.slots x) → Walked rest (env_of f.slots) (o ∷ os) → (v : Option Value) → slice_get f.slots x ≡ v → OutcomeRanked (load P see t f below rest v)
        load_ranked x o leads g None at = fault_ranked fault.Null
        load_ranked x o leads g (Some v) at = go Both (v ∷ f.operands) rest (o ∷ os) (subst (LeadsTo P (machine_memory P see.object_at) (env_of f.slots) o) (ap (λ z. unwrap_or z value.Null) at) leads, known) g (λ a. refl)

        may_lead : (o : Option PathData) (v : Value) → LeadsTo P (machine_memory P see.object_at) (env_of f.slots) o v → MayLeadTo P (machine_memory P see.object_at) (env_of f.slots) o v
        may_lead None v l = tt
        may_lead (Some p) v l = λ w e. same_Some v w (sym l ∙ e)

        pub store_ranked : (x : ℕ) → ((v : Value) → MayLeadTo P (machine_memory P see.object_at) (env_of f.slots) (top_path os) v → Walked rest (with_slot (env_of f.slots) x v) []) → (o : Option Value) → slice_get f.slots x ≡ o → OutcomeRanked (store P see t f below rest x o)
        store_ranked x g None at = fault_ranked fault.Null
        store_ranked x g (Some old) at = record {
          thread = (
            (
              record {
                method = method;
                is = is;
                paths = [];
                leads = tt;
                ranked = subst (λ env. Walked rest env []) (sym (stored f.slots x (top f.operands) old at))
                    (g (top f.operands) (may_lead (top_path os) (top f.operands) (each_top P (machine_memory P see.object_at) (env_of f.slots) os f.operands known)));
              },
              further,
            ),
            own_rest,
          );
          others = λ u other b. refl;
          grows = grows_itself P (machine_memory P see.object_at);
          counted = counted;
          started = tt;
        }

        pub binary_ranked : Walked rest (env_of f.slots) (None ∷ under_path (under_path os)) → (o : Option Value) → OutcomeRanked (binary P see t f below rest o)
        binary_ranked g None = fault_ranked fault.Zero
        binary_ranked g (Some v) = go Both (v ∷ under (under f.operands)) rest (None ∷ under_path (under_path os)) (tt, twice) g (λ a. refl)

        -- the second part of `&&` and `||`
        second_part : (e : Expr) → At P level see.object_at (releases_in_work below) (env_of f.slots) rest (λ H under. (valued P e ≡ true) × TidyE P e × (path_of P e ≡ None) × Fine P rel level (expr_visits P rel e H under)) → Walked rest (env_of f.slots) (None ∷ under_path os)
            → Walked (Ex e ∷ rest) (env_of f.slots) (under_path os)
        second_part e a g = (
          record { set = a.set; under = a.under; stands = a.stands; rest = (a.rest.1, a.rest.3) },
          on_pushed P (λ z. Walked rest (env_of f.slots) z) e (under_path os) a.rest.0 (subst (λ o. Walked rest (env_of f.slots) (o ∷ under_path os)) (sym a.rest.2) g),
        )

        pub and_ranked : (e : Expr) → RankedAct P rel level (slot_types method) see.object_at (releases_in_work below) (W.AndThen e) rest (Walked rest) (env_of f.slots) os → (b : Bool) → OutcomeRanked (and_then P see t f below rest e b)
        and_ranked e r true = go Both (under f.operands) (Ex e ∷ rest) (under_path os) once (second_part e r.0 r.1) (λ a. refl)
        and_ranked e r false = go Both (value.Truth false ∷ under f.operands) rest (None ∷ under_path os) (tt, once) r.1 (λ a. refl)

        pub or_ranked : (e : Expr) → RankedAct P rel level (slot_types method) see.object_at (releases_in_work below) (W.OrElse e) rest (Walked rest) (env_of f.slots) os → (b : Bool) → OutcomeRanked (or_else P see t f below rest e b)
        or_ranked e r true = go Both (value.Truth true ∷ under f.operands) rest (None ∷ under_path os) (tt, once) r.1 (λ a. refl)
        or_ranked e r false = go Both (under f.operands) (Ex e ∷ rest) (under_path os) once (second_part e r.0 r.1) (λ a. refl)

        pub choose_ranked : (s u : Stmt) → RankedAct P rel level (slot_types method) see.object_at (releases_in_work below) (W.Choose s u) rest (Walked rest) (env_of f.slots) os → (b : Bool) → OutcomeRanked (choose P see t f below rest s u b)
        choose_ranked s u r true = go Both (under f.operands) (St s ∷ rest) [] tt
            (record { set = r.0.set; under = r.0.under; stands = r.0.stands; rest = (r.0.rest.0, r.0.rest.2, r.0.rest.4) }, λ later agrees. r.1 later (λ y other. agrees.kept y ((or_parts (stores s y) (stores u y) other).0))) (λ a. refl)
        choose_ranked s u r false = go Both (under f.operands) (St u ∷ rest) [] tt
            (record { set = r.0.set; under = r.0.under; stands = r.0.stands; rest = (r.0.rest.1, r.0.rest.3, r.0.rest.5) }, λ later agrees. r.1 later (λ y other. agrees.kept y ((or_parts (stores s y) (stores u y) other).1))) (λ a. refl)

        pub loop_ranked : (e : Expr) (s : Stmt) → RankedAct P rel level (slot_types method) see.object_at (releases_in_work below) (W.Loop e s) rest (Walked rest) (env_of f.slots) os → (b : Bool) → OutcomeRanked (loop P see t f below rest e s b)
        loop_ranked e s r false = go Both (under f.operands) rest [] tt (r.1 (env_of f.slots) (λ y other. refl)) (λ a. refl)
        loop_ranked e s r true =
            let a = r.0 in
            let fresh : Fresh r.0.set s = r.0.rest.0 in
            go Both (under f.operands) (St s ∷ St (WhileS e s) ∷ rest) [] tt (
              record { set = r.0.set; under = r.0.under; stands = r.0.stands; rest = (r.0.rest.0, r.0.rest.3, r.0.rest.5) },
              λ later agrees. (
                record {
                  set = r.0.set;
                  under = r.0.under;
                  stands = record {
                    sound = sound_kept P (machine_memory P see.object_at) (env_of f.slots) later (λ b. has_release b rest || releases_in_work below b) r.0.set (λ path has. agrees.kept path.root (fresh.at path has)) r.0.stands.sound;
                    high = r.0.stands.high;
                  };
                  rest = (record { at = λ path has. fresh.at path has }, (r.0.rest.1, r.0.rest.2, r.0.rest.3), loop_fine e s r.0.set r.0.under r.0.rest.4 r.0.rest.5);
                },
                λ last kept. r.1 last (λ y other. kept.kept y other ∙ agrees.kept y other),
              ),
            ) (λ a. refl)
          where
            loop_fine : (e : Expr) (s : Stmt) (H : Held) (under : ℕ) → Fine P rel level (expr_visits P rel e H under) → (n : ℕ) × Fine P rel level (visits P rel level (slot_types method) s n H under)
                → (n : ℕ) × Fine P rel level (expr_visits P rel e H under ++ visits P rel level (slot_types method) s n H under)
            loop_fine e s H under first (n, second) = (n, both_fine (expr_visits P rel e H under) (visits P rel level (slot_types method) s n H under) first second)
              where
                both_fine : (xs ys : List LevelVisit) → Fine P rel level xs → Fine P rel level ys → Fine P rel level (xs ++ ys)
                both_fine xs ys first second = record {
                  comes = λ m known u has k runs. elim (Rattle.std.proofs.lemmas.List.Elements.Contains-append_cases xs ys (Comes m known u) has) as (λ _. Context P rel level k (known k) u) [
                    | inl a ↦ first.comes m known u a k runs
                    | inr b ↦ second.comes m known u b k runs
                  ];
                  none_bad = λ place c u has. elim (Rattle.std.proofs.lemmas.List.Elements.Contains-append_cases xs ys (Bad place c u) has) as (λ _. ⊥) [
                    | inl a ↦ first.none_bad place c u a
                    | inr b ↦ second.none_bad place c u b
                  ];
                }

        -- Accesses.

        path_leads : (a : Address) (p : PathData) (x : ℕ) (v : Value) → lead P (machine_memory P see.object_at) (env_of f.slots) p ≡ Some (value.Ref a) → next_value P (machine_memory P see.object_at) (value.Ref a) x ≡ Some v
            → (q : Option PathData) → extended p (x ∷ []) ≡ q → LeadsTo P (machine_memory P see.object_at) (env_of f.slots) q v
        path_leads a p x v leads next None at = tt
        path_leads a p x v leads next (Some q) at =
            ap (λ y. lead P (machine_memory P see.object_at) (env_of f.slots) y) (sym (extended_is p (x ∷ []) q at))
            ∙ leads_from P (machine_memory P see.object_at) (env_of f.slots) p (value.Ref a) (x ∷ []) leads ∙ ap (λ o. option_and_then (λ w. Some w) o) next

        some_path_leads : (a : Address) (o : Option PathData) (x : ℕ) (v : Value) → LeadsTo P (machine_memory P see.object_at) (env_of f.slots) o (value.Ref a) → next_value P (machine_memory P see.object_at) (value.Ref a) x ≡ Some v
            → LeadsTo P (machine_memory P see.object_at) (env_of f.slots) (extended_some o (x ∷ [])) v
        some_path_leads a None x v leads next = tt
        some_path_leads a (Some p) x v leads next = path_leads a p x v leads next (extended p (x ∷ [])) refl

        read_leads : (a : Address) (o : Option PathData) (x : ℕ) (v : Value) → LeadsTo P (machine_memory P see.object_at) (env_of f.slots) o (value.Ref a) → value_at P see t a x ≡ Some v
            → (b : Bool) → leads_on (slice_get P.fields x) ≡ b → LeadsTo P (machine_memory P see.object_at) (env_of f.slots) (if b then extended_some o (x ∷ []) else None) v
        read_leads a o x v leads at true on = some_path_leads a o x v leads (ap (λ b. if b then machine_memory P see.object_at a x else None) on ∙ at)
        read_leads a o x v leads at false on = tt

        get_value_ranked : (a : Address) (x : ℕ) → Walked rest (env_of f.slots) (get_path P x (top_path os) ∷ under_path os) → LeadsTo P (machine_memory P see.object_at) (env_of f.slots) (top_path os) (value.Ref a)
            → (v : Option Value) → value_at P see t a x ≡ v → OutcomeRanked (get_value P see t f below rest a (slice_get P.fields x) v)
        get_value_ranked a x g leads None at = fault_ranked fault.Null
        get_value_ranked a x g leads (Some v) at = go (access_kind P see t false a (slice_get P.fields x)) (v ∷ under f.operands) rest (get_path P x (top_path os) ∷ under_path os)
            (read_leads a (top_path os) x v leads at (leads_on (slice_get P.fields x)) refl, once) g (λ b. refl)

        pub leads_top : (a : Address) → address_of (top f.operands) ≡ Some a → LeadsTo P (machine_memory P see.object_at) (env_of f.slots) (top_path os) (value.Ref a)
        leads_top a at = subst (LeadsTo P (machine_memory P see.object_at) (env_of f.slots) (top_path os)) (address_is (top f.operands) a at) (each_top P (machine_memory P see.object_at) (env_of f.slots) os f.operands known)

        pub get_ranked : (x : ℕ) → Walked rest (env_of f.slots) (get_path P x (top_path os) ∷ under_path os) → (o : Option Address) → address_of (top f.operands) ≡ o → OutcomeRanked (get P see t f below rest x o)
        get_ranked x g None at = fault_ranked fault.Null
        get_ranked x g (Some a) at = get_value_ranked a x g (leads_top a at) (value_at P see t a x) refl

        if_else : (b : Bool) (o : Option Value) (v : Value) → (if b then None else o) ≡ Some v → (b ≡ false) × (o ≡ Some v)
        if_else true o v e = absurd (none-some v e)
        if_else false o v e = (refl, e)

        put_value_ranked : (x : ℕ) (a : Address) → Walked rest (env_of f.slots) (under_path (under_path os)) → (field : Option Field) → slice_get P.fields x ≡ field → (old : Option Value) → unless_final field (value_at P see t a x) ≡ old
            → OutcomeRanked (put_value P see t f below rest a field old)
        put_value_ranked x a g field at None has = fault_ranked fault.Null
        put_value_ranked x a g None at (Some old) has = absurd (none-some old has)
        put_value_ranked x a g (Some fl) at (Some old) has =
            let parts = if_else fl.is_final (value_at P see t a x) old has in
            go_with (access_kind P see t true a (Some fl)) (under (under f.operands)) rest (under_path (under_path os)) (FieldIs a fl.index (top f.operands)) twice g (λ b. refl)
            (put_grows P see.object_at a x fl (top f.operands) old at parts.0 (ap (λ o. field_value P x (see.object_at a) o) (sym at) ∙ parts.1)) refl tt

        pub put_ranked : (x : ℕ) → Walked rest (env_of f.slots) (under_path (under_path os)) → (o : Option Address) → OutcomeRanked (put P see t f below rest x o)
        put_ranked x g None = fault_ranked fault.Null
        put_ranked x g (Some a) = put_value_ranked x a g (slice_get P.fields x) refl (unless_final (slice_get P.fields x) (value_at P see t a x)) refl

        pub new_ranked : (c : ℕ) → Walked rest (env_of f.slots) (None ∷ dropped_paths (final_field_count (slice_get P.classes c)) os) → see.object_at (new_address P see t f below rest) ≡ None → (o : Option Class) → slice_get P.classes c ≡ o
            → OutcomeRanked (new P see t f below rest c o)
        new_ranked c g free None at = fault_ranked fault.Null
        new_ranked c g free (Some class) at =
            go_with Both (value.Ref (new_address P see t f below rest) ∷ dropped (length class.finals) f.operands) rest (None ∷ dropped_paths (length class.finals) os)
            (ObjectIs (new_address P see t f below rest) (new_object P c (popped (length class.finals) [] f.operands)))
            (tt, each_dropped P (machine_memory P see.object_at) (env_of f.slots) (length class.finals) os f.operands known)
            (subst (λ n. Walked rest (env_of f.slots) (None ∷ dropped_paths n os)) (ap final_field_count at) g) (λ b. refl)
            (made_grows P see.object_at (new_address P see t f below rest) _ free) refl tt

        -- Starts.

        class_runs : (c m : ℕ) (o : Option Class) → slice_get P.classes c ≡ o → run_of_class o ≡ Some m → RunsFirst P m
        class_runs c m None at e = absurd (none-some m e)
        class_runs c m (Some class) at e = (c, class, at, e)

        object_runs : (m : ℕ) (o : Option ℕ) → run_of P o ≡ Some m → RunsFirst P m
        object_runs m None e = absurd (none-some m e)
        object_runs m (Some c) e = class_runs c m (slice_get P.classes c) refl e

        start_run_ranked : (a : Address) → Walked rest (env_of f.slots) (under_path os) → (o : Option ℕ) → run_of P (object_class (see.object_at a)) ≡ o → OutcomeRanked (start_run P see t f below rest a o)
        start_run_ranked a g None at = fault_ranked fault.Null
        start_run_ranked a g (Some m) at = go_with Other (under f.operands) rest (under_path os) (Starts a m) once g (λ b. refl) (grows_itself P (machine_memory P see.object_at)) refl (at_start (object_runs m (object_class (see.object_at a)) at))

        pub start_ranked : Walked rest (env_of f.slots) (under_path os) → (o : Option Address) → OutcomeRanked (start P see t f below rest o)
        start_ranked g None = fault_ranked fault.Null
        start_ranked g (Some a) = start_run_ranked a g (run_of P (object_class (see.object_at a))) refl

    -- Returns.

    pub return_ranked : ((a : Address) → held_count t (see.lock_at a) ≡ count_release a rest + count_frames a below) → first_release rest ≡ None → OutcomeRanked (return_to P see t f below rest below)
    return_ranked own none = by_frames below further own
      where
        by_frames : (fs : List Frame) → FramesRanked P rel level see.object_at fs (awaited P f.method) → ((a : Address) → held_count t (see.lock_at a) ≡ count_release a rest + count_frames a fs) → OutcomeRanked (return_to P see t f below rest fs)
        by_frames [] walked own = record {
          thread = λ a. no_more (held_count t (see.lock_at a)) (count_release a rest) 0 (own a) (none_count a rest none);
          others = λ u other b. refl;
          grows = grows_itself P (machine_memory P see.object_at);
          counted = counted;
          started = tt;
        }
        by_frames (g ∷ more) walked own = record {
          thread = (
            (
              record {
                method = walked.0.method;
                is = walked.0.is;
                paths = awaited P f.method ++ walked.0.paths;
                leads = with_lead P (machine_memory P see.object_at) (env_of g.slots) (has_result (slice_get P.methods f.method)) (top f.operands) walked.0.paths g.operands walked.0.leads;
                ranked = walked.0.ranked;
              },
              walked.1,
            ),
            λ a. no_more (held_count t (see.lock_at a)) (count_release a rest) (count_frames a (g ∷ more)) (own a) (none_count a rest none),
          );
          others = λ u other b. refl;
          grows = grows_itself P (machine_memory P see.object_at);
          counted = counted;
          started = tt;
        }
