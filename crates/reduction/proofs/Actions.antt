-- A step by each action but calls.
use Rattle.std.proofs.Common.{◌≡◌, ℕ, ◌+◌, Bool, true, false, ◌||◌, ◌==◌, List, [], ◌∷◌, Some, None, refl, sym, ap, subst, ◌∙◌, arith}
use Rattle.std.specs.Prelude.{Option, slice_get, slice_set, unwrap_or, nat_lt, length, if◌then◌else◌}
use Rattle.std.proofs.lemmas.Bool.Decides.{nat_tests}
use Rattle.std.proofs.lemmas.Bool.{or_parts}
use Rattle.std.proofs.lemmas.Option.{same_Some}
use Rattle.paths.specs.Paths.{PathData, extended, extended_some}
use Rattle.algebra.specs.declared.basic.Basic.{Basic}
use Rattle.algebra.specs.declared.basic.Basic.TheVariants.{Atomic}
use Rattle.algebra.specs.Basics.{below_of, seq_of, join_of, star_of}
use Rattle.core_program.specs.Core as core
use Rattle.core_program.specs.Core.{Program, Expr, Stmt, WhileS}
use Rattle.core_program.specs.Locks.{leads_on, get_path, path_of}
use Rattle.rules.specs.Effect.{Assignment, access_of, expr_effect, effect}
use Rattle.rules.specs.Rules.{AtMost}
use Rattle.rules.proofs.BasicLemmas.{every, each}
use Rattle.state.specs.declared.value.Address.{Address}
use Rattle.state.specs.declared.value.Value.{Value}
use Rattle.state.specs.declared.value.Value.TheVariants as value
use Rattle.state.specs.declared.value.Fault.{Fault}
use Rattle.state.specs.declared.value.Fault.TheVariants as fault
use Rattle.state.specs.declared.value.StepKind.{StepKind}
use Rattle.state.specs.declared.value.StepKind.TheVariants.{Both, Other}
use Rattle.state.specs.Values.{top, under, dropped, as_int, address_of}
use Rattle.state.specs.Memory.{Hold, field_value}
use Rattle.state.specs.Work as W
use Rattle.state.specs.Work.{Item, Ex, St}
use Rattle.state.specs.States.{Frame}
use Rattle.semantics.specs.Step.{Change, Nothing, FieldIs, ObjectIs, Prints, Starts, Shared, object_class, run_of, run_of_class, unless_final, value_at, access_kind, faults, goes_on, load, store, binary, and_then, or_else, choose, loop, get, get_value, put, put_value, new, new_address, start, start_run}
use Rattle.semantics.specs.Locking.{holds}
use Rattle.reduction.specs.Phases.{Phase, PassesPart, phase_of, allowed, stepped, IsDownClosed}
use Rattle.reduction.specs.Leads.{Env, env_of, with_slot, machine_memory, Grows, next_value, lead, Paths, LeadsTo, MayLeadTo, top_path, under_path, dropped_paths}
use Rattle.reduction.specs.Fits.{At, SlotsAgree, Fresh, TidyE, valued, stores, has_release, count_release, awaited, final_field_count, FitsAct, FitsPhase}
use Rattle.reduction.specs.Safe.{LeadEach, FramesFit, Owns, frames_inside, outer_phase, releases_in_work, count_frames, held_count, IsFree}
use Rattle.reduction.proofs.PhaseLemmas.{le_itself, passes_map, passes_falls, passes_rises, passes_seq, passes_join, atomic_stays, atomic_allows, both_allowed, phase_stepped, turn_below}
use Rattle.reduction.proofs.LeadLemmas.{grows_itself, each_top, each_under, each_dropped, leads_from}
use Rattle.reduction.proofs.FitLemmas.{fits_falls}
use Rattle.reduction.proofs.SetLemmas.{sound_kept, extended_is}
use Rattle.reduction.proofs.PushedPaths.{on_pushed}
use Rattle.reduction.specs.Turn.{Accepted, StartFine, Fine}
use Rattle.semantics.specs.Changes.{objects_after, locks_after}
use Rattle.reduction.proofs.Frames.{frames_move, outer_falls}
use Rattle.reduction.proofs.FrameLemmas.{held_counts, stored, put_grows, made_grows}
use Rattle.reduction.proofs.Accesses.{access_admits}

-- Basics.

pub join_left : (a b : Basic) → AtMost a (join_of a b)
join_left a b = each (λ b. below_of a (join_of a b)) (each (λ a. every (λ b. below_of a (join_of a b))) refl a) b

pub join_right : (a b : Basic) → AtMost b (join_of a b)
join_right a b = each (λ b. below_of b (join_of a b)) (each (λ a. every (λ b. below_of b (join_of a b))) refl a) b

pub address_is : (v : Value) (a : Address) → address_of v ≡ Some a → v ≡ value.Ref a
address_is (value.Ref b) a e = ap value.Ref (same_Some _ _ e)
address_is (value.Int n) a e = absurd (let k : None ≡ Some a = e in cc)
address_is (value.Truth b) a e = absurd (let k : None ≡ Some a = e in cc)
address_is value.Null a e = absurd (let k : None ≡ Some a = e in cc)

held_at_least : (b : Bool) (n m : ℕ) → (if b then n else 0) ≡ m → nat_lt 0 m ≡ true → b ≡ true
held_at_least true n m e less = refl
held_at_least false n m e less = grind (arith, nat_tests)

-- who holds a lock at least once holds it
pub counted_holds : (t : ℕ) (o : Option Hold) (n : ℕ) → held_count t o ≡ n → nat_lt 0 n ≡ true → holds t o ≡ true
counted_holds t None n e less = grind (arith, nat_tests)
counted_holds t (Some hold) n e less = held_at_least (hold.holder == t) hold.count n e less

module _ (P : Program) (rel : ℕ → List PathData) (A : Assignment) (see : Shared) (t : ℕ) (f : Frame) (below : List Frame) (rest : List Item) (flag : Bool)
    (own_frame : Owns t (f ∷ below) see.lock_at) where
  abbrev stands : Bool
  stands = frames_inside P (f ∷ below)

  abbrev now : Phase
  now = phase_of stands flag

  abbrev slots : Env
  slots = env_of f.slots

  abbrev K : Phase → Type 0
  K next = FramesFit P rel A (machine_memory P see.object_at) below (awaited P f.method) (outer_phase P below next)

  abbrev List_fits : List Item → Env → Phase → Paths → Type 0
  List_fits work env p os = FitsPhase P rel A (machine_memory P see.object_at) (releases_in_work below) K work env p os

  pub K_falls : IsDownClosed K
  K_falls p q small k = frames_move P rel A (machine_memory P see.object_at) (machine_memory P see.object_at) (grows_itself P (machine_memory P see.object_at)) below (awaited P f.method) _ _ (outer_falls P below p q small) k

  pub list_falls : (work : List Item) (env : Env) (os : Paths) → IsDownClosed (λ p. List_fits work env p os)
  list_falls work env os = fits_falls P rel A (machine_memory P see.object_at) (releases_in_work below) K K_falls work env os

  -- a fault changes nothing but the thread's status
  pub fault_fine : (why : Fault) → Fine P rel A see t stands flag (faults P see t f below rest why)
  fault_fine why = record { kind = both_allowed now; thread = own_frame; grows = grows_itself P (machine_memory P see.object_at); others = λ u other b. refl; started = tt }

  module _ (own_rest : (a : Address) → held_count t (see.lock_at a) ≡ count_release a rest + count_frames a below) where
    -- the frame goes on, with a change that leaves final fields and locks as they are
    pub go_with : (kind : StepKind) (operands : List Value) (work : List Item) (os : Paths) (change : Change) → allowed now kind ≡ true → LeadEach P (machine_memory P see.object_at) slots os operands
        → List_fits work slots (stepped kind now) os → ((a : Address) → count_release a work ≡ count_release a rest)
        → Grows P (machine_memory P see.object_at) (machine_memory P (objects_after change see.object_at)) → ((b : Address) → locks_after change see.lock_at b ≡ see.lock_at b) → StartFine P change
        → Fine P rel A see t stands flag (goes_on P see t f below rest kind operands work change)
    go_with kind operands work os change allow lead fits count grows same starts = record {
      kind = allow;
      thread = (
        frames_move P rel A (machine_memory P see.object_at) (machine_memory P (objects_after change see.object_at)) grows (record f { operands = operands; work = work } ∷ below) [] _ _ (le_itself _)
            (subst (λ p. FramesFit P rel A (machine_memory P see.object_at) (record f { operands = operands; work = work } ∷ below) [] p) (sym (phase_stepped stands flag kind)) (record { paths = os; lead = lead; fits = fits })),
        λ a. ap (held_count t) (same a) ∙ own_rest a ∙ ap (λ n. n + count_frames a below) (sym (count a)),
      );
      grows = grows;
      others = λ u other b. ap (held_count u) (same b);
      started = starts;
    }

    pub go : (kind : StepKind) (operands : List Value) (work : List Item) (os : Paths) → allowed now kind ≡ true → LeadEach P (machine_memory P see.object_at) slots os operands
        → List_fits work slots (stepped kind now) os → ((a : Address) → count_release a work ≡ count_release a rest) → Fine P rel A see t stands flag (goes_on P see t f below rest kind operands work Nothing)
    go kind operands work os allow lead fits count = go_with kind operands work os Nothing allow lead fits count (grows_itself P (machine_memory P see.object_at)) (λ b. refl) tt

    module _ (os : Paths) (known : LeadEach P (machine_memory P see.object_at) slots os f.operands) where
      once_under : LeadEach P (machine_memory P see.object_at) slots (under_path os) (under f.operands)
      once_under = each_under P (machine_memory P see.object_at) slots os f.operands known

      twice_under : LeadEach P (machine_memory P see.object_at) slots (under_path (under_path os)) (under (under f.operands))
      twice_under = each_under P (machine_memory P see.object_at) slots (under_path os) (under f.operands) once_under

      pub push_fine : (v : Value) → List_fits rest slots now (None ∷ os) → Fine P rel A see t stands flag (goes_on P see t f below rest Both (v ∷ f.operands) rest Nothing)
      push_fine v fits = go Both (v ∷ f.operands) rest (None ∷ os) (both_allowed now) (tt, known) fits (λ a. refl)

      pub load_fine : (x : ℕ) (o : Option PathData) → LeadsTo P (machine_memory P see.object_at) slots o (slots x) → List_fits rest slots now (o ∷ os) → (v : Option Value) → slice_get f.slots x ≡ v → Fine P rel A see t stands flag (load P see t f below rest v)
      load_fine x o leads fits None is = fault_fine fault.Null
      load_fine x o leads fits (Some v) is = go Both (v ∷ f.operands) rest (o ∷ os) (both_allowed now) (subst (LeadsTo P (machine_memory P see.object_at) slots o) (ap (λ z. unwrap_or z value.Null) is) leads, known) fits (λ a. refl)

      may_of : (o : Option PathData) (v : Value) → LeadsTo P (machine_memory P see.object_at) slots o v → MayLeadTo P (machine_memory P see.object_at) slots o v
      may_of None v leads = tt
      may_of (Some p) v leads = λ w is. same_Some _ _ (sym leads ∙ is)

      pub store_fine : (x : ℕ) → ((v : Value) → MayLeadTo P (machine_memory P see.object_at) slots (top_path os) v → List_fits rest (with_slot slots x v) now []) → (old : Option Value) → slice_get f.slots x ≡ old → Fine P rel A see t stands flag (store P see t f below rest x old)
      store_fine x fits None is = fault_fine fault.Null
      store_fine x fits (Some old) is = record {
        kind = both_allowed now;
        thread = (
          subst (λ p. FramesFit P rel A (machine_memory P see.object_at) (record f { slots = slice_set f.slots x (top f.operands); operands = under f.operands; work = rest } ∷ below) [] p) (sym (phase_stepped stands flag Both))
              (record {
                paths = [];
                lead = tt;
                fits = subst (λ env. List_fits rest env now []) (sym (stored f.slots x (top f.operands) old is))
                    (fits (top f.operands) (may_of (top_path os) (top f.operands) (each_top P (machine_memory P see.object_at) slots os f.operands known)));
              }),
          own_rest,
        );
        grows = grows_itself P (machine_memory P see.object_at);
        others = λ u other b. refl;
        started = tt;
      }

      pub drop_fine : List_fits rest slots now (under_path os) → Fine P rel A see t stands flag (goes_on P see t f below rest Both (under f.operands) rest Nothing)
      drop_fine fits = go Both (under f.operands) rest (under_path os) (both_allowed now) once_under fits (λ a. refl)

      pub unary_fine : (v : Value) → List_fits rest slots now (None ∷ under_path os) → Fine P rel A see t stands flag (goes_on P see t f below rest Both (v ∷ under f.operands) rest Nothing)
      unary_fine v fits = go Both (v ∷ under f.operands) rest (None ∷ under_path os) (both_allowed now) (tt, once_under) fits (λ a. refl)

      pub binary_fine : List_fits rest slots now (None ∷ under_path (under_path os)) → (v : Option Value) → Fine P rel A see t stands flag (binary P see t f below rest v)
      binary_fine fits None = fault_fine fault.Zero
      binary_fine fits (Some v) = go Both (v ∷ under (under f.operands)) rest (None ∷ under_path (under_path os)) (both_allowed now) (tt, twice_under) fits (λ a. refl)

      -- the second part of `&&` and `||`
      second_fits : (e : Expr) → At P (machine_memory P see.object_at) (releases_in_work below) slots rest (λ H. (valued P e ≡ true) × TidyE P e × (path_of P e ≡ None) × PassesPart now (expr_effect P rel A e H) (λ later. List_fits rest slots later (None ∷ under_path os)))
          → List_fits (Ex e ∷ rest) slots now (under_path os)
      second_fits e a = record {
        set = a.set;
        sound = a.sound;
        rest = (
          a.rest.1,
          passes_map (λ q. List_fits rest slots q (None ∷ under_path os)) _ now (expr_effect P rel A e a.set)
              (λ q g. on_pushed P (λ z. List_fits rest slots q z) e (under_path os) a.rest.0 (subst (λ o. List_fits rest slots q (o ∷ under_path os)) (sym a.rest.2) g)) a.rest.3,
        );
      }

      pub and_fine : (e : Expr) → At P (machine_memory P see.object_at) (releases_in_work below) slots rest (λ H. (valued P e ≡ true) × TidyE P e × (path_of P e ≡ None) × PassesPart now (expr_effect P rel A e H) (λ later. List_fits rest slots later (None ∷ under_path os)))
          → (b : Bool) → Fine P rel A see t stands flag (and_then P see t f below rest e b)
      and_fine e a true = go Both (under f.operands) (Ex e ∷ rest) (under_path os) (both_allowed now) once_under (second_fits e a) (λ a. refl)
      and_fine e a false = go Both (value.Truth false ∷ under f.operands) rest (None ∷ under_path os) (both_allowed now) (tt, once_under)
          (passes_rises (λ q. List_fits rest slots q (None ∷ under_path os)) now (expr_effect P rel A e a.set) (list_falls rest slots (None ∷ under_path os)) a.rest.3) (λ a. refl)

      pub or_fine : (e : Expr) → At P (machine_memory P see.object_at) (releases_in_work below) slots rest (λ H. (valued P e ≡ true) × TidyE P e × (path_of P e ≡ None) × PassesPart now (expr_effect P rel A e H) (λ later. List_fits rest slots later (None ∷ under_path os)))
          → (b : Bool) → Fine P rel A see t stands flag (or_else P see t f below rest e b)
      or_fine e a false = go Both (under f.operands) (Ex e ∷ rest) (under_path os) (both_allowed now) once_under (second_fits e a) (λ a. refl)
      or_fine e a true = go Both (value.Truth true ∷ under f.operands) rest (None ∷ under_path os) (both_allowed now) (tt, once_under)
          (passes_rises (λ q. List_fits rest slots q (None ∷ under_path os)) now (expr_effect P rel A e a.set) (list_falls rest slots (None ∷ under_path os)) a.rest.3) (λ a. refl)

      -- what stands after a part that changes only these slots
      abbrev Leaves : (ℕ → Bool) → Env → Phase → Type 0
      Leaves test env q = (later : Env) → ((y : ℕ) → test y ≡ false → later y ≡ env y) → List_fits rest later q []

      leaves_falls : (test : ℕ → Bool) (env : Env) → IsDownClosed (Leaves test env)
      leaves_falls test env p q small g later kept = list_falls rest later [] p q small (g later kept)

      pub choose_fine : (s u : Stmt) → FitsAct P rel A (machine_memory P see.object_at) (releases_in_work below) K (W.Choose s u) rest (List_fits rest) slots now os → (b : Bool) → Fine P rel A see t stands flag (choose P see t f below rest s u b)
      choose_fine s u a true = go Both (under f.operands) (St s ∷ rest) [] (both_allowed now) tt (record {
        set = a.set;
        sound = a.sound;
        rest = (
          a.rest.0,
          a.rest.2,
          passes_falls (Leaves (λ y. stores s y || stores u y) slots) _ now now (effect P rel A s a.set) (join_of (effect P rel A s a.set) (effect P rel A u a.set)) (le_itself now) (join_left (effect P rel A s a.set) (effect P rel A u a.set))
              (λ p q small g later agrees. leaves_falls (λ y. stores s y || stores u y) slots p q small g later (λ y other. agrees.kept y ((or_parts (stores s y) (stores u y) other).0))) a.rest.4,
        );
      }) (λ a. refl)
      choose_fine s u a false = go Both (under f.operands) (St u ∷ rest) [] (both_allowed now) tt (record {
        set = a.set;
        sound = a.sound;
        rest = (
          a.rest.1,
          a.rest.3,
          passes_falls (Leaves (λ y. stores s y || stores u y) slots) _ now now (effect P rel A u a.set) (join_of (effect P rel A s a.set) (effect P rel A u a.set)) (le_itself now) (join_right (effect P rel A s a.set) (effect P rel A u a.set))
              (λ p q small g later agrees. leaves_falls (λ y. stores s y || stores u y) slots p q small g later (λ y other. agrees.kept y ((or_parts (stores s y) (stores u y) other).1))) a.rest.4,
        );
      }) (λ a. refl)

      pub loop_fine : (e : Expr) (s : Stmt) → FitsAct P rel A (machine_memory P see.object_at) (releases_in_work below) K (W.Loop e s) rest (List_fits rest) slots now os → (b : Bool) → Fine P rel A see t stands flag (loop P see t f below rest e s b)
      loop_fine e s a true =
          let fresh : Fresh a.set s = a.rest.0 in
          let body = effect P rel A s a.set in
          let test = expr_effect P rel A e a.set in
          let turn = passes_falls (Leaves (stores s) slots) (Leaves (stores s) slots) now now (seq_of (seq_of body test) (star_of (seq_of body test))) (star_of (seq_of body test)) (le_itself now) (turn_below (seq_of body test)) (leaves_falls (stores s) slots) a.rest.4 in
          let parts = passes_seq (Leaves (stores s) slots) now (seq_of body test) (star_of (seq_of body test)) turn in
          let three = passes_seq (λ q. PassesPart q (star_of (seq_of body test)) (Leaves (stores s) slots)) now body test parts in
          go Both (under f.operands) (St s ∷ St (WhileS e s) ∷ rest) [] (both_allowed now) tt (record {
            set = a.set;
            sound = a.sound;
            rest = (
              a.rest.0,
              a.rest.3,
              passes_map (λ q. PassesPart q test (λ x. PassesPart x (star_of (seq_of body test)) (Leaves (stores s) slots))) _ now body
                  (λ q g later agrees. record {
                    set = a.set;
                    sound = sound_kept P (machine_memory P see.object_at) slots later (λ b. has_release b rest || releases_in_work below b) a.set (λ path has. agrees.kept path.root (fresh.at path has)) a.sound;
                    rest = (
                      record { at = λ path has. fresh.at path has },
                      (a.rest.1, a.rest.2, a.rest.3),
                      whole_turn later q test (star_of (seq_of body test)) (λ y other. agrees.kept y other) g,
                    );
                  }) three,
            );
          }) (λ a. refl)
        where
          whole_turn : (later : Env) (q : Phase) (x y : Basic) → ((z : ℕ) → stores s z ≡ false → later z ≡ slots z) → PassesPart q x (λ z. PassesPart z y (Leaves (stores s) slots))
              → PassesPart q (seq_of x y) (λ z. (last : Env) → SlotsAgree P (machine_memory P see.object_at) (WhileS e s) later last → List_fits rest last z [])
          whole_turn later q x y kept r = passes_join _ q x y (passes_map (λ z. PassesPart z y (Leaves (stores s) slots)) _ q x
              (λ z g. passes_map (Leaves (stores s) slots) _ z y (λ w k last agrees. k last (λ v other. agrees.kept v other ∙ kept v other)) g) r)
      loop_fine e s a false = go Both (under f.operands) rest [] (both_allowed now) tt
          (passes_rises (Leaves (stores s) slots) now (star_of (seq_of (effect P rel A s a.set) (expr_effect P rel A e a.set))) (leaves_falls (stores s) slots) a.rest.4 slots (λ y other. refl)) (λ a. refl)

      -- Accesses.

      sure : (b : Address) → (has_release b rest || releases_in_work below b) ≡ true → holds t (see.lock_at b) ≡ true
      sure b has = counted_holds t (see.lock_at b) (count_release b rest + count_frames b below) (own_rest b) (sym (held_counts b rest below) ∙ has)

      module _ (a : Address) where
        path_leads : (p : PathData) (x : ℕ) (v : Value) → lead P (machine_memory P see.object_at) slots p ≡ Some (value.Ref a) → next_value P (machine_memory P see.object_at) (value.Ref a) x ≡ Some v
            → (q : Option PathData) → extended p (x ∷ []) ≡ q → LeadsTo P (machine_memory P see.object_at) slots q v
        path_leads p x v leads next None is = tt
        path_leads p x v leads next (Some q) is =
            ap (λ y. lead P (machine_memory P see.object_at) slots y) (sym (extended_is p (x ∷ []) q is))
            ∙ leads_from P (machine_memory P see.object_at) slots p (value.Ref a) (x ∷ []) leads ∙ ap (λ o. Rattle.std.specs.Prelude.option_and_then (λ w. Some w) o) next

        some_path_leads : (o : Option PathData) (x : ℕ) (v : Value) → LeadsTo P (machine_memory P see.object_at) slots o (value.Ref a) → next_value P (machine_memory P see.object_at) (value.Ref a) x ≡ Some v
            → LeadsTo P (machine_memory P see.object_at) slots (extended_some o (x ∷ [])) v
        some_path_leads None x v leads next = tt
        some_path_leads (Some p) x v leads next = path_leads p x v leads next (extended p (x ∷ [])) refl

        -- the path of a field that was read leads to its value
        read_leads : (o : Option PathData) (x : ℕ) (v : Value) → LeadsTo P (machine_memory P see.object_at) slots o (value.Ref a) → value_at P see t a x ≡ Some v
            → (b : Bool) → leads_on (slice_get P.fields x) ≡ b → LeadsTo P (machine_memory P see.object_at) slots (if b then extended_some o (x ∷ []) else None) v
        read_leads o x v leads is true on = some_path_leads o x v leads (ap (λ b. if b then machine_memory P see.object_at a x else None) on ∙ is)
        read_leads o x v leads is false on = tt

        get_value_fine : (x : ℕ) (at : At P (machine_memory P see.object_at) (releases_in_work below) slots rest (λ H. PassesPart now (access_of P false x (top_path os) H) (λ next. List_fits rest slots next (get_path P x (top_path os) ∷ under_path os))))
            → LeadsTo P (machine_memory P see.object_at) slots (top_path os) (value.Ref a) → (v : Option Value) → value_at P see t a x ≡ v → Fine P rel A see t stands flag (get_value P see t f below rest a (slice_get P.fields x) v)
        get_value_fine x at leads None is = fault_fine fault.Null
        get_value_fine x at leads (Some v) is =
            let admits = access_admits P see t slots at.set (λ b. has_release b rest || releases_in_work below b) at.sound sure (top_path os) a leads
            (λ next. List_fits rest slots next (get_path P x (top_path os) ∷ under_path os)) (list_falls rest slots (get_path P x (top_path os) ∷ under_path os)) now false (slice_get P.fields x) at.rest in
            go (access_kind P see t false a (slice_get P.fields x)) (v ∷ under f.operands) rest (get_path P x (top_path os) ∷ under_path os) admits.0
            (read_leads (top_path os) x v leads is (leads_on (slice_get P.fields x)) refl, once_under) admits.1 (λ b. refl)

      leads_top : (a : Address) → address_of (top f.operands) ≡ Some a → LeadsTo P (machine_memory P see.object_at) slots (top_path os) (value.Ref a)
      leads_top a is = subst (LeadsTo P (machine_memory P see.object_at) slots (top_path os)) (address_is (top f.operands) a is) (each_top P (machine_memory P see.object_at) slots os f.operands known)

      pub get_fine : (x : ℕ) → FitsAct P rel A (machine_memory P see.object_at) (releases_in_work below) K (W.Get x) rest (List_fits rest) slots now os → (o : Option Address) → address_of (top f.operands) ≡ o → Fine P rel A see t stands flag (get P see t f below rest x o)
      get_fine x at None is = fault_fine fault.Null
      get_fine x at (Some a) is = get_value_fine a x at (leads_top a is) (value_at P see t a x) refl

      if_else : (b : Bool) (o : Option Value) (v : Value) → (if b then None else o) ≡ Some v → (b ≡ false) × (o ≡ Some v)
      if_else true o v e = absurd (let k : None ≡ Some v = e in cc)
      if_else false o v e = (refl, e)

      put_value_fine : (x : ℕ) (a : Address) (at : FitsAct P rel A (machine_memory P see.object_at) (releases_in_work below) K (W.Put x) rest (List_fits rest) slots now os)
          → LeadsTo P (machine_memory P see.object_at) slots (top_path (under_path os)) (value.Ref a) → (field : Option core.Field) → slice_get P.fields x ≡ field
          → (old : Option Value) → unless_final field (value_at P see t a x) ≡ old → Fine P rel A see t stands flag (put_value P see t f below rest a field old)
      put_value_fine x a at leads field is None has = fault_fine fault.Null
      put_value_fine x a at leads None is (Some old) has =
          absurd (Rattle.reduction.proofs.PhaseLemmas.no_error _ now (subst (λ o. PassesPart now (Rattle.rules.specs.Effect.access_effect true (Rattle.rules.specs.Guards.field_guard o (top_path (under_path os))) at.set) (λ next. List_fits rest slots next (under_path (under_path os)))) is at.rest))
      put_value_fine x a at leads (Some fl) is (Some old) has =
          let admits = access_admits P see t slots at.set (λ b. has_release b rest || releases_in_work below b) at.sound sure (top_path (under_path os)) a leads
          (λ next. List_fits rest slots next (under_path (under_path os))) (list_falls rest slots (under_path (under_path os))) now true (Some fl)
          (subst (λ o. PassesPart now (Rattle.rules.specs.Effect.access_effect true (Rattle.rules.specs.Guards.field_guard o (top_path (under_path os))) at.set) (λ next. List_fits rest slots next (under_path (under_path os)))) is at.rest) in
          let parts = if_else fl.is_final (value_at P see t a x) old has in
          go_with (access_kind P see t true a (Some fl)) (under (under f.operands)) rest (under_path (under_path os)) (FieldIs a fl.index (top f.operands)) admits.0 twice_under admits.1 (λ b. refl)
          (put_grows P see.object_at a x fl (top f.operands) old is parts.0 (ap (λ o. field_value P x (see.object_at a) o) (sym is) ∙ parts.1)) (λ b. refl) tt

      pub put_fine : (x : ℕ) → FitsAct P rel A (machine_memory P see.object_at) (releases_in_work below) K (W.Put x) rest (List_fits rest) slots now os → (o : Option Address) → address_of (top (under f.operands)) ≡ o → Fine P rel A see t stands flag (put P see t f below rest x o)
      put_fine x at None is = fault_fine fault.Null
      put_fine x at (Some a) is = put_value_fine x a at
          (subst (LeadsTo P (machine_memory P see.object_at) slots (top_path (under_path os))) (address_is (top (under f.operands)) a is) (each_top P (machine_memory P see.object_at) slots (under_path os) (under f.operands) once_under))
          (slice_get P.fields x) refl (unless_final (slice_get P.fields x) (value_at P see t a x)) refl

      pub new_fine : (c : ℕ) → List_fits rest slots now (None ∷ dropped_paths (final_field_count (slice_get P.classes c)) os) → see.object_at (new_address P see t f below rest) ≡ None
          → (o : Option core.Class) → slice_get P.classes c ≡ o → Fine P rel A see t stands flag (new P see t f below rest c o)
      new_fine c fits free None is = fault_fine fault.Null
      new_fine c fits free (Some class) is =
          go_with Both (value.Ref (new_address P see t f below rest) ∷ dropped (length class.finals) f.operands) rest (None ∷ dropped_paths (length class.finals) os)
          (ObjectIs (new_address P see t f below rest) (Rattle.state.specs.States.new_object P c (Rattle.state.specs.Values.popped (length class.finals) [] f.operands))) (both_allowed now)
          (tt, each_dropped P (machine_memory P see.object_at) slots (length class.finals) os f.operands known)
          (subst (λ n. List_fits rest slots now (None ∷ dropped_paths n os)) (ap final_field_count is) fits) (λ b. refl)
          (made_grows P see.object_at (new_address P see t f below rest) _ free) (λ b. refl) tt

      pub print_fine : PassesPart now Atomic (λ next. List_fits rest slots next (under_path os)) → Fine P rel A see t stands flag (goes_on P see t f below rest Other (under f.operands) rest (Prints (as_int (top f.operands))))
      print_fine r = go_with Other (under f.operands) rest (under_path os) (Prints (as_int (top f.operands))) (atomic_allows _ now r) once_under (atomic_stays _ now r) (λ b. refl)
          (grows_itself P (machine_memory P see.object_at)) (λ b. refl) tt

      module _ (accepted : Accepted P rel A) where
        class_run : (c : ℕ) (o : Option core.Class) (m : ℕ) → slice_get P.classes c ≡ o → run_of_class o ≡ Some m → IsFree P m
        class_run c None m is e = absurd (let k : None ≡ Some m = e in cc)
        class_run c (Some class) m is e = accepted.run c class m is e

        object_run : (o : Option ℕ) (m : ℕ) → run_of P o ≡ Some m → IsFree P m
        object_run None m e = absurd (let k : None ≡ Some m = e in cc)
        object_run (Some c) m e = class_run c (slice_get P.classes c) m refl e

        start_run_fine : (a : Address) → PassesPart now Atomic (λ next. List_fits rest slots next (under_path os)) → (o : Option ℕ) → run_of P (object_class (see.object_at a)) ≡ o → Fine P rel A see t stands flag (start_run P see t f below rest a o)
        start_run_fine a r None is = fault_fine fault.Null
        start_run_fine a r (Some m) is = go_with Other (under f.operands) rest (under_path os) (Starts a m) (atomic_allows _ now r) once_under (atomic_stays _ now r) (λ b. refl)
            (grows_itself P (machine_memory P see.object_at)) (λ b. refl) (object_run (object_class (see.object_at a)) m is)

        pub start_fine : PassesPart now Atomic (λ next. List_fits rest slots next (under_path os)) → (o : Option Address) → Fine P rel A see t stands flag (start P see t f below rest o)
        start_fine r None = fault_fine fault.Null
        start_fine r (Some a) = start_run_fine a r (run_of P (object_class (see.object_at a))) refl
