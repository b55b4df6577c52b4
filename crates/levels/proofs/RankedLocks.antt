-- A thread's turn that takes a lock or gives one back leaves it walked, in the heap before the turn.
use Rattle.std.proofs.Common.{◌≡◌, ◌≤◌, ◌<◌, ℕ, ◌+◌, ◌-◌, Bool, true, false, ◌||◌, ◌==◌, List, [], ◌∷◌, Some, None, refl, sym, ap, subst, ◌∙◌, arith}
use Rattle.std.specs.Prelude.{Option, slice_get, unwrap_or, nat_lt, max, if◌then◌else◌}
use Rattle.std.proofs.lemmas.Bool.Decides.{nat_tests}
use Rattle.std.proofs.lemmas.Bool.{eq-eqb, cond-true, cond-false}
use Rattle.std.proofs.lemmas.Option.{none-some, same_Some}
use Rattle.base.proofs.Options.{then_parts, if_taken}
use Rattle.base.proofs.NumberLemmas.{eqb_turned}
use Rattle.paths.specs.Paths.{PathData, path_eq}
use Rattle.paths.proofs.PathOrder.{eq_is}
use Rattle.algebra.specs.HeldPaths.{Held, with_path}
use Rattle.core_program.specs.declared.types.CoreType.{CoreType}
use Rattle.core_program.specs.declared.types.CoreType.TheVariants as type
use Rattle.core_program.specs.Core.{Program, Class, Field, Method, Stmt}
use Rattle.core_program.specs.Locks.{leads_on}
use Rattle.core_program.specs.Types.{field_type}
use Rattle.state.specs.declared.value.Address.{Address}
use Rattle.state.specs.declared.value.Value.{Value}
use Rattle.state.specs.declared.value.Value.TheVariants as value
use Rattle.state.specs.declared.value.Fault.{Fault}
use Rattle.state.specs.declared.value.Fault.TheVariants as fault
use Rattle.state.specs.declared.value.StepKind.{StepKind}
use Rattle.state.specs.declared.value.StepKind.TheVariants.{Both, Right}
use Rattle.state.specs.Values.{top, under, address_of, address_eq}
use Rattle.state.specs.Memory.{Object, Hold, field_value}
use Rattle.state.specs.Work as W
use Rattle.state.specs.Work.{Item, St, Act}
use Rattle.state.specs.States.{Frame}
use Rattle.semantics.specs.Locking.{taken_again, given_back}
use Rattle.semantics.specs.Step.{Shared, faults, takes, take_held, take, acquire, release_held, release}
use Rattle.semantics.proofs.Changed.{same_address, address_itself}
use Rattle.reduction.specs.Leads.{Env, env_of, machine_memory, next_value, lead_from, lead, Paths, LeadsTo, top_path}
use Rattle.reduction.specs.Fits.{Fresh, TidyS, stores, has_release, count_release, awaited}
use Rattle.reduction.specs.Safe.{LeadEach, Owns, releases_in_work, count_frames, held_count}
use Rattle.reduction.proofs.LeadLemmas.{grows_itself}
use Rattle.reduction.proofs.LockActions.{not_both, one_of, one_more, one_less, none_left}
use Rattle.levels.specs.SlotTypes.{SlotType, slot_types, IsMarked, Has}
use Rattle.levels.specs.TypedStates.{IsTypedHeap, AreTypedSlots}
use Rattle.levels.specs.Walks.{LevelVisit, Bad, class_of_slot, last_type, lock_class, sync_visits, visits}
use Rattle.levels.proofs.Ranked.{IsUnder, Stands, Fine, RankedAct, Ranked, FramesRanked, AreCounted}
use Rattle.levels.proofs.RankedSteps.{IsOrderedProgram, OutcomeRanked, fault_ranked, leads_top}

-- Numbers.

still_held : (n : ℕ) → nat_lt 1 n ≡ true → 0 < n - 1
still_held n less = grind (arith, nat_tests)

held_once_more : (n : ℕ) → 0 < n + 1
held_once_more n = omega arith

-- Locks by their types.

module _ (P : Program) (level : ℕ → ℕ) (objects : Address → Option Object) (heap : IsTypedHeap P level objects) where
  read_has : (a : Address) (x : ℕ) (v : Value) (field : Option Field) → slice_get P.fields x ≡ field → (o : Option Object) → objects a ≡ o → field_value P x o field ≡ Some v → Has level objects (field_type field) v
  read_has a x v field at None none e = absurd (none-some v e)
  read_has a x v None at (Some o) there e = absurd (none-some v e)
  read_has a x v (Some field) at (Some o) there e = heap a x field v at (ap (λ z. field_value P x z (Some field)) there ∙ e)

  next_has : (v : Value) (f : ℕ) (w : Value) → next_value P (machine_memory P objects) v f ≡ Some w → Has level objects (field_type (slice_get P.fields f)) w
  next_has (value.Ref a) f w e = read_has a f w (slice_get P.fields f) refl (objects a) refl (if_taken (leads_on (slice_get P.fields f)) (machine_memory P objects a f) w e).1
  next_has (value.Int n) f w e = absurd (none-some w e)
  next_has (value.Truth b) f w e = absurd (none-some w e)
  next_has value.Null f w e = absurd (none-some w e)

  from_has : (fs : List ℕ) (t : SlotType) (v w : Value) → Has level objects t v → lead_from P (machine_memory P objects) v fs ≡ Some w → Has level objects (last_type P t fs) w
  from_has [] t v w has e = subst (Has level objects t) (same_Some v w e) has
  from_has (f ∷ fs) t v w has e =
      let parts = then_parts (λ u. lead_from P (machine_memory P objects) u fs) (next_value P (machine_memory P objects) v f) w e in
      from_has fs (field_type (slice_get P.fields f)) parts.0 w (next_has v f parts.0 parts.1) parts.2

  slot_has : (types : List CoreType) (slots : List Value) (x : ℕ) → AreTypedSlots P level objects types slots → (o : Option Value) → slice_get slots x ≡ o → Has level objects (slice_get types x) (unwrap_or o value.Null)
  slot_has types slots x typed None is = tt
  slot_has types slots x typed (Some v) is = typed x v is

  marked_is : (t : SlotType) (n : ℕ) → IsMarked level t n → n ≡ level (class_of_slot t)
  marked_is None n m = absurd m
  marked_is (Some type.Int) n m = absurd m
  marked_is (Some type.Boolean) n m = absurd m
  marked_is (Some (type.Class c)) n m = sym m

  -- the object to which a lock's path leads has the level of the path's class
  pub lock_typed : (types : List CoreType) (slots : List Value) (p : PathData) (a : Address) → AreTypedSlots P level objects types slots → lead P (machine_memory P objects) (env_of slots) p ≡ Some (value.Ref a)
      → (o : Object) × (objects a ≡ Some o) × (level o.class ≡ level (lock_class P types p))
  lock_typed types slots p a typed leads =
      let has = from_has p.fields (slice_get types p.root) (env_of slots p.root) (value.Ref a) (slot_has types slots p.root typed (slice_get slots p.root) refl) leads in
      (has.0, has.1, marked_is (last_type P (slice_get types p.root) p.fields) (level has.0.class) has.2)

module _ (P : Program) (rel : ℕ → List PathData) (level : ℕ → ℕ) (see : Shared) (t : ℕ) where
  module _ (program : IsOrderedProgram P rel level) (counted : AreCounted see.lock_at) (f : Frame) (below : List Frame) (rest : List Item) (method : Method) (is : slice_get P.methods f.method ≡ Some method)
      (own_frame : Owns t (f ∷ below) see.lock_at) (further : FramesRanked P rel level see.object_at below (awaited P f.method)) where
    abbrev Walked : List Item → Env → Paths → Type 0
    Walked work env os = Ranked P rel level (slot_types method) see.object_at (releases_in_work below) work env os

    failed : (why : Fault) → OutcomeRanked P rel level see t (faults P see t f below rest why)
    failed = fault_ranked P rel level see t program counted f below rest method is own_frame further

    module _ (own_rest : (a : Address) → held_count t (see.lock_at a) ≡ count_release a rest + count_frames a below) where
      module _ (os : Paths) (known : LeadEach P (machine_memory P see.object_at) (env_of f.slots) os f.operands) where
        -- Locks that are taken.

        at_lock : (b a : Address) (hold : Option Hold) (u : ℕ) → held_count u hold ≡ held_count u (see.lock_at a) → (same : Bool) → address_eq b a ≡ same → held_count u (if same then hold else see.lock_at b) ≡ held_count u (see.lock_at b)
        at_lock b a hold u e true at = e ∙ ap (λ c. held_count u (see.lock_at c)) (sym (same_address b a at))
        at_lock b a hold u e false at = refl

        count_at : (a : Address) (hold : Hold) → 0 < hold.count → (b : Address) (found : Hold) (same : Bool) → address_eq b a ≡ same → (if same then Some hold else see.lock_at b) ≡ Some found → 0 < found.count
        count_at a hold some b found true at e = subst (λ (x : Hold). 0 < x.count) (same_Some hold found e) some
        count_at a hold some b found false at e = counted b found e

        module _ (s : Stmt) (a : Address) where
          abbrev part : List Item
          part = St s ∷ Act (W.Release a) ∷ rest

          lock_with : (kind : StepKind) (hold : Hold) → 0 < hold.count → Walked part (env_of f.slots) [] → ((b : Address) → held_count t (if address_eq b a then Some hold else see.lock_at b) ≡ count_release b part + count_frames b below)
              → ((u : ℕ) → (u == t) ≡ false → held_count u (Some hold) ≡ held_count u (see.lock_at a)) → OutcomeRanked P rel level see t (takes P see t f below rest kind s a hold)
          lock_with kind hold some walked owns others = record {
            thread = ((record { method = method; is = is; paths = []; leads = tt; ranked = walked }, further), owns);
            others = λ u other b. at_lock b a (Some hold) u (others u other) (address_eq b a) refl;
            grows = grows_itself P (machine_memory P see.object_at);
            counted = λ b found e. count_at a hold some b found (address_eq b a) refl e;
            started = tt;
          }

          free_counts : (b : Address) → see.lock_at a ≡ None → (same : Bool) → address_eq b a ≡ same
              → held_count t (if same then Some (record { holder = t; count = 1 }) else see.lock_at b) ≡ (if same then 1 + count_release b rest else count_release b rest) + count_frames b below
          free_counts b none true at = cond-true (t == t) 1 0 (eq-eqb t t refl) ∙ one_of (count_release b rest) (count_frames b below) (sym (ap (λ c. held_count t (see.lock_at c)) (same_address b a at) ∙ ap (held_count t) none) ∙ own_rest b)
          free_counts b none false at = own_rest b

          again_counts : (b : Address) (hold : Hold) → see.lock_at a ≡ Some hold → (hold.holder == t) ≡ true → (same : Bool) → address_eq b a ≡ same
              → held_count t (if same then Some (taken_again hold) else see.lock_at b) ≡ (if same then 1 + count_release b rest else count_release b rest) + count_frames b below
          again_counts b hold held mine true at =
              cond-true (hold.holder == t) (hold.count + 1) 0 mine
              ∙ one_more hold.count (count_release b rest) (count_frames b below) (sym (ap (λ c. held_count t (see.lock_at c)) (same_address b a at) ∙ ap (held_count t) held ∙ cond-true (hold.holder == t) hold.count 0 mine) ∙ own_rest b)
          again_counts b hold held mine false at = own_rest b

          take_held_ranked : Walked part (env_of f.slots) [] → (hold : Hold) → see.lock_at a ≡ Some hold → (mine : Bool) → (hold.holder == t) ≡ mine → OutcomeRanked P rel level see t (take_held P see t f below rest s a hold mine)
          take_held_ranked walked hold held false at = tt
          take_held_ranked walked hold held true at = lock_with Both (taken_again hold) (held_once_more hold.count) walked
              (λ b. again_counts b hold held at (address_eq b a) refl)
              (λ u other. cond-false (hold.holder == u) (hold.count + 1) 0 (not_both hold.holder t u at other) ∙ sym (ap (held_count u) held ∙ cond-false (hold.holder == u) hold.count 0 (not_both hold.holder t u at other)))

          take_ranked : Walked part (env_of f.slots) [] → (hold : Option Hold) → see.lock_at a ≡ hold → OutcomeRanked P rel level see t (take P see t f below rest s a hold)
          take_ranked walked None at = lock_with Right (record { holder = t; count = 1 }) (omega arith) walked
              (λ b. free_counts b at (address_eq b a) refl)
              (λ u other. cond-false (t == u) 1 0 (eqb_turned t u ∙ other) ∙ sym (ap (held_count u) at))
          take_ranked walked (Some hold) at = take_held_ranked walked hold at (hold.holder == t) refl

          module _ (heap : IsTypedHeap P level see.object_at) (typed : AreTypedSlots P level see.object_at (slot_types method) f.slots) (H : Held) (e : ℕ)
              (stands : Stands P level see.object_at (env_of f.slots) H e (λ b. has_release b rest || releases_in_work below b)) (p : PathData) (fresh : Fresh H s) (apart : stores s p.root ≡ false) (tidy : TidyS P s)
              (leads : lead P (machine_memory P see.object_at) (env_of f.slots) p ≡ Some (value.Ref a)) (after : (later : Env) → ((y : ℕ) → stores s y ≡ false → later y ≡ env_of f.slots y) → Walked rest later []) where
            abbrev class : ℕ
            class = lock_class P (slot_types method) p

            held_more : (x y z : Bool) → (y || z) ≡ true → ((x || y) || z) ≡ true
            held_more true y z e = refl
            held_more false y z e = e

            -- the path is in the set: the lock is held already, and stays so
            held_part : H p ≡ true → (has_release a rest || releases_in_work below a) ≡ true
            held_part has =
                let at = stands.sound.at p has in
                let same : value.Ref a ≡ value.Ref at.0 = same_Some _ _ (sym leads ∙ at.1) in
                subst (λ b. (has_release b rest || releases_in_work below b) ≡ true) (sym (ref_same same)) at.2
              where
                ref_same : {x y : Address} → value.Ref x ≡ value.Ref y → x ≡ y
                ref_same {x = x} {y = y} e = cc

            -- what is held in the part, where the lock's object is under a level
            part_high : (u : ℕ) → e ≤ u → IsUnder level see.object_at u a → (b : Address) (same : Bool) → address_eq b a ≡ same → ((same || has_release b rest) || releases_in_work below b) ≡ true → IsUnder level see.object_at u b
            part_high u above here b true at has = subst (IsUnder level see.object_at u) (sym (same_address b a at)) here
            part_high u above here b false at has = let low = stands.high b has in (low.0, low.1, chain (level low.0.class) e u low.2 above)
              where
                chain : (x y z : ℕ) → x ≤ y → y ≤ z → x ≤ z
                chain x y z first second = omega (arith, first, second)

            new_at : (q : PathData) (b : Bool) → path_eq p q ≡ b → (b || H q) ≡ true → (c : Address) × (lead P (machine_memory P see.object_at) (env_of f.slots) q ≡ Some (value.Ref c)) × (((address_eq c a || has_release c rest) || releases_in_work below c) ≡ true)
            new_at q true at has = (a, ap (λ z. lead P (machine_memory P see.object_at) (env_of f.slots) z) (sym (eq_is p q at)) ∙ leads, ap (λ b. (b || has_release a rest) || releases_in_work below a) (address_itself a))
            new_at q false at has = let found = stands.sound.at q has in (found.0, found.1, held_more (address_eq found.0 a) (has_release found.0 rest) (releases_in_work below found.0) found.2)

            new_fresh : (q : PathData) (b : Bool) → path_eq p q ≡ b → (b || H q) ≡ true → stores s q.root ≡ false
            new_fresh q true at has = ap (stores s) (ap (λ (z : PathData). z.root) (sym (eq_is p q at))) ∙ apart
            new_fresh q false at has = fresh.at q has

            max_first : (x y : ℕ) → x ≤ max x y
            max_first x y = omega arith

            max_second : (x y z : ℕ) → z ≡ y → z ≤ max x y
            max_second x y z same = omega (arith, same)

            itself : (x : ℕ) → x ≤ x
            itself x = omega arith

            walked_held : H p ≡ true → (n : ℕ) → Fine P rel level (visits P rel level (slot_types method) s n H e) → Walked part (env_of f.slots) []
            walked_held has n fine = (
              record {
                set = H;
                under = e;
                stands = record {
                  sound = record { at = λ q held. let found = stands.sound.at q held in (found.0, found.1, held_more (address_eq found.0 a) (has_release found.0 rest) (releases_in_work below found.0) found.2) };
                  high = λ b held. part_high e (itself e) (stands.high a (held_part has)) b (address_eq b a) refl held;
                };
                rest = (fresh, tidy, (n, fine));
              },
              λ later agrees. after later (λ y other. agrees.kept y other),
            )

            walked_new : (n : ℕ) → Fine P rel level (visits P rel level (slot_types method) s n (with_path p H) (max e (level class))) → Walked part (env_of f.slots) []
            walked_new n fine =
                let o = lock_typed P level see.object_at heap (slot_types method) f.slots p a typed leads in (
                  record {
                    set = with_path p H;
                    under = max e (level class);
                    stands = record {
                      sound = record { at = λ q held. new_at q (path_eq p q) refl held };
                      high = λ b held. part_high (max e (level class)) (max_first e (level class)) (o.0, o.1, max_second e (level class) (level o.0.class) o.2) b (address_eq b a) refl held;
                    };
                    rest = (record { at = λ q held. new_fresh q (path_eq p q) refl held }, tidy, (n, fine));
                  },
                  λ later agrees. after later (λ y other. agrees.kept y other),
                )

            above_walk : (b : Bool) (n : ℕ) (vs : List LevelVisit) → Fine P rel level (if b then vs else Bad n class e ∷ vs) → Fine P rel level vs
            above_walk true n vs fine = fine
            above_walk false n vs fine = absurd (fine.none_bad n class e (0, omega arith, refl))

            walked_part : (b : Bool) → H p ≡ b → (n : ℕ) → Fine P rel level (sync_visits P rel level (slot_types method) b n class e (visits P rel level (slot_types method) s (n + 1) H e) (visits P rel level (slot_types method) s (n + 1) (with_path p H) (max e (level class))))
                → Walked part (env_of f.slots) []
            walked_part true has n fine = walked_held has (n + 1) fine
            walked_part false has n fine = walked_new (n + 1) (above_walk (nat_lt e (level class)) n (visits P rel level (slot_types method) s (n + 1) (with_path p H) (max e (level class))) fine)

        top_is : (o : Option PathData) (p : PathData) (v : Value) → o ≡ Some p → LeadsTo P (machine_memory P see.object_at) (env_of f.slots) o v → lead P (machine_memory P see.object_at) (env_of f.slots) p ≡ Some v
        top_is o p v at l = subst (λ z. LeadsTo P (machine_memory P see.object_at) (env_of f.slots) z v) at l

        pub acquire_ranked : IsTypedHeap P level see.object_at → AreTypedSlots P level see.object_at (slot_types method) f.slots → (s : Stmt) → RankedAct P rel level (slot_types method) see.object_at (releases_in_work below) (W.Acquire s) rest (Walked rest) (env_of f.slots) os
            → (o : Option Address) → address_of (top f.operands) ≡ o → OutcomeRanked P rel level see t (acquire P see t f below rest s o)
        acquire_ranked heap typed s r None at = failed fault.Null
        acquire_ranked heap typed s r (Some a) at =
            let leads = top_is (top_path os) r.0.rest.0 (value.Ref a) r.0.rest.1 (leads_top P rel level see t program counted f below rest method is own_frame further own_rest os known a at) in
            take_ranked s a (walked_part s a heap typed r.0.set r.0.under r.0.stands r.0.rest.0 r.0.rest.2 r.0.rest.3 r.0.rest.4 leads r.1 (r.0.set r.0.rest.0) refl r.0.rest.5.0 r.0.rest.5.1) (see.lock_at a) refl

    -- Locks that are given back.

    module _ (a : Address) (own_next : (b : Address) → held_count t (see.lock_at b) ≡ count_release b (Act (W.Release a) ∷ rest) + count_frames b below) (g : Walked rest (env_of f.slots) []) where
      own_here : (hold : Hold) → see.lock_at a ≡ Some hold → (hold.holder == t) ≡ true → hold.count ≡ 1 + count_release a rest + count_frames a below
      own_here hold held mine =
          sym (ap (held_count t) held ∙ cond-true (hold.holder == t) hold.count 0 mine) ∙ own_next a ∙ ap (λ b. (if b then 1 + count_release a rest else count_release a rest) + count_frames a below) (address_itself a)

      back : Hold → Option Hold
      back hold = given_back hold

      back_count : (u : ℕ) (hold : Hold) (b : Bool) → nat_lt 1 hold.count ≡ b → held_count u (if b then Some (record hold { count = hold.count - 1 }) else None) ≡ (if b then (if hold.holder == u then hold.count - 1 else 0) else 0)
      back_count u hold true e = refl
      back_count u hold false e = refl

      own_back : (hold : Hold) → see.lock_at a ≡ Some hold → (hold.holder == t) ≡ true → (more : Bool) → nat_lt 1 hold.count ≡ more → held_count t (if more then Some (record hold { count = hold.count - 1 }) else None) ≡ count_release a rest + count_frames a below
      own_back hold held mine true e = cond-true (hold.holder == t) (hold.count - 1) 0 mine ∙ one_less hold.count (count_release a rest) (count_frames a below) (own_here hold held mine) e
      own_back hold held mine false e = none_left hold.count (count_release a rest) (count_frames a below) (own_here hold held mine) e

      other_back : (u : ℕ) (hold : Hold) → see.lock_at a ≡ Some hold → (hold.holder == u) ≡ false → (more : Bool) → held_count u (if more then Some (record hold { count = hold.count - 1 }) else None) ≡ held_count u (see.lock_at a)
      other_back u hold held other true = cond-false (hold.holder == u) (hold.count - 1) 0 other ∙ sym (ap (held_count u) held ∙ cond-false (hold.holder == u) hold.count 0 other)
      other_back u hold held other false = sym (ap (held_count u) held ∙ cond-false (hold.holder == u) hold.count 0 other)

      back_at : (hold : Hold) → see.lock_at a ≡ Some hold → (hold.holder == t) ≡ true → (b : Address) (same : Bool) → address_eq b a ≡ same → held_count t (if same then given_back hold else see.lock_at b) ≡ count_release b rest + count_frames b below
      back_at hold held mine b true at = own_back hold held mine (nat_lt 1 hold.count) refl ∙ ap (λ c. count_release c rest + count_frames c below) (sym (same_address b a at))
      back_at hold held mine b false at = own_next b ∙ ap (λ x. (if x then 1 + count_release b rest else count_release b rest) + count_frames b below) at

      others_at : (hold : Hold) → see.lock_at a ≡ Some hold → (hold.holder == t) ≡ true → (u : ℕ) → (u == t) ≡ false → (b : Address) (same : Bool) → address_eq b a ≡ same → held_count u (if same then given_back hold else see.lock_at b) ≡ held_count u (see.lock_at b)
      others_at hold held mine u other b true at = other_back u hold held (not_both hold.holder t u mine other) (nat_lt 1 hold.count) ∙ ap (λ c. held_count u (see.lock_at c)) (sym (same_address b a at))
      others_at hold held mine u other b false at = refl

      back_counted : (hold : Hold) (more : Bool) → nat_lt 1 hold.count ≡ more → (found : Hold) → (if more then Some (record hold { count = hold.count - 1 }) else None) ≡ Some found → 0 < found.count
      back_counted hold true e found is = subst (λ (x : Hold). 0 < x.count) (same_Some (record hold { count = hold.count - 1 }) found is) (still_held hold.count e)
      back_counted hold false e found is = absurd (none-some found is)

      counted_at : (hold : Hold) (b : Address) (found : Hold) (same : Bool) → address_eq b a ≡ same → (if same then given_back hold else see.lock_at b) ≡ Some found → 0 < found.count
      counted_at hold b found true at e = back_counted hold (nat_lt 1 hold.count) refl found e
      counted_at hold b found false at e = counted b found e

      release_held_ranked : (hold : Hold) → see.lock_at a ≡ Some hold → (mine : Bool) → (hold.holder == t) ≡ mine → OutcomeRanked P rel level see t (release_held P see t f below rest a hold mine)
      release_held_ranked hold held false mine = failed fault.Null
      release_held_ranked hold held true mine = record {
        thread = ((record { method = method; is = is; paths = []; leads = tt; ranked = g }, further), λ b. back_at hold held mine b (address_eq b a) refl);
        others = λ u other b. others_at hold held mine u other b (address_eq b a) refl;
        grows = grows_itself P (machine_memory P see.object_at);
        counted = λ b found e. counted_at hold b found (address_eq b a) refl e;
        started = tt;
      }

      pub release_ranked : (o : Option Hold) → see.lock_at a ≡ o → OutcomeRanked P rel level see t (release P see t f below rest a o)
      release_ranked None held = failed fault.Null
      release_ranked (Some hold) held = release_held_ranked hold held (hold.holder == t) refl
