-- A step that takes or gives back a lock.
use Rattle.std.proofs.Common.{◌≡◌, ℕ, ◌+◌, ◌-◌, Bool, true, false, ◌||◌, ◌==◌, List, [], ◌∷◌, Some, None, refl, sym, ap, subst, ◌∙◌, arith}
use Rattle.std.specs.Prelude.{Option, nat_lt, if◌then◌else◌}
use Rattle.std.proofs.lemmas.Bool.Decides.{nat_tests}
use Rattle.std.proofs.lemmas.Bool.{eq-eqb, cond-true, cond-false}
use Rattle.std.proofs.lemmas.Option.{same_Some}
use Rattle.base.proofs.NumberLemmas.{eqb_turned}
use Rattle.paths.specs.Paths.{PathData}
use Rattle.algebra.specs.Basics.{lift_of}
use Rattle.algebra.specs.HeldPaths.{Held, with_path}
use Rattle.core_program.specs.Core.{Program, Stmt}
use Rattle.rules.specs.Effect.{Assignment, sync_effect, effect}
use Rattle.state.specs.declared.value.Address.{Address}
use Rattle.state.specs.declared.value.Value.{Value}
use Rattle.state.specs.declared.value.Value.TheVariants as value
use Rattle.state.specs.declared.value.Fault.TheVariants as fault
use Rattle.state.specs.declared.value.StepKind.{StepKind}
use Rattle.state.specs.declared.value.StepKind.TheVariants.{Both, Right, Left}
use Rattle.state.specs.Values.{top, under, address_of, address_eq}
use Rattle.state.specs.Memory.{Hold}
use Rattle.state.specs.Work as W
use Rattle.state.specs.Work.{Item, St, Act}
use Rattle.state.specs.States.{Frame}
use Rattle.semantics.specs.Step.{LockIs, Shared, goes_on, acquire, take, take_held, release, release_held}
use Rattle.semantics.specs.Locking.{taken_again, release_kind}
use Rattle.reduction.specs.Phases.{Phase, PassesPart, phase_of, allowed, stepped, freed, IsDownClosed}
use Rattle.reduction.specs.Leads.{Env, env_of, machine_memory, lead, Sound, Paths, LeadsTo, top_path}
use Rattle.reduction.specs.Fits.{Fresh, TidyS, stores, has_release, count_release, awaited, FitsAct, FitsPhase}
use Rattle.reduction.specs.Safe.{LeadEach, FramesFit, Owns, frames_inside, outer_phase, releases_in_work, count_frames, held_count}
use Rattle.reduction.proofs.PhaseLemmas.{passes_map, passes_lift, lift_allows, both_allowed, left_allowed, phase_stepped}
use Rattle.reduction.proofs.LeadLemmas.{grows_itself, each_top, sound_more}
use Rattle.reduction.specs.Turn.{Fine}
use Rattle.reduction.proofs.FrameLemmas.{held_counts}
use Rattle.semantics.proofs.Changed.{same_address, address_itself}
use Rattle.reduction.proofs.Actions.{fault_fine, list_falls, address_is}

-- Numbers.

pub not_both : (a t u : ℕ) → (a == t) ≡ true → (u == t) ≡ false → (a == u) ≡ false
not_both a t u e k = grind (arith, nat_tests)

none_counted : (n m : ℕ) → 0 ≡ n → n ≡ m → nat_lt 0 m ≡ true → ⊥
none_counted n m zero same less = absurd_by (grind_false n m zero same less)
  where
    absurd_by : false ≡ true → ⊥
    absurd_by e = absurd cc

    grind_false : (n m : ℕ) → 0 ≡ n → n ≡ m → nat_lt 0 m ≡ true → false ≡ true
    grind_false n m zero same less = grind (arith, nat_tests)

pub one_of : (m k : ℕ) → 0 ≡ m + k → 1 ≡ 1 + m + k
one_of m k e = omega (arith, e)

pub one_more : (n m k : ℕ) → n ≡ m + k → n + 1 ≡ 1 + m + k
one_more n m k e = omega (arith, e)

stays_held : (n m k : ℕ) → n ≡ 1 + m + k → nat_lt 1 n ≡ nat_lt 0 (m + k)
stays_held n m k e = grind (arith, nat_tests)

pub one_less : (n m k : ℕ) → n ≡ 1 + m + k → nat_lt 1 n ≡ true → n - 1 ≡ m + k
one_less n m k e less = omega (arith, e)

pub none_left : (n m k : ℕ) → n ≡ 1 + m + k → nat_lt 1 n ≡ false → 0 ≡ m + k
none_left n m k e less = grind (arith, nat_tests)

module _ (P : Program) (rel : ℕ → List PathData) (A : Assignment) (see : Shared) (t : ℕ) (f : Frame) (below : List Frame) (rest : List Item) (flag : Bool)
    (own_frame : Owns t (f ∷ below) see.lock_at) where
  abbrev stands : Bool
  stands = frames_inside P (f ∷ below)

  abbrev now : Phase
  now = phase_of stands flag

  abbrev slots : Env
  slots = env_of f.slots

  abbrev K : Phase → Type 0
  K next = FramesFit P rel A (machine_memory P see.object_at) below (awaited P f.method) (outer_phase P below next)

  abbrev List_fits : List Item → Env → Phase → Paths → Type 0
  List_fits work env p os = FitsPhase P rel A (machine_memory P see.object_at) (releases_in_work below) K work env p os

  at_lock : (b a : Address) (hold : Option Hold) (u : ℕ) → held_count u hold ≡ held_count u (see.lock_at a) → (same : Bool) → address_eq b a ≡ same → held_count u (if same then hold else see.lock_at b) ≡ held_count u (see.lock_at b)
  at_lock b a hold u e true is = e ∙ ap (λ c. held_count u (see.lock_at c)) (sym (same_address b a is))
  at_lock b a hold u e false is = refl

  -- the frame goes on, with a change of one lock
  lock_with : (kind : StepKind) (operands : List Value) (work : List Item) (a : Address) (hold : Option Hold) → allowed now kind ≡ true → List_fits work slots (stepped kind now) []
      → ((b : Address) → held_count t (if address_eq b a then hold else see.lock_at b) ≡ count_release b work + count_frames b below)
      → ((u : ℕ) → (u == t) ≡ false → held_count u hold ≡ held_count u (see.lock_at a)) → Fine P rel A see t stands flag (goes_on P see t f below rest kind operands work (LockIs a hold))
  lock_with kind operands work a hold allow fits owns others = record {
    kind = allow;
    thread = (
      subst (λ p. FramesFit P rel A (machine_memory P see.object_at) (record f { operands = operands; work = work } ∷ below) [] p) (sym (phase_stepped stands flag kind)) (record { paths = []; lead = tt; fits = fits }),
      owns,
    );
    grows = grows_itself P (machine_memory P see.object_at);
    others = λ u other b. at_lock b a hold u (others u other) (address_eq b a) refl;
    started = tt;
  }

  module _ (own_rest : (a : Address) → held_count t (see.lock_at a) ≡ count_release a rest + count_frames a below) (os : Paths) (known : LeadEach P (machine_memory P see.object_at) slots os f.operands) where
    -- the part with its release, after the lock was taken
    module _ (s : Stmt) (a : Address) (H : Held) (p : PathData) (fresh : Fresh H s) (apart : stores s p.root ≡ false) (tidy : TidyS P s)
        (sound : Sound P (machine_memory P see.object_at) slots H (λ b. has_release b rest || releases_in_work below b)) (leads : lead P (machine_memory P see.object_at) slots p ≡ Some (value.Ref a)) where
      abbrev Leaves : Phase → Type 0
      Leaves q = (later : Env) → ((y : ℕ) → stores s y ≡ false → later y ≡ slots y) → List_fits rest later q []

      leaves_falls : IsDownClosed Leaves
      leaves_falls x y small g later kept = list_falls P rel A see t f below rest flag own_frame rest later [] x y small (g later kept)

      held_more : (b : Address) (x y z : Bool) → (y || z) ≡ true → ((x || y) || z) ≡ true
      held_more b true y z e = refl
      held_more b false y z e = e

      held_first : (x y z : Bool) → x ≡ true → ((x || y) || z) ≡ true
      held_first true y z e = refl
      held_first false y z e = absurd cc

      abbrev part : List Item
      part = St s ∷ Act (W.Release a) ∷ rest

      -- the path is in the set: the lock is held already, and stays so
      held_part : H p ≡ true → (has_release a rest || releases_in_work below a) ≡ true
      held_part has =
          let at = sound.at p has in
          let same : value.Ref a ≡ value.Ref at.0 = same_Some _ _ (sym leads ∙ at.1) in
          subst (λ b. (has_release b rest || releases_in_work below b) ≡ true) (sym (ref_same same)) at.2
        where
          ref_same : {x y : Address} → value.Ref x ≡ value.Ref y → x ≡ y
          ref_same {x = x} {y = y} e = cc

      held_fits : H p ≡ true → PassesPart now (effect P rel A s H) Leaves → List_fits part slots now []
      held_fits has r = record {
        set = H;
        sound = sound_more P (machine_memory P see.object_at) slots H (λ b. has_release b rest || releases_in_work below b) (λ b. (address_eq b a || has_release b rest) || releases_in_work below b)
            (λ b is. held_more b (address_eq b a) (has_release b rest) (releases_in_work below b) is) sound;
        rest = (
          fresh,
          tidy,
          passes_map Leaves _ now (effect P rel A s H)
              (λ q g later agrees. subst (λ stays. List_fits rest later (freed stays q) []) (sym (held_part has)) (g later (λ y other. agrees.kept y other))) r,
        );
      }

      -- a path of the larger set
      new_at : (q : PathData) (b : Bool) → Rattle.paths.specs.Paths.path_eq p q ≡ b → (b || H q) ≡ true → (c : Address) × (lead P (machine_memory P see.object_at) slots q ≡ Some (value.Ref c)) × (((address_eq c a || has_release c rest) || releases_in_work below c) ≡ true)
      new_at q true is has = (a, ap (λ z. lead P (machine_memory P see.object_at) slots z) (sym (Rattle.paths.proofs.PathOrder.eq_is p q is)) ∙ leads, held_first (address_eq a a) (has_release a rest) (releases_in_work below a) (address_itself a))
      new_at q false is has = let at = sound.at q has in (at.0, at.1, held_more at.0 (address_eq at.0 a) (has_release at.0 rest) (releases_in_work below at.0) at.2)

      new_fresh : (q : PathData) (b : Bool) → Rattle.paths.specs.Paths.path_eq p q ≡ b → (b || H q) ≡ true → stores s q.root ≡ false
      new_fresh q true is has = ap (stores s) (ap (λ z. z.root) (sym (Rattle.paths.proofs.PathOrder.eq_is p q is))) ∙ apart
      new_fresh q false is has = fresh.at q has

      -- the path isn't in the set: the part is judged with it
      new_fits : PassesPart now (lift_of (effect P rel A s (with_path p H))) Leaves → List_fits part slots now []
      new_fits r = record {
        set = with_path p H;
        sound = record { at = λ q has. new_at q (Rattle.paths.specs.Paths.path_eq p q) refl has };
        rest = (
          record { at = λ q has. new_fresh q (Rattle.paths.specs.Paths.path_eq p q) refl has },
          tidy,
          passes_map (λ q. Leaves (freed (has_release a rest || releases_in_work below a) q)) _ now (effect P rel A s (with_path p H))
              (λ q g later agrees. g later (λ y other. agrees.kept y other))
              (passes_lift Leaves (has_release a rest || releases_in_work below a) now (effect P rel A s (with_path p H)) leaves_falls r),
        );
      }

      not_free : see.lock_at a ≡ None → (has_release a rest || releases_in_work below a) ≡ true → ⊥
      not_free none has = none_counted (held_count t (see.lock_at a)) (count_release a rest + count_frames a below) (ap (held_count t) (sym none)) (own_rest a) (sym (held_counts a rest below) ∙ has)

      -- what stands after the acquire fits, and a free lock may be taken
      taken_fits : (b : Bool) → H p ≡ b → PassesPart now (sync_effect b (effect P rel A s H) (effect P rel A s (with_path p H))) Leaves → List_fits part slots now [] × (see.lock_at a ≡ None → allowed now Right ≡ true)
      taken_fits true is r = (held_fits is r, λ none. absurd (not_free none (held_part is)))
      taken_fits false is r = (new_fits r, λ none. lift_allows Leaves now (effect P rel A s (with_path p H)) r)

      free_counts : (b : Address) → see.lock_at a ≡ None → (same : Bool) → address_eq b a ≡ same
          → held_count t (if same then Some (record { holder = t; count = 1 }) else see.lock_at b) ≡ (if same then 1 + count_release b rest else count_release b rest) + count_frames b below
      free_counts b none true is = cond-true (t == t) 1 0 (eq-eqb t t refl) ∙ one_of (count_release b rest) (count_frames b below) (sym (ap (λ c. held_count t (see.lock_at c)) (same_address b a is) ∙ ap (held_count t) none) ∙ own_rest b)
      free_counts b none false is = own_rest b

      again_counts : (b : Address) (hold : Hold) → see.lock_at a ≡ Some hold → (hold.holder == t) ≡ true → (same : Bool) → address_eq b a ≡ same
          → held_count t (if same then Some (taken_again hold) else see.lock_at b) ≡ (if same then 1 + count_release b rest else count_release b rest) + count_frames b below
      again_counts b hold held mine true is =
          cond-true (hold.holder == t) (hold.count + 1) 0 mine
          ∙ one_more hold.count (count_release b rest) (count_frames b below) (sym (ap (λ c. held_count t (see.lock_at c)) (same_address b a is) ∙ ap (held_count t) held ∙ cond-true (hold.holder == t) hold.count 0 mine) ∙ own_rest b)
      again_counts b hold held mine false is = own_rest b

      take_held_fine : List_fits part slots now [] → (hold : Hold) → see.lock_at a ≡ Some hold → (mine : Bool) → (hold.holder == t) ≡ mine → Fine P rel A see t stands flag (take_held P see t f below rest s a hold mine)
      take_held_fine fits hold held false is = tt
      take_held_fine fits hold held true is = lock_with Both (under f.operands) part a (Some (taken_again hold)) (both_allowed now) fits
          (λ b. again_counts b hold held is (address_eq b a) refl)
          (λ u other. cond-false (hold.holder == u) (hold.count + 1) 0 (not_both hold.holder t u is other) ∙ sym (ap (held_count u) held ∙ cond-false (hold.holder == u) hold.count 0 (not_both hold.holder t u is other)))

      take_fine : List_fits part slots now [] → (see.lock_at a ≡ None → allowed now Right ≡ true) → (hold : Option Hold) → see.lock_at a ≡ hold → Fine P rel A see t stands flag (take P see t f below rest s a hold)
      take_fine fits allow None is = lock_with Right (under f.operands) part a (Some (record { holder = t; count = 1 })) (allow is) fits
          (λ b. free_counts b is (address_eq b a) refl)
          (λ u other. cond-false (t == u) 1 0 (eqb_turned t u ∙ other) ∙ sym (ap (held_count u) is))
      take_fine fits allow (Some hold) is = take_held_fine fits hold is (hold.holder == t) refl

    top_is : (o : Option PathData) (p : PathData) (v : Value) → o ≡ Some p → LeadsTo P (machine_memory P see.object_at) slots o v → lead P (machine_memory P see.object_at) slots p ≡ Some v
    top_is o p v is l = subst (λ z. LeadsTo P (machine_memory P see.object_at) slots z v) is l

    pub acquire_fine : (s : Stmt) → FitsAct P rel A (machine_memory P see.object_at) (releases_in_work below) K (W.Acquire s) rest (List_fits rest) slots now os → (o : Option Address) → address_of (top f.operands) ≡ o
        → Fine P rel A see t stands flag (acquire P see t f below rest s o)
    acquire_fine s at None is = fault_fine P rel A see t f below rest flag own_frame fault.Null
    acquire_fine s at (Some a) is =
        let leads = top_is (top_path os) at.rest.0 (value.Ref a) at.rest.1 (subst (LeadsTo P (machine_memory P see.object_at) slots (top_path os)) (address_is (top f.operands) a is) (each_top P (machine_memory P see.object_at) slots os f.operands known)) in
        let fits = taken_fits s a at.set at.rest.0 at.rest.2 at.rest.3 at.rest.4 at.sound leads (at.set at.rest.0) refl at.rest.5 in
        take_fine s a at.set at.rest.0 at.rest.2 at.rest.3 at.rest.4 at.sound leads fits.0 fits.1 (see.lock_at a) refl

  module _ (a : Address) (own_next : (b : Address) → held_count t (see.lock_at b) ≡ count_release b (Act (W.Release a) ∷ rest) + count_frames b below) (fits : List_fits rest slots (freed (has_release a rest || releases_in_work below a) now) []) where
    own_here : (hold : Hold) → see.lock_at a ≡ Some hold → (hold.holder == t) ≡ true → hold.count ≡ 1 + count_release a rest + count_frames a below
    own_here hold held mine = sym (ap (held_count t) held ∙ cond-true (hold.holder == t) hold.count 0 mine) ∙ own_next a
        ∙ ap (λ n. n + count_frames a below) (cond-true (address_eq a a) (1 + count_release a rest) (count_release a rest) (address_itself a))

    left_counts : (b : Address) (hold : Option Hold) → held_count t hold ≡ count_release a rest + count_frames a below → (same : Bool) → address_eq b a ≡ same
        → held_count t (see.lock_at b) ≡ (if same then 1 + count_release b rest else count_release b rest) + count_frames b below
        → held_count t (if same then hold else see.lock_at b) ≡ count_release b rest + count_frames b below
    left_counts b hold e true is own = e ∙ ap (λ c. count_release c rest + count_frames c below) (sym (same_address b a is))
    left_counts b hold e false is own = own

    give_back : (hold : Hold) → see.lock_at a ≡ Some hold → (hold.holder == t) ≡ true → (stays : Bool) → nat_lt 1 hold.count ≡ stays
        → Fine P rel A see t stands flag (goes_on P see t f below rest (release_kind (if stays then Some (record hold { count = hold.count - 1 }) else None)) f.operands rest (LockIs a (if stays then Some (record hold { count = hold.count - 1 }) else None)))
    give_back hold held mine true is = lock_with Both f.operands rest a (Some (record hold { count = hold.count - 1 })) (both_allowed now)
        (subst (λ stays. List_fits rest slots (freed stays now) []) (held_counts a rest below ∙ sym (stays_held hold.count (count_release a rest) (count_frames a below) (own_here hold held mine)) ∙ is) fits)
        (λ b. left_counts b (Some (record hold { count = hold.count - 1 }))
        (cond-true (hold.holder == t) (hold.count - 1) 0 mine ∙ one_less hold.count (count_release a rest) (count_frames a below) (own_here hold held mine) is) (address_eq b a) refl (own_next b))
        (λ u other. cond-false (hold.holder == u) (hold.count - 1) 0 (not_both hold.holder t u mine other) ∙ sym (ap (held_count u) held ∙ cond-false (hold.holder == u) hold.count 0 (not_both hold.holder t u mine other)))
    give_back hold held mine false is = lock_with Left f.operands rest a None (left_allowed now)
        (subst (λ stays. List_fits rest slots (freed stays now) []) (held_counts a rest below ∙ sym (stays_held hold.count (count_release a rest) (count_frames a below) (own_here hold held mine)) ∙ is) fits)
        (λ b. left_counts b None (none_left hold.count (count_release a rest) (count_frames a below) (own_here hold held mine) is) (address_eq b a) refl (own_next b))
        (λ u other. sym (ap (held_count u) held ∙ cond-false (hold.holder == u) hold.count 0 (not_both hold.holder t u mine other)))

    release_held_fine : (hold : Hold) → see.lock_at a ≡ Some hold → (mine : Bool) → (hold.holder == t) ≡ mine → Fine P rel A see t stands flag (release_held P see t f below rest a hold mine)
    release_held_fine hold held false is = fault_fine P rel A see t f below rest flag own_frame fault.Null
    release_held_fine hold held true is = give_back hold held is (nat_lt 1 hold.count) refl

    pub release_fine : (o : Option Hold) → see.lock_at a ≡ o → Fine P rel A see t stands flag (release P see t f below rest a o)
    release_fine None is = fault_fine P rel A see t f below rest flag own_frame fault.Null
    release_fine (Some hold) is = release_held_fine hold is (hold.holder == t) refl
