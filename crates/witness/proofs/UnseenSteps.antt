-- A step that nobody else sees stays while others step, and what they do behind it is what they do before it.
use Rattle.std.proofs.Common.{◌≡◌, ◌≢◌, ℕ, ◌<◌, Bool, true, false, List, [], ◌∷◌, length, refl, sym, ap, subst, ◌∙◌, arith, Some, None, IsSome}
use Rattle.std.specs.Prelude.{Option, slice_get, slice_set, if◌then◌else◌}
use Rattle.std.specs.FinMap as M
use Rattle.std.proofs.lemmas.Bool.{or_parts}
use Rattle.std.proofs.lemmas.Option.{same_Some, slice_get_within}
use Rattle.base.proofs.Lists.{set_other}
use Rattle.core_program.specs.Core.{Program, Field}
use Rattle.state.specs.declared.value.Address.{Address}
use Rattle.state.specs.declared.value.Value.{Value}
use Rattle.state.specs.declared.value.StepKind.{StepKind}
use Rattle.state.specs.declared.value.StepKind.TheVariants.{Both}
use Rattle.state.specs.Values.{top, under, as_truth, address_of, binary_value}
use Rattle.state.specs.Memory.{Heap, Locks, IsNumbered, next_address, value_in}
use Rattle.state.specs.Work as W
use Rattle.state.specs.Work.{Action, Item}
use Rattle.state.specs.States.{Frame, Running, State}
use Rattle.state.proofs.MemoryLemmas.{value_in-insert_other}
use Rattle.state.proofs.Numbering.{next_free}
use Rattle.semantics.specs.Step.{Shared, Change, Nothing, FieldIs, ObjectIs, LockIs, Prints, Starts, Move, Moves, Absent, IsDone, HadFaulted, Waits, Outcome, load, store, binary, and_then, or_else, choose, loop, get, get_value, return_to, act, act_next, turn, seen_by, outcome, changed, moved, step, state_after, value_at, mutable_kind, access_kind}
use Rattle.semantics.specs.Asks.{Ask, Reads, asks, asks_at, act_asks, next_asks, LooksSame}
use Rattle.semantics.specs.Run.{is_inside, is_inside_some, inside}
use Rattle.semantics.proofs.Looks.{turn_same}
use Rattle.semantics.proofs.RunLemmas.{moves_in, step_numbered}
use Rattle.reduction.specs.Changes.{AreClear, Did, quiet, was_read, was_written, was_made, was_taken, taken_more, was_given, was_started, was_printed}
use Rattle.reduction.specs.Parts.{on_heap}
use Rattle.reduction.specs.Swapped.{started}
use Rattle.reduction.proofs.Chains.{written_other}
use Rattle.reduction.proofs.Commute.{moved_is, moved_swap}
use Rattle.reduction.proofs.Conflicts.{object_there}
use Rattle.reduction.proofs.Dids.{moves_did}
use Rattle.reduction.proofs.MachineSystem.{start_number, own_after}
use Rattle.reduction.proofs.Swap.{thread_kept, stepper}
use Rattle.witness.specs.declared.unseen.Reach.{Reach}
use Rattle.witness.specs.declared.unseen.Reach.TheVariants as reach
use Rattle.witness.specs.Unseen.{action_reach, is_final_field, IsLasting, HasUnseenStep}

-- What such an action does.

-- it changes nothing but its thread, which stands inside no atomic call behind it
abbrev IsQuiet : Program → Outcome → Type 0
IsQuiet P (Moves m) = (m.change ≡ Nothing) × (is_inside P m.thread ≡ false)
IsQuiet P Absent = ⊥
IsQuiet P IsDone = ⊥
IsQuiet P (HadFaulted kind) = ⊥
IsQuiet P (Waits a holder) = ⊥

module _ (P : Program) (see : Shared) (t : ℕ) (f : Frame) (rest : List Item) where
  returns_quiet : (below : List Frame) → is_inside P (Running (f ∷ below)) ≡ false → IsQuiet P (return_to P see t f below rest below)
  returns_quiet [] outside = (refl, refl)
  returns_quiet (g ∷ more) outside = (refl, (or_parts _ _ outside).1)

  module _ (below : List Frame) (outside : is_inside P (Running (f ∷ below)) ≡ false) where
    load_quiet : (o : Option Value) → IsQuiet P (load P see t f below rest o)
    load_quiet None = (refl, outside)
    load_quiet (Some v) = (refl, outside)

    store_quiet : (x : ℕ) (o : Option Value) → IsQuiet P (store P see t f below rest x o)
    store_quiet x None = (refl, outside)
    store_quiet x (Some v) = (refl, outside)

    binary_quiet : (o : Option Value) → IsQuiet P (binary P see t f below rest o)
    binary_quiet None = (refl, outside)
    binary_quiet (Some v) = (refl, outside)

    and_quiet : (e : _) (b : Bool) → IsQuiet P (and_then P see t f below rest e b)
    and_quiet e true = (refl, outside)
    and_quiet e false = (refl, outside)

    or_quiet : (e : _) (b : Bool) → IsQuiet P (or_else P see t f below rest e b)
    or_quiet e true = (refl, outside)
    or_quiet e false = (refl, outside)

    choose_quiet : (s u : _) (b : Bool) → IsQuiet P (choose P see t f below rest s u b)
    choose_quiet s u true = (refl, outside)
    choose_quiet s u false = (refl, outside)

    loop_quiet : (e s : _) (b : Bool) → IsQuiet P (loop P see t f below rest e s b)
    loop_quiet e s true = (refl, outside)
    loop_quiet e s false = (refl, outside)

    value_quiet : (a : Address) (o : Option Field) (v : Option Value) → IsQuiet P (get_value P see t f below rest a o v)
    value_quiet a o None = (refl, outside)
    value_quiet a o (Some v) = (refl, outside)

    get_quiet : (x : ℕ) (o : Option Address) → IsQuiet P (get P see t f below rest x o)
    get_quiet x None = (refl, outside)
    get_quiet x (Some a) = value_quiet a (slice_get P.fields x) (value_at P see t a x)

    act_quiet : (heap : Heap) (a : Action) → IsLasting P heap (action_reach a) (address_of (top f.operands)) → IsQuiet P (act P see t f below rest a)
    act_quiet heap (W.Push v) lasts = (refl, outside)
    act_quiet heap (W.Load x) lasts = load_quiet (slice_get f.slots x)
    act_quiet heap (W.Store x) lasts = store_quiet x (slice_get f.slots x)
    act_quiet heap W.Drop lasts = (refl, outside)
    act_quiet heap (W.Unary op) lasts = (refl, outside)
    act_quiet heap (W.Binary op) lasts = binary_quiet (binary_value op (top (under f.operands)) (top f.operands))
    act_quiet heap (W.AndThen e) lasts = and_quiet e (as_truth (top f.operands))
    act_quiet heap (W.OrElse e) lasts = or_quiet e (as_truth (top f.operands))
    act_quiet heap (W.Choose s u) lasts = choose_quiet s u (as_truth (top f.operands))
    act_quiet heap (W.Loop e s) lasts = loop_quiet e s (as_truth (top f.operands))
    act_quiet heap (W.Get x) lasts = get_quiet x (address_of (top f.operands))
    act_quiet heap (W.Put x) lasts = absurd lasts
    act_quiet heap (W.New c) lasts = absurd lasts
    act_quiet heap (W.Call m) lasts = absurd lasts
    act_quiet heap (W.Acquire s) lasts = absurd lasts
    act_quiet heap (W.Release a) lasts = absurd lasts
    act_quiet heap W.Ret lasts = returns_quiet below outside
    act_quiet heap W.Print lasts = absurd lasts
    act_quiet heap W.Start lasts = absurd lasts

-- a step that changes nothing but its thread
pub record QuietStep (P : Program) (q : State) (t : ℕ) : Type 0 where
  pub move : Move
  pub is : outcome P q t ≡ Moves move
  pub nothing : move.change ≡ Nothing
  pub outside : is_inside P move.thread ≡ false

quiet_step : (P : Program) (q : State) (t : ℕ) (o : Outcome) → outcome P q t ≡ o → IsQuiet P o → QuietStep P q t
quiet_step P q t (Moves m) is h = record { move = m; is = is; nothing = h.0; outside = h.1 }
quiet_step P q t Absent is h = absurd h
quiet_step P q t IsDone is h = absurd h
quiet_step P q t (HadFaulted kind) is h = absurd h
quiet_step P q t (Waits a holder) is h = absurd h

outside_now : (P : Program) (q : State) (t : ℕ) (h : HasUnseenStep P q t) → is_inside P (Running (h.frame ∷ h.below)) ≡ false
outside_now P q t h = sym (ap (is_inside_some P) h.runs) ∙ h.outside

pub unseen_quiet : (P : Program) (q : State) (t : ℕ) → HasUnseenStep P q t → QuietStep P q t
unseen_quiet P q t h =
    quiet_step P q t (outcome P q t) refl
    (subst (λ o. IsQuiet P (turn P (seen_by t q) t o)) (sym h.runs)
    (subst (λ n. IsQuiet P (act_next P (seen_by t q) t h.frame h.below n)) (sym h.next)
    (act_quiet P (seen_by t q) t h.frame h.rest h.below (outside_now P q t h) q.heap h.action h.lasting)))

-- What others leave as it is.

-- the value of a final field that has one
module _ (P : Program) (heap : Heap) (locks : Locks) (numbered : IsNumbered heap) (u : ℕ) (a : Address) (x : ℕ) (final : is_final_field (slice_get P.fields x) ≡ true) (some : IsSome (value_in P heap a x)) where
  abbrev seen : Shared
  seen = record { object_at = M.get heap; lock_at = M.get locks; made = Rattle.state.specs.Memory.made_by u heap }

  not_written : (y : ℕ) (f : Field) → slice_get P.fields y ≡ Some f → f.is_final ≡ false → x ≡ y → ⊥
  not_written y f is mutable same =
      let e : true ≡ false = sym final ∙ ap is_final_field (ap (slice_get P.fields) same ∙ is) ∙ mutable in
      cc

  not_made : a ≢ next_address u heap
  not_made same = object_there P heap a x some (ap (M.get heap) same ∙ next_free heap u numbered)

  final_kept : (asked : Ask) (k : StepKind) (c : Change) → Did P seen u asked k c → value_in P (on_heap c heap) a x ≡ value_in P heap a x
  final_kept _ _ _ (quiet asked idle) = refl
  final_kept _ _ _ (was_read f v is has) = refl
  final_kept _ _ _ (was_written {a = b} {x = y} f old v is mutable has) = written_other P y f is v heap b old has a x (λ _ same. not_written y f is mutable same)
  final_kept _ _ _ (was_made o) = value_in-insert_other P heap (next_address u heap) a o x not_made
  final_kept _ _ _ (was_taken is) = refl
  final_kept _ _ _ (taken_more hold is by) = refl
  final_kept _ _ _ (was_given hold is by) = refl
  final_kept _ _ _ (was_started m) = refl
  final_kept _ _ _ (was_printed n) = refl

-- every value of a final field is the same in another heap
abbrev AreKept : Program → Heap → Heap → Type 0
AreKept P heap other = (a : Address) (x : ℕ) → is_final_field (slice_get P.fields x) ≡ true → IsSome (value_in P heap a x) → value_in P other a x ≡ value_in P heap a x

kept_by_step : (P : Program) (q : State) (u : ℕ) (n : Move) → IsNumbered q.heap → outcome P q u ≡ Moves n → AreKept P q.heap (moved u n q).heap
kept_by_step P q u n numbered is a x final some =
    ap (λ (s : State). value_in P s.heap a x) (moved_is u n q)
    ∙ final_kept P q.heap q.locks numbered u a x final some (asks P (slice_get q.threads u)) n.kind n.change (moves_did P (seen_by u q) u (slice_get q.threads u) n is)

-- what lasts lasts
lasts_still : (P : Program) (heap other : Heap) (r : Reach) (o : Option Address) → AreKept P heap other → IsLasting P heap r o → IsLasting P other r o
lasts_still P heap other reach.Own o kept h = tt
lasts_still P heap other (reach.Field x) None kept h = absurd h
lasts_still P heap other (reach.Field x) (Some a) kept h = (h.0, subst IsSome (sym (kept a x h.0 h.1)) h.1)
lasts_still P heap other reach.Shared o kept h = absurd h

-- and it looks the same
module _ (P : Program) (q p : State) (t : ℕ) (kept : AreKept P q.heap p.heap) where
  final_kind : (see : Shared) (a : Address) (o : Option Field) → is_final_field o ≡ true → access_kind P see t false a o ≡ Both
  final_kind see a None final = absurd cc
  final_kind see a (Some f) final = ap (λ (b : Bool). if b then Both else mutable_kind P see t f.writes_only false a f.guard) final

  read_looks : (x : ℕ) (o : Option Address) → IsLasting P q.heap (reach.Field x) o → LooksSame P t (seen_by t q) (seen_by t p) (asks_at (λ a. Reads a x) o)
  read_looks x None h = absurd h
  read_looks x (Some a) h = (sym (kept a x h.0 h.1), final_kind (seen_by t q) a (slice_get P.fields x) h.0 ∙ sym (final_kind (seen_by t p) a (slice_get P.fields x) h.0))

  act_looks : (operands : List Value) (a : Action) → IsLasting P q.heap (action_reach a) (address_of (top operands)) → LooksSame P t (seen_by t q) (seen_by t p) (act_asks P operands a)
  act_looks operands (W.Push v) lasts = tt
  act_looks operands (W.Load x) lasts = tt
  act_looks operands (W.Store x) lasts = tt
  act_looks operands W.Drop lasts = tt
  act_looks operands (W.Unary op) lasts = tt
  act_looks operands (W.Binary op) lasts = tt
  act_looks operands (W.AndThen e) lasts = tt
  act_looks operands (W.OrElse e) lasts = tt
  act_looks operands (W.Choose s u) lasts = tt
  act_looks operands (W.Loop e s) lasts = tt
  act_looks operands (W.Get x) lasts = read_looks x (address_of (top operands)) lasts
  act_looks operands (W.Put x) lasts = absurd lasts
  act_looks operands (W.New c) lasts = absurd lasts
  act_looks operands (W.Call m) lasts = absurd lasts
  act_looks operands (W.Acquire s) lasts = absurd lasts
  act_looks operands (W.Release a) lasts = absurd lasts
  act_looks operands W.Ret lasts = tt
  act_looks operands W.Print lasts = absurd lasts
  act_looks operands W.Start lasts = absurd lasts

  thread_looks : (h : HasUnseenStep P q t) → LooksSame P t (seen_by t q) (seen_by t p) (asks P (slice_get q.threads t))
  thread_looks h =
      subst (λ o. LooksSame P t (seen_by t q) (seen_by t p) (asks P o)) (sym h.runs)
      (subst (λ n. LooksSame P t (seen_by t q) (seen_by t p) (next_asks P h.frame.operands n)) (sym h.next) (act_looks h.frame.operands h.action h.lasting))

clear_nothing : (c : Change) → AreClear Nothing c
clear_nothing Nothing = tt
clear_nothing (FieldIs a i v) = tt
clear_nothing (ObjectIs a o) = tt
clear_nothing (LockIs a hold) = tt
clear_nothing (Prints n) = tt
clear_nothing (Starts a m) = tt

-- The step, and the steps of others.
module _ (P : Program) (q : State) (t : ℕ) (h : HasUnseenStep P q t) where
  abbrev pub its : QuietStep P q t
  its = unseen_quiet P q t h

  -- the state behind it
  abbrev pub unseen_next : State
  unseen_next = moved t its.move q

  pub unseen_steps : step P q t ≡ Some unseen_next
  unseen_steps = ap (state_after q t) its.is

  pub unseen_outside : inside P unseen_next t ≡ false
  unseen_outside = ap (is_inside_some P) (own_after P q t its.move its.is) ∙ its.outside

  -- all that threads share is the same
  half : unseen_next ≡ record q { threads = slice_set q.threads t its.move.thread }
  half = ap (λ c. changed c (record q { threads = slice_set q.threads t its.move.thread })) its.nothing

  pub unseen_heap : q.heap ≡ unseen_next.heap
  unseen_heap = sym (ap (λ (s : State). s.heap) half)

  pub unseen_output : q.output ≡ unseen_next.output
  unseen_output = sym (ap (λ (s : State). s.output) half)

  its_there : t < length q.threads
  its_there = slice_get_within q.threads t (Running (h.frame ∷ h.below)) h.runs

  -- another thread's step
  module _ (u : ℕ) (other : u ≡ t → ⊥) (p : State) (steps : step P q u ≡ Some p) where
    abbrev by : (n : Move) × (outcome P q u ≡ Moves n) × (moved u n q ≡ p)
    by = moves_in P q p u (outcome P q u) refl steps

    not_begun : started (length q.threads) by.0.change ≡ Some t → ⊥
    not_begun begun = let same = start_number (length q.threads) t by.0.change begun in let there = its_there in omega (arith, there, same)

    thread_still : slice_get p.threads t ≡ slice_get q.threads t
    thread_still = sym (ap (λ (s : State). slice_get s.threads t) by.2) ∙ thread_kept q u t by.0 other not_begun

    finals_kept : AreKept P q.heap p.heap
    finals_kept a x final some = sym (ap (λ (s : State). value_in P s.heap a x) by.2) ∙ kept_by_step P q u by.0 h.numbered by.1 a x final some

    pub unseen_stays : HasUnseenStep P p t
    unseen_stays = record {
      numbered = step_numbered P q u p h.numbered steps;
      frame = h.frame;
      below = h.below;
      runs = thread_still ∙ h.runs;
      outside = ap (is_inside_some P) thread_still ∙ h.outside;
      action = h.action;
      rest = h.rest;
      next = h.next;
      lasting = lasts_still P q.heap p.heap (action_reach h.action) (address_of (top h.frame.operands)) finals_kept h.lasting;
    }

    same_move : outcome P p t ≡ Moves its.move
    same_move =
        ap (turn P (seen_by t p) t) thread_still
        ∙ sym (turn_same P t (seen_by t q) (seen_by t p) (slice_get q.threads t) (thread_looks P q p t finals_kept h)) ∙ its.is

    others_move : outcome P unseen_next u ≡ Moves by.0
    others_move =
        ap (λ s. outcome P s u) half
        ∙ ap (turn P (seen_by u q) u) (set_other q.threads t u its.move.thread other)
        ∙ by.1

    clear : AreClear its.move.change by.0.change
    clear = subst (λ c. AreClear c by.0.change) (sym its.nothing) (clear_nothing by.0.change)

    differ : t ≡ u → ⊥
    differ same = other (sym same)

    swapped_states : moved t its.move p ≡ moved u by.0 unseen_next
    swapped_states = sym (ap (moved t its.move) by.2) ∙ moved_swap q t u its.move by.0 differ its_there (stepper P q u by.0 by.1) clear

    -- the other thread's step behind it leads where it leads behind the other's
    pub unseen_passes : step P unseen_next u ≡ step P p t
    unseen_passes = ap (state_after unseen_next u) others_move ∙ ap Some (sym swapped_states) ∙ sym (ap (state_after p t) same_move)

    none_begun : started (length p.threads) its.move.change ≡ Some u → ⊥
    none_begun begun = let e : None ≡ Some u = sym (ap (started (length p.threads)) its.nothing) ∙ begun in absurd cc

    -- and the other one stands inside a call as it did
    pub unseen_inside : (r : State) → step P p t ≡ Some r → inside P r u ≡ inside P p u
    unseen_inside r there =
        let to : moved t its.move p ≡ r = same_Some (moved t its.move p) r (sym (ap (state_after p t) same_move) ∙ there) in
        ap (is_inside_some P) (sym (ap (λ (s : State). slice_get s.threads u) to) ∙ thread_kept p t u its.move differ none_begun)
