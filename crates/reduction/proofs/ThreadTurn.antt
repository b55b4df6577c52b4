-- A thread's turn.
use Rattle.std.proofs.Common.{◌≡◌, ◌⊎◌, inl, inr, ℕ, ◌+◌, Bool, true, false, ◌||◌, ◌&&◌, List, [], ◌∷◌, ◌++◌, Some, None, refl, subst, arith}
use Rattle.std.specs.Prelude.{Option, slice_get, if◌then◌else◌}
use Rattle.paths.specs.Paths.{PathData}
use Rattle.core_program.specs.Core.{Program}
use Rattle.rules.specs.Effect.{Assignment}
use Rattle.state.specs.declared.value.Address.{Address}
use Rattle.state.specs.declared.value.Value.{Value}
use Rattle.state.specs.declared.value.Fault.TheVariants as fault
use Rattle.state.specs.Values.{top, under, as_truth, address_of, unary_value, binary_value}
use Rattle.state.specs.Work as W
use Rattle.state.specs.Work.{Action, Item, Act, Next, first_release, unfolded}
use Rattle.state.specs.States.{Frame, Thread, Ready, Running, Done, Faulted}
use Rattle.semantics.specs.Run.{is_annotated, is_inside_some}
use Rattle.semantics.specs.Step.{Shared, has_result, with_result, act, act_next, return_to, turn}
use Rattle.reduction.specs.Phases.{Phase, Free, phase_of}
use Rattle.reduction.specs.Leads.{Env, env_of, Memory, machine_memory, Paths}
use Rattle.reduction.specs.Fits.{count_release, awaited, FitsNext, Opens}
use Rattle.reduction.specs.Safe.{LeadEach, FramesFit, Owns, IsSafeThread, frames_inside, outer_phase, releases_in_work, count_frames, held_count}
use Rattle.reduction.proofs.PhaseLemmas.{both_allowed}
use Rattle.reduction.proofs.LeadLemmas.{grows_itself}
use Rattle.reduction.proofs.Frames.{frames_unfold}
use Rattle.reduction.specs.Turn.{Accepted, Fine}
use Rattle.reduction.proofs.Actions.{fault_fine, push_fine, load_fine, store_fine, drop_fine, unary_fine, binary_fine, and_fine, or_fine, choose_fine, loop_fine, get_fine, put_fine, new_fine, print_fine, start_fine}
use Rattle.reduction.proofs.LockActions.{acquire_fine, release_fine}
use Rattle.reduction.proofs.Calls.{call_fine, enter_fine}
use Rattle.reduction.proofs.Counting.{Counts, NoReleases, Settled, unfolded_count, unfolded_settled, none_count, none_return}

-- Returns.

-- the phase after the end of a call: outside again, where no frame further out is annotated
inner_phase : (annotated stands flag : Bool) → (if stands then phase_of (annotated || stands) flag else Free) ≡ phase_of stands (((annotated || stands) && flag) || false)
inner_phase true true true = refl
inner_phase true true false = refl
inner_phase false true true = refl
inner_phase false true false = refl
inner_phase annotated false flag = refl

with_lead : (P : Program) (h : Memory) (env : Env) (b : Bool) (v : Value) (paths : Paths) (operands : List Value) → LeadEach P h env paths operands → LeadEach P h env ((if b then None ∷ [] else []) ++ paths) (with_result b v operands)
with_lead P h env true v paths operands known = (tt, known)
with_lead P h env false v paths operands known = known

module _ (P : Program) (rel : ℕ → List PathData) (A : Assignment) (see : Shared) (t : ℕ) (f : Frame) (rest : List Item) (flag : Bool) where
  no_more : (n k m : ℕ) → n ≡ k + m → 0 ≡ k → n ≡ m
  no_more n k m e none = omega (arith, e, none)

  return_fine : (below : List Frame) → ((a : Address) → held_count t (see.lock_at a) ≡ count_release a rest + count_frames a below) → first_release rest ≡ None
      → FramesFit P rel A (machine_memory P see.object_at) below (awaited P f.method) (outer_phase P below (phase_of (frames_inside P (f ∷ below)) flag))
      → Fine P rel A see t (frames_inside P (f ∷ below)) flag (return_to P see t f below rest below)
  return_fine [] own none fits = record {
    kind = both_allowed _;
    thread = λ a. no_more (held_count t (see.lock_at a)) (count_release a rest) 0 (own a) (none_count a rest none);
    grows = grows_itself P (machine_memory P see.object_at);
    others = λ u other b. refl;
    started = tt;
  }
  return_fine (g ∷ more) own none fits = record {
    kind = both_allowed _;
    thread = (
      subst (λ p. FramesFit P rel A (machine_memory P see.object_at) (record g { operands = with_result (has_result (slice_get P.methods f.method)) (top f.operands) g.operands } ∷ more) [] p)
          (inner_phase (is_annotated (slice_get P.methods f.method)) (frames_inside P (g ∷ more)) flag)
          (record {
            paths = awaited P f.method ++ fits.paths;
            lead = with_lead P (machine_memory P see.object_at) (env_of g.slots) (has_result (slice_get P.methods f.method)) (top f.operands) fits.paths g.operands fits.lead;
            fits = fits.fits;
          }),
      λ a. no_more (held_count t (see.lock_at a)) (count_release a rest) (count_frames a (g ∷ more)) (own a) (none_count a rest none),
    );
    grows = grows_itself P (machine_memory P see.object_at);
    others = λ u other b. refl;
    started = tt;
  }

module _ (P : Program) (rel : ℕ → List PathData) (A : Assignment) (accepted : Accepted P rel A) (see : Shared) (t : ℕ) (free : see.object_at (record { thread = t; count = see.made }) ≡ None) where
  module _ (f : Frame) (below : List Frame) (flag : Bool) (own_frame : Owns t (f ∷ below) see.lock_at) where
    abbrev stands : Bool
    stands = frames_inside P (f ∷ below)

    abbrev now : Phase
    now = phase_of stands flag

    abbrev K : Phase → Type 0
    K next = FramesFit P rel A (machine_memory P see.object_at) below (awaited P f.method) (outer_phase P below next)

    act_fine : (action : Action) (rest : List Item) (os : Paths) → LeadEach P (machine_memory P see.object_at) (env_of f.slots) os f.operands
        → ((a : Address) → held_count t (see.lock_at a) ≡ count_release a (Act action ∷ rest) + count_frames a below) → NoReleases action rest
        → FitsNext P rel A (machine_memory P see.object_at) (releases_in_work below) K (action, rest) (env_of f.slots) now os
        → Fine P rel A see t stands flag (act P see t f below rest action)
    act_fine (W.Push v) rest os known own none fits = push_fine P rel A see t f below rest flag own_frame own os known v fits
    act_fine (W.Load x) rest os known own none fits = load_fine P rel A see t f below rest flag own_frame own os known x fits.0 fits.1 fits.2 (slice_get f.slots x) refl
    act_fine (W.Store x) rest os known own none fits = store_fine P rel A see t f below rest flag own_frame own os known x fits (slice_get f.slots x) refl
    act_fine W.Drop rest os known own none fits = drop_fine P rel A see t f below rest flag own_frame own os known fits
    act_fine (W.Unary op) rest os known own none fits = unary_fine P rel A see t f below rest flag own_frame own os known (unary_value op (top f.operands)) fits
    act_fine (W.Binary op) rest os known own none fits = binary_fine P rel A see t f below rest flag own_frame own os known fits (binary_value op (top (under f.operands)) (top f.operands))
    act_fine (W.AndThen e) rest os known own none fits = and_fine P rel A see t f below rest flag own_frame own os known e fits (as_truth (top f.operands))
    act_fine (W.OrElse e) rest os known own none fits = or_fine P rel A see t f below rest flag own_frame own os known e fits (as_truth (top f.operands))
    act_fine (W.Choose s u) rest os known own none fits = choose_fine P rel A see t f below rest flag own_frame own os known s u fits (as_truth (top f.operands))
    act_fine (W.Loop e s) rest os known own none fits = loop_fine P rel A see t f below rest flag own_frame own os known e s fits (as_truth (top f.operands))
    act_fine (W.Get x) rest os known own none fits = get_fine P rel A see t f below rest flag own_frame own os known x fits (address_of (top f.operands)) refl
    act_fine (W.Put x) rest os known own none fits = put_fine P rel A see t f below rest flag own_frame own os known x fits (address_of (top (under f.operands))) refl
    act_fine (W.New c) rest os known own none fits = new_fine P rel A see t f below rest flag own_frame own os known c fits free (slice_get P.classes c) refl
    act_fine (W.Call m) rest os known own none fits = call_fine P rel A accepted see t f below rest flag own_frame own os known m fits (slice_get P.methods m) refl
    act_fine (W.Acquire s) rest os known own none fits = acquire_fine P rel A see t f below rest flag own_frame own os known s fits (address_of (top f.operands)) refl
    act_fine (W.Release a) rest os known own none fits = release_fine P rel A see t f below rest flag own_frame a own fits (see.lock_at a) refl
    act_fine W.Ret rest os known own none fits = return_fine P rel A see t f rest flag below own none (subst K (none_return (releases_in_work below) rest now none) fits)
    act_fine W.Print rest os known own none fits = print_fine P rel A see t f below rest flag own_frame own os known fits
    act_fine W.Start rest os known own none fits = start_fine P rel A see t f below rest flag own_frame own os known accepted fits (address_of (top f.operands))

    counted : (n m k : ℕ) (x : ℕ) → x ≡ n + k → m ≡ n → x ≡ m + k
    counted n m k x e same = omega (arith, e, same)

    next_fine : (o : Option Next) (os : Paths) → LeadEach P (machine_memory P see.object_at) (env_of f.slots) os f.operands → ((a : Address) → Counts a o (count_release a f.work)) → Settled o
        → Opens P rel A (machine_memory P see.object_at) (releases_in_work below) K o (env_of f.slots) now os → Fine P rel A see t stands flag (act_next P see t f below o)
    next_fine None os known counts settled opens = fault_fine P rel A see t f below [] flag own_frame fault.Null
    next_fine (Some next) os known counts settled opens = act_fine next.0 next.1 os known
        (λ a. counted (count_release a f.work) (count_release a (Act next.0 ∷ next.1)) (count_frames a below) (held_count t (see.lock_at a)) (own_frame a) (counts a)) settled opens

    either_fine : (os : Paths) → LeadEach P (machine_memory P see.object_at) (env_of f.slots) os f.operands
        → Opens P rel A (machine_memory P see.object_at) (releases_in_work below) K (unfolded f.work) (env_of f.slots) now os
        ⊎ Opens P rel A (machine_memory P see.object_at) (releases_in_work below) K (unfolded f.work) (env_of f.slots) now []
        → Fine P rel A see t stands flag (act_next P see t f below (unfolded f.work))
    either_fine os known (inl opens) = next_fine (unfolded f.work) os known (λ a. unfolded_count a f.work) (unfolded_settled f.work) opens
    either_fine os known (inr opens) = next_fine (unfolded f.work) [] tt (λ a. unfolded_count a f.work) (unfolded_settled f.work) opens

    frame_fine : FramesFit P rel A (machine_memory P see.object_at) (f ∷ below) [] now → Fine P rel A see t stands flag (act_next P see t f below (unfolded f.work))
    frame_fine fits = either_fine fits.paths fits.lead
        (frames_unfold P rel A (machine_memory P see.object_at) f below now fits)

  -- the turn of a safe thread
  pub turn_fine : (thread : Option Thread) (flag : Bool) → IsSafeThread P rel A (machine_memory P see.object_at) see.lock_at t flag thread → Fine P rel A see t (is_inside_some P thread) flag (turn P see t thread)
  turn_fine None flag safe = tt
  turn_fine (Some (Ready a m)) flag safe = enter_fine P rel A accepted see t safe.0 a m flag safe.2 (slice_get P.methods m) refl
  turn_fine (Some (Running [])) flag safe = record { kind = refl; thread = safe.1; grows = grows_itself P (machine_memory P see.object_at); others = λ u other b. refl; started = tt }
  turn_fine (Some (Running (f ∷ below))) flag safe = frame_fine f below flag safe.1 safe.0
  turn_fine (Some Done) flag safe = tt
  turn_fine (Some (Faulted why fs)) flag safe = tt
