-- Threads with and without the rooms of their frames.
use Rattle.std.proofs.Common.{◌≡◌, ℕ, ◌+◌, List, [], ◌∷◌, refl, sym, ap, ◌∙◌}
use Rattle.std.specs.declared.alloc.AllocError.{AllocError}
use Rattle.std.specs.Prelude.{Result, Ok, Err, OnOk, Option, Some, None, map, slice_get, slice_set}
use Rattle.std.proofs.lemmas.List.{map-set}
use Rattle.core_program.specs.Core.{Method}
use Rattle.state.specs.declared.value.Value.{Value}
use Rattle.state.specs.States.{ThreadOf, Ready, Running, Done, Faulted, new_slots}
use Rattle.state.specs.Frames.{CellFrame, code_frame, code_thread, frames_in, top_frame, on_first, on_top, popped, frame_given, settled, operands_of}
use Rattle.state.specs.declared.value.Address.{Address}
use Rattle.machine.specs.Listed.{listed}
use Rattle.machine.specs.Taken.{first_thread}
use Rattle.machine.specs.Deeds.{called_thread, advanced, given_on, operands_in}

pub operands_same : (t : ThreadOf CellFrame) → operands_in (code_thread t) ≡ operands_of (top_frame t)
operands_same (Ready a m) = refl
operands_same (Running []) = refl
operands_same (Running (f ∷ fs)) = refl
operands_same Done = refl
operands_same (Faulted kind []) = refl
operands_same (Faulted kind (f ∷ fs)) = refl

frames_same : (n place : ℕ) (t : ThreadOf CellFrame) → map code_frame (on_first (settled n None place) (frames_in t)) ≡ on_first (advanced n None place) (frames_in (code_thread t))
frames_same n place (Ready a m) = refl
frames_same n place (Running []) = refl
frames_same n place (Running (f ∷ fs)) = refl
frames_same n place Done = refl
frames_same n place (Faulted kind []) = refl
frames_same n place (Faulted kind (f ∷ fs)) = refl

-- a method was entered
pub entered_like : (m : ℕ) (method : Method) (this : Value) (n place at most : ℕ) (slots : List Value) (t new : ThreadOf CellFrame)
    → new ≡ Running (record { method = m; slots = slots; operands = []; place = at; taken = []; room = most } ∷ on_first (settled (n + 1) None place) (frames_in t))
    → slots ≡ new_slots method this (listed n (operands_of (top_frame t)))
    → code_thread new ≡ called_thread m (Some method) this n place at (code_thread t)
entered_like m method this n place at most slots t new is slots_is =
    let slots_are = slots_is ∙ ap (λ ops. new_slots method this (listed n ops)) (sym (operands_same t)) in
    ap code_thread is ∙ (λ j. Running (record { method = m; slots = slots_are j; operands = []; place = at; taken = [] } ∷ frames_same (n + 1) place t j))

pub result_like : (gives : Option Value) (t : ThreadOf CellFrame) → code_thread (on_top (λ f. record f { operands = frame_given gives f.operands }) (popped t)) ≡ on_top (given_on gives) (popped (code_thread t))
result_like gives (Ready a m) = refl
result_like gives (Running []) = refl
result_like gives (Running (f ∷ [])) = refl
result_like gives (Running (f ∷ g ∷ fs)) = refl
result_like gives Done = refl
result_like gives (Faulted kind []) = refl
result_like gives (Faulted kind (f ∷ [])) = refl
result_like gives (Faulted kind (f ∷ g ∷ fs)) = refl

pub entered_ok : (r : Result (Unit {0}) AllocError) (m : ℕ) (method : Method) (this : Value) (n place at most : ℕ) (slots : List Value) (t new : ThreadOf CellFrame)
    → OnOk r (new ≡ Running (record { method = m; slots = slots; operands = []; place = at; taken = []; room = most } ∷ on_first (settled (n + 1) None place) (frames_in t)))
    → slots ≡ new_slots method this (listed n (operands_of (top_frame t)))
    → OnOk r (code_thread new ≡ called_thread m (Some method) this n place at (code_thread t))
entered_ok (Ok u) m method this n place at most slots t new is slots_is = entered_like m method this n place at most slots t new is slots_is
entered_ok (Err e) m method this n place at most slots t new is slots_is = tt

pub result_ok : (r : Result (Unit {0}) AllocError) (gives : Option Value) (t new : ThreadOf CellFrame)
    → OnOk r (code_thread new ≡ code_thread (on_top (λ f. record f { operands = frame_given gives f.operands }) (popped t))) → OnOk r (code_thread new ≡ on_top (given_on gives) (popped (code_thread t)))
result_ok (Ok u) gives t new is = is ∙ result_like gives t
result_ok (Err e) gives t new is = tt

-- a ready thread entered its method
pub first_ok : (r : Result (Unit {0}) AllocError) (a : Address) (m : ℕ) (method : Method) (this : Value) (at most : ℕ) (slots : List Value) (old new : ThreadOf CellFrame)
    → old ≡ Ready a m → OnOk r (new ≡ Running (record { method = m; slots = slots; operands = []; place = at; taken = []; room = most } ∷ frames_in old))
    → slots ≡ new_slots method this [] → OnOk r (code_thread new ≡ first_thread m method this at)
first_ok (Ok u) a m method this at most slots old new ready is slots_is =
    ap code_thread (is ∙ (λ j. Running (record { method = m; slots = slots_is j; operands = []; place = at; taken = []; room = most } ∷ frames_in (ready j))))
first_ok (Err e) a m method this at most slots old new ready is slots_is = tt

pub first_set : (r : Result (Unit {0}) AllocError) (ts : List (ThreadOf CellFrame)) (t : ℕ) (after : ThreadOf CellFrame) (methods : List Method) (m : ℕ) (method : Method) (n : ℕ) (this : Value) (at : ℕ)
    → slice_get methods m ≡ Some method → OnOk r (code_thread after ≡ first_thread n method this at)
    → OnOk r ((other : Method) → slice_get methods m ≡ Some other → map code_thread (slice_set ts t after) ≡ slice_set (map code_thread ts) t (first_thread n other this at))
first_set (Ok u) ts t after methods m method n this at there is =
    λ other found. map-set code_thread ts t after ∙ ap (slice_set (map code_thread ts) t) (is ∙ ap (λ x. first_thread n x this at) (let same : method ≡ other = cc in same))
first_set (Err e) ts t after methods m method n this at there is = tt
