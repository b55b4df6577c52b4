-- How plain states are stored, by which a proof tells them apart.
use Rattle.std.specs.Prelude.{◌≡◌, ◌⊎◌, ℕ, ℤ, Bool, true, false, List, [], ◌∷◌, refl}
use Rattle.std.proofs.Common.{inl, inr}
use Rattle.std.specs.Coded.{Coded, code_by, coded×, coded⊎, coded_ℕ, coded_ℤ, coded_bool, coded_list}
use Rattle.std.specs.FinMap as finite
use Rattle.state.specs.Memory.{Heap, Locks}
use Rattle.state.specs.Slots.{address_code}
use Rattle.state.specs.Codes.{object_code, hold_code}
use Rattle.state.specs.States.{Ready, Running, Done, Faulted}
use Rattle.state.specs.ThreadCodes.{kind_number, kind_of_number, kind_back}
use Rattle.replay.specs.Plain.{NoFrame, PlainThread, Plain}

-- a status as an object and a method, a truth value, or a fault
abbrev pub StoredStatus : Type 0
StoredStatus = ((ℕ × ℕ) × ℕ) ⊎ (Bool ⊎ (Bool × Bool))

-- a status as it is stored
abbrev pub store_status : PlainThread → StoredStatus
store_status (Ready a m) = inl ((a.thread, a.count), m)
store_status (Running frames) = inr (inl true)
store_status Done = inr (inl false)
store_status (Faulted kind frames) = inr (inr (kind_number kind))

-- the status that is stored so; plain states keep no frames
abbrev pub load_status : StoredStatus → PlainThread
load_status (inl p) = Ready (record { thread = p.0.0; count = p.0.1 }) p.1
load_status (inr (inl true)) = Running []
load_status (inr (inl false)) = Done
load_status (inr (inr p)) = Faulted (kind_of_number p) []

-- a list of frames of a plain state is empty, since it has no frame that could stand in it
pub no_frames : (frames : List NoFrame) → [] ≡ frames
no_frames [] = refl
no_frames (f ∷ frames) = absurd f

-- a status that is stored and loaded is the same
pub status_back : (t : PlainThread) → load_status (store_status t) ≡ t
status_back (Ready a m) = refl
status_back (Running frames) = λ i. Running (no_frames frames i)
status_back Done = refl
status_back (Faulted kind frames) = λ i. Faulted (kind_back kind i) (no_frames frames i)

-- how a status is stored
abbrev pub status_code : Coded PlainThread
status_code = code_by StoredStatus (coded⊎ (coded× (coded× coded_ℕ coded_ℕ) coded_ℕ) (coded⊎ coded_bool (coded× coded_bool coded_bool))) store_status load_status status_back

-- how a plain state is stored: its heap, its locks, the status of each thread, and what was printed
abbrev pub plain_code : Coded Plain
plain_code = code_by ((Heap × Locks) × (List PlainThread × List ℤ))
    (coded× (coded× (finite.code address_code object_code) (finite.code address_code hold_code)) (coded× (coded_list status_code) (coded_list coded_ℤ)))
    (λ q. ((q.heap, q.locks), (q.threads, q.output))) (λ p. record { heap = p.0.0; locks = p.0.1; threads = p.1.0; output = p.1.1 }) (λ _. refl)
