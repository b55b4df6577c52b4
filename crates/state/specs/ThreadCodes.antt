-- How frames and threads are stored, by which a proof tells them apart.
use Rattle.std.specs.Prelude.{◌≡◌, ◌⊎◌, ℕ, Bool, true, false, List, Option, Some, None, refl}
use Rattle.std.proofs.Common.{inl, inr}
use Rattle.std.specs.Coded.{Coded, code_by, coded×, coded⊎, coded_ℕ, coded_bool, coded_list, coded_option}
use Rattle.state.specs.declared.value.Address.{Address}
use Rattle.state.specs.declared.value.Value.{Value}
use Rattle.state.specs.declared.value.Value.TheVariants.{Null}
use Rattle.state.specs.Slots.{address_code}
use Rattle.state.specs.declared.value.Fault.{Fault}
use Rattle.state.specs.declared.value.Fault.TheVariants as fault
use Rattle.state.specs.States.{ThreadOf, Ready, Running, Done, Faulted}
use Rattle.state.specs.Frames.{CellFrame}
use Rattle.state.specs.Codes.{value_code}

-- how a frame is stored, part by part
abbrev pub frame_code : Coded CellFrame
frame_code = code_by ((ℕ × List Value) × ((List Value × ℕ) × (List Address × ℕ)))
    (coded× (coded× coded_ℕ (coded_list value_code)) (coded× (coded× (coded_list value_code) coded_ℕ) (coded× (coded_list address_code) coded_ℕ)))
    (λ f. ((f.method, f.slots), ((f.operands, f.place), (f.taken, f.room))))
    (λ p. record { method = p.0.0; slots = p.0.1; operands = p.1.0.0; place = p.1.0.1; taken = p.1.1.0; room = p.1.1.1 }) (λ _. refl)

-- a fault as two truth values
abbrev pub kind_number : Fault → Bool × Bool
kind_number fault.Null = (true, true)
kind_number fault.Zero = (true, false)
kind_number fault.Depth = (false, false)

-- the kind of a fault that is stored so
abbrev pub kind_of_number : Bool × Bool → Fault
kind_of_number (true, true) = fault.Null
kind_of_number (true, false) = fault.Zero
kind_of_number (false, b) = fault.Depth

-- a kind that is stored and loaded is the same
pub kind_back : (kind : Fault) → kind_of_number (kind_number kind) ≡ kind
kind_back fault.Null = refl
kind_back fault.Zero = refl
kind_back fault.Depth = refl

-- a thread as an object and a method, frames, nothing, or a fault and frames
abbrev pub StoredThread : Type 0
StoredThread = ((ℕ × ℕ) × ℕ) ⊎ (List CellFrame ⊎ Option ((Bool × Bool) × List CellFrame))

-- a thread as it is stored
abbrev pub store_thread : ThreadOf CellFrame → StoredThread
store_thread (Ready a m) = inl ((a.thread, a.count), m)
store_thread (Running fs) = inr (inl fs)
store_thread Done = inr (inr None)
store_thread (Faulted kind fs) = inr (inr (Some (kind_number kind, fs)))

-- the thread that is stored so
abbrev pub load_thread : StoredThread → ThreadOf CellFrame
load_thread (inl p) = Ready (record { thread = p.0.0; count = p.0.1 }) p.1
load_thread (inr (inl fs)) = Running fs
load_thread (inr (inr None)) = Done
load_thread (inr (inr (Some p))) = Faulted (kind_of_number p.0) p.1

-- a thread that is stored and loaded is the same
pub thread_back : (t : ThreadOf CellFrame) → load_thread (store_thread t) ≡ t
thread_back (Ready a m) = refl
thread_back (Running fs) = refl
thread_back Done = refl
thread_back (Faulted kind fs) = λ i. Faulted (kind_back kind i) fs

-- how a thread is stored
abbrev pub thread_code : Coded (ThreadOf CellFrame)
thread_code = code_by StoredThread
    (coded⊎ (coded× (coded× coded_ℕ coded_ℕ) coded_ℕ) (coded⊎ (coded_list frame_code) (coded_option (coded× (coded× coded_bool coded_bool) (coded_list frame_code)))))
    store_thread load_thread thread_back
