-- Frames keep room for the operands of their methods.
use Rattle.std.proofs.Common.{◌≡◌, ℕ, ◌+◌, ◌≤◌, zero, suc, max, List, [], ◌∷◌, length, refl, sym, ap, subst, ◌∙◌, arith}
use Rattle.std.specs.Prelude.{Option, Some, None, Result, Ok, Err, IsOk, ◌++◌, OnOk, OnErr, slice_get, slice_set}
use Rattle.std.specs.declared.alloc.AllocError.{AllocError}
use Rattle.state.specs.declared.value.Address.{Address}
use Rattle.state.specs.declared.value.Value.{Value}
use Rattle.state.specs.States.{ThreadOf, Ready, Running, Done, Faulted}
use Rattle.state.specs.Frames.{CellFrame, frames_in, on_first, on_top, top_frame, rest_of, settled, with_given}
use Rattle.machine.specs.Rooms.{IsRoomy, AreRoomy, AllRoomy, StaysRoomy, FitsIn}
use Rattle.machine.specs.declared.deed.Deed.{Deed}

module _ (rooms : List ℕ) where
  -- a frame that is changed keeps its method, and has no less room in all
  pub record Widens (f g : CellFrame) : Type 0 where
    pub method : g.method ≡ f.method
    pub room : length f.operands + f.room ≤ length g.operands + g.room

  widened : (f g : CellFrame) → Widens f g → IsRoomy rooms f → IsRoomy rooms g
  widened f g w is most there = let below = is most (ap (slice_get rooms) (sym w.method) ∙ there) in omega (arith, below, w.room)

  pub first_roomy : (g : CellFrame → CellFrame) → ((f : CellFrame) → Widens f (g f)) → (fs : List CellFrame) → AreRoomy rooms fs → AreRoomy rooms (on_first g fs)
  first_roomy g w [] h = tt
  first_roomy g w (f ∷ fs) h = (widened f (g f) (w f) h.0, h.1)

  top_frames : (g : CellFrame → CellFrame) (t : ThreadOf CellFrame) → frames_in (on_top g t) ≡ on_first g (frames_in t)
  top_frames g (Ready a m) = refl
  top_frames g (Running fs) = refl
  top_frames g Done = refl
  top_frames g (Faulted kind fs) = refl

  pub top_roomy : (g : CellFrame → CellFrame) → ((f : CellFrame) → Widens f (g f)) → (old new : ThreadOf CellFrame) → new ≡ on_top g old → StaysRoomy rooms old new
  top_roomy g w old new is h = subst (AreRoomy rooms) (sym (ap frames_in is ∙ top_frames g old)) (first_roomy g w (frames_in old) h)

  pub rest_roomy : (fs : List CellFrame) → AreRoomy rooms fs → AreRoomy rooms (rest_of fs)
  rest_roomy [] h = tt
  rest_roomy (f ∷ fs) h = h.1

  pub settled_widens : (drops : ℕ) (gives : Option Value) (place : ℕ) (f : CellFrame) → Widens f (settled drops gives place f)
  settled_widens drops gives place f = record { method = refl; room = omega arith }

  pub given_widens : (gives : Option Value) (f : CellFrame) → Widens f (with_given gives f)
  given_widens None f = record { method = refl; room = omega arith }
  given_widens (Some v) f = record { method = refl; room = omega arith }

  pub made_widens : (n : ℕ) (f : CellFrame) → Widens f (record f { room = max n f.room })
  made_widens n f = record { method = refl; room = omega arith }

  pub slots_widen : (slot : ℕ) (v : Value) (f : CellFrame) → Widens f (record f { slots = slice_set f.slots slot v })
  slots_widen slot v f = record { method = refl; room = omega arith }

  pub place_widens : (place : ℕ) (f : CellFrame) → Widens f (record f { place = place })
  place_widens place f = record { method = refl; room = omega arith }

  pub given_back_widens : (f : CellFrame) → Widens f (record f { taken = rest_of f.taken })
  given_back_widens f = record { method = refl; room = omega arith }

  pub taken_widens : (a : Address) (f : CellFrame) → Widens f (record f { taken = a ∷ f.taken })
  taken_widens a f = record { method = refl; room = omega arith }

  pub same_roomy : (old new : ThreadOf CellFrame) → new ≡ old → StaysRoomy rooms old new
  same_roomy old new is h = subst (λ t. AreRoomy rooms (frames_in t)) (sym is) h

  -- by what is answered
  pub roomy_or : (r : Result (Unit {0}) AllocError) (g : CellFrame → CellFrame) → ((f : CellFrame) → Widens f (g f)) → (old new : ThreadOf CellFrame) → OnOk r (new ≡ on_top g old) → OnErr r (new ≡ old) → StaysRoomy rooms old new
  roomy_or (Ok u) g w old new ok err = top_roomy g w old new ok
  roomy_or (Err e) g w old new ok err = same_roomy old new err

  pub result_roomy : (r : Result (Unit {0}) AllocError) (gives : Option Value) (old new : ThreadOf CellFrame) → OnOk r (frames_in new ≡ on_first (with_given gives) (rest_of (frames_in old))) → OnErr r (new ≡ old) → StaysRoomy rooms old new
  result_roomy (Ok u) gives old new ok err h = subst (AreRoomy rooms) (sym ok) (first_roomy (with_given gives) (given_widens gives) (rest_of (frames_in old)) (rest_roomy (frames_in old) h))
  result_roomy (Err e) gives old new ok err h = same_roomy old new err h

  pub called_roomy : (r : Result (Unit {0}) AllocError) (f : CellFrame) (n place : ℕ) (old new : ThreadOf CellFrame) → slice_get rooms f.method ≡ Some f.room → f.operands ≡ []
      → OnOk r (new ≡ Running (f ∷ on_first (settled n None place) (frames_in old))) → OnErr r (new ≡ old) → StaysRoomy rooms old new
  called_roomy (Ok u) f n place old new room none ok err h =
      subst (λ t. AreRoomy rooms (frames_in t)) (sym ok) (λ most there. (let same : most ≡ f.room = cc in omega (arith, same)), first_roomy (settled n None place) (settled_widens n None place) (frames_in old) h)
  called_roomy (Err e) f n place old new room none ok err h = same_roomy old new err h

  pub fault_roomy : (old new : ThreadOf CellFrame) → frames_in new ≡ frames_in old → StaysRoomy rooms old new
  fault_roomy old new is h = subst (AreRoomy rooms) (sym is) h

  pub set_roomy : (ts : List (ThreadOf CellFrame)) (t : ℕ) (after : ThreadOf CellFrame) → AllRoomy rooms ts → AreRoomy rooms (frames_in after) → AllRoomy rooms (slice_set ts t after)
  set_roomy [] t after all one = tt
  set_roomy (c ∷ cs) zero after all one = (one, all.1)
  set_roomy (c ∷ cs) (suc t) after all one = (all.0, set_roomy cs t after all.1 one)

  pub one_roomy : (ts : List (ThreadOf CellFrame)) (t : ℕ) (c : ThreadOf CellFrame) → slice_get ts t ≡ Some c → AllRoomy rooms ts → AreRoomy rooms (frames_in c)
  one_roomy [] t c there all = absurd cc
  one_roomy (d ∷ ds) zero c there all = let same : d ≡ c = cc in subst (λ x. AreRoomy rooms (frames_in x)) same all.0
  one_roomy (d ∷ ds) (suc t) c there all = one_roomy ds t c there all.1

  pub pushed_roomy : (r : Result (Unit {0}) AllocError) (f : CellFrame) (old new : ThreadOf CellFrame) → slice_get rooms f.method ≡ Some f.room → f.operands ≡ []
      → OnOk r (new ≡ Running (f ∷ frames_in old)) → OnErr r (new ≡ old) → StaysRoomy rooms old new
  pushed_roomy (Ok u) f old new room none ok err h = subst (λ t. AreRoomy rooms (frames_in t)) (sym ok) (λ most there. (let same : most ≡ f.room = cc in omega (arith, same)), h)
  pushed_roomy (Err e) f old new room none ok err h = same_roomy old new err h

  appended_roomy : (ts : List (ThreadOf CellFrame)) (c : ThreadOf CellFrame) → AreRoomy rooms (frames_in c) → AllRoomy rooms ts → AllRoomy rooms (ts ++ c ∷ [])
  appended_roomy [] c one all = (one, tt)
  appended_roomy (d ∷ ds) c one all = (all.0, appended_roomy ds c one all.1)

  pub more_roomy : (ts more : List (ThreadOf CellFrame)) (c : ThreadOf CellFrame) (a : Address) (m : ℕ) → more ≡ ts ++ c ∷ [] → c ≡ Ready a m → AllRoomy rooms ts → AllRoomy rooms more
  more_roomy ts more c a m is ready all = subst (AllRoomy rooms) (sym is) (appended_roomy ts c (subst (λ x. AreRoomy rooms (frames_in x)) (sym ready) tt) all)

pub lean_found : (ts : List (ThreadOf CellFrame)) (t : ℕ) (cell : ThreadOf CellFrame) → slice_get ts t ≡ Some cell → (f : CellFrame) (fs : List CellFrame) → slice_get ts t ≡ Some (Running (f ∷ fs))
    → (r : Result (Unit {0}) AllocError) (d : Deed) → ((g : CellFrame) → top_frame cell ≡ Some g → FitsIn g (rest_of (frames_in cell)) d → IsOk r) → FitsIn f fs d → IsOk r
lean_found ts t cell there f fs is r d lean fits =
    let same : Running (f ∷ fs) ≡ cell = cc in
    subst (λ x. ((g : CellFrame) → top_frame x ≡ Some g → FitsIn g (rest_of (frames_in x)) d → IsOk r) → IsOk r) same (λ h. h f refl fits) lean
