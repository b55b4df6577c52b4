-- Threads without the rooms of their frames.
use Rattle.std.proofs.Common.{◌≡◌, ℕ, zero, suc, ◌+◌, ◌-◌, ◌<◌, ◌≤◌, List, [], ◌∷◌, ◌++◌, length, take, drop, get_or, reverse, refl, sym, ap, subst, ◌∙◌, arith, drop-cons}
use Rattle.std.proofs.Math.ListN.{set}
use Rattle.std.specs.Prelude.{Result, Ok, Err, IsOk, OnOk, Option, Some, None, map}
use Rattle.std.specs.Option.{option_map}
use Rattle.state.specs.declared.value.Address.{Address}
use Rattle.state.specs.declared.value.ThreadState.{ThreadState}
use Rattle.state.specs.declared.value.ThreadState.TheVariants as status
use Rattle.state.specs.Frames.{CellFrame, code_frame, code_thread, frames_from, thread_of, on_first, HasSpare}
use Rattle.std.proofs.lemmas.List.{reverse-append, take-append-drop, set_split}
use Rattle.std.specs.declared.alloc.AllocError.{AllocError}
use Rattle.state.specs.declared.value.Value.{Value}
use Rattle.state.specs.Values.{dropped}
use Rattle.state.specs.States.{Running}

pub map-append : {A B : Type 0} (f : A → B) (xs ys : List A) → map f (xs ++ ys) ≡ map f xs ++ map f ys
map-append f [] ys = refl
map-append f (x ∷ xs) ys = ap (λ l. f x ∷ l) (map-append f xs ys)

pub map-reverse : {A B : Type 0} (f : A → B) (xs : List A) → map f (reverse xs) ≡ reverse (map f xs)
map-reverse f [] = refl
map-reverse f (x ∷ xs) =
    ap (map f) (reverse-append (x ∷ []) xs) ∙ map-append f (reverse xs) (x ∷ []) ∙ ap (λ l. l ++ f x ∷ []) (map-reverse f xs) ∙ sym (reverse-append (f x ∷ []) (map f xs))

-- the frames are looked at one by one
frames_apart : (top : Option CellFrame) (below : List CellFrame) → map code_frame (frames_from top (reverse below)) ≡ frames_from (option_map code_frame top) (reverse (map code_frame below))
frames_apart None below = refl
frames_apart (Some f) below = ap (λ fs. code_frame f ∷ fs) (map-reverse code_frame below)

by_status : (state : ThreadState) (on : Address) (method : ℕ) (fs : List CellFrame) → code_thread (thread_of state on method fs) ≡ thread_of state on method (map code_frame fs)
by_status status.Ready on method fs = refl
by_status status.Running on method fs = refl
by_status status.Done on method fs = refl
by_status (status.Faulted kind) on method fs = refl

pub same_thread : (state : ThreadState) (on : Address) (method : ℕ) (top top' : Option CellFrame) (below below' : List CellFrame)
    → option_map code_frame top' ≡ option_map code_frame top → map code_frame below' ≡ map code_frame below
    → code_thread (thread_of state on method (frames_from top' (reverse below'))) ≡ code_thread (thread_of state on method (frames_from top (reverse below)))
same_thread state on method top top' below below' tops belows =
    by_status state on method (frames_from top' (reverse below'))
    ∙ ap (thread_of state on method) (frames_apart top' below' ∙ (λ j. frames_from (tops j) (reverse (belows j))) ∙ sym (frames_apart top below))
    ∙ sym (by_status state on method (frames_from top (reverse below)))

nothing_left : {A : Type 0} (n : ℕ) (ys : List A) → length ys ≤ n → drop n ys ≡ []
nothing_left zero [] h = refl
nothing_left zero (y ∷ ys) h = absurd (omega arith)
nothing_left (suc n) [] h = refl
nothing_left (suc n) (y ∷ ys) h = nothing_left n ys (omega arith)

-- the last frame in memory is the first one below
pub last_set : {A : Type 0} (xs : List A) (k : ℕ) (old v : A) → k + 1 ≡ length xs → old ≡ get_or xs k old
    → (reverse (set xs k v) ≡ v ∷ reverse (take k xs)) × (reverse xs ≡ old ∷ reverse (take k xs))
last_set xs k old v is found =
    let below : k < length xs = omega arith in
    let gone : drop (suc k) xs ≡ [] = nothing_left (suc k) xs (omega arith) in
    let there = sym found in
    let rest : drop k xs ≡ old ∷ [] = drop-cons xs k old below ∙ (λ j. there j ∷ gone j) in (
      ap reverse (set_split xs k v below ∙ (λ j. take k xs ++ v ∷ gone j)) ∙ reverse-append (take k xs) (v ∷ []),
      ap reverse (sym (take-append-drop k xs) ∙ (λ j. take k xs ++ rest j)) ∙ reverse-append (take k xs) (old ∷ []),
    )

pub on_last : {A : Type 0} (xs : List A) (k : ℕ) (old v : A) (g : A → A) → k + 1 ≡ length xs → old ≡ get_or xs k old → v ≡ g old → reverse (set xs k v) ≡ on_first g (reverse xs)
on_last xs k old v g is found v_is =
    let both = last_set xs k old v is found in
    both.0 ∙ (λ j. v_is j ∷ reverse (take k xs)) ∙ sym (ap (on_first g) both.1)

-- the last of some frames is given a value
pub given_last : (r : Result (Unit {0}) AllocError) (xs : List CellFrame) (k : ℕ) (old v : CellFrame) (value : Value) → k + 1 ≡ length xs → old ≡ get_or xs k old
    → OnOk r (v ≡ record old { operands = value ∷ old.operands; room = old.room - 1 })
    → OnOk r (map code_frame (reverse (set xs k v)) ≡ on_first (λ f. record f { operands = value ∷ f.operands }) (map code_frame (reverse xs)))
given_last (Err e) xs k old v value is found h = tt
given_last (Ok u) xs k old v value is found h =
    let both = last_set xs k old v is found in
    ap (map code_frame) both.0 ∙ (λ j. code_frame (h j) ∷ map code_frame (reverse (take k xs))) ∙ sym (ap (λ l. on_first (λ f. record f { operands = value ∷ f.operands }) (map code_frame l)) both.1)

-- a running thread whose lower frames are changed
pub called : (state : ThreadState) (on : Address) (method : ℕ) (top : Option CellFrame) (below below' : List CellFrame) (new : CellFrame) (olds : List CellFrame) (g : CellFrame → CellFrame)
    → thread_of state on method (frames_from top (reverse below)) ≡ Running (new ∷ olds) → reverse below' ≡ on_first g (reverse below)
    → thread_of state on method (frames_from top (reverse below')) ≡ Running (new ∷ on_first g olds)
called status.Ready on method top below below' new olds g is changed = absurd cc
called status.Done on method top below below' new olds g is changed = absurd cc
called (status.Faulted kind) on method top below below' new olds g is changed = absurd cc
called status.Running on method None below below' new olds g is changed = absurd cc
called status.Running on method (Some f) below below' new olds g is changed =
    let first : f ≡ new = cc in
    let others : reverse below ≡ olds = cc in
    λ j. Running (first j ∷ (changed ∙ ap (on_first g) others) j)

pub dropped_shorter : (n : ℕ) (ops : List Value) → length (dropped n ops) ≤ length ops
dropped_shorter zero ops = omega arith
dropped_shorter (suc n) [] = dropped_shorter n []
dropped_shorter (suc n) (v ∷ ops) = let p = dropped_shorter n ops in omega arith

pub ok_then : {A E P : Type 0} (r : Result A E) → IsOk r → OnOk r P → P
ok_then (Ok x) h p = p
ok_then (Err e) h p = absurd cc

pub on_last_ok : (r : Result (Unit {0}) AllocError) (xs : List CellFrame) (k : ℕ) (old v : CellFrame) (g : CellFrame → CellFrame) → k + 1 ≡ length xs → old ≡ get_or xs k old
    → OnOk r (v ≡ g old) → OnOk r (reverse (set xs k v) ≡ on_first g (reverse xs))
on_last_ok (Err e) xs k old v g is found h = tt
on_last_ok (Ok u) xs k old v g is found h = on_last xs k old v g is found h

-- the room of the last of some frames
pub last_spare : (xs : List CellFrame) (k : ℕ) (old : CellFrame) (value : Value) → k + 1 ≡ length xs → old ≡ get_or xs k old → HasSpare (Some value) (reverse xs) → 0 < old.room
last_spare xs k old value is found spare = subst (HasSpare (Some value)) (last_set xs k old old is found).1 spare
