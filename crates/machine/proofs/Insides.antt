-- Who stands inside an atomic call, of threads as they are kept and of those that they stand for.
use Rattle.std.proofs.Common.{◌≡◌, ℕ, zero, suc, ◌+◌, List, [], ◌∷◌, ◌≤◌, length, reverse, drop, refl, sym, ap, ◌∙◌, add-one, arith}
use Rattle.std.specs.Prelude.{Bool, true, false, not, cond, nat_lt, ◌||◌, Some, None, position, map, slice_get}
use Rattle.std.specs.List.{list_any, prefix_len}
use Rattle.std.specs.Option.{option_map}
use Rattle.std.proofs.Math.Bool.{or_comm, or-false}
use Rattle.std.proofs.lemmas.List.{reverse-append}
use Rattle.std.proofs.lemmas.List.Folds.{list_any-append}
use Rattle.std.proofs.lemmas.Option.{slice_get-map}
use Rattle.core_program.specs.Core.{Program}
use Rattle.state.specs.States.{Frame, Thread, ThreadOf, Ready, Running, Done, Faulted, StateOf, State}
use Rattle.state.specs.Frames.{CellFrame, code_frame, code_thread}
use Rattle.compile.specs.declared.stack.Code.{Code}
use Rattle.semantics.specs.Run.{is_annotated, is_inside, open_thread}
use Rattle.machine.specs.Inside.{frame_inside, method_inside, cell_inside}
use Rattle.machine.specs.Likeness.{FramesStand, no_frames, more_frames, ThreadStands, ready_stands, running_stands, done_stands, faulted_stands, ThreadsStand, no_threads, more_threads, StateStands}
use Rattle.machine.specs.MachineValue.{code_state}

pub any_reverse : {A : Type 0} (p : A → Bool) (xs : List A) → list_any p (reverse xs) ≡ list_any p xs
any_reverse p [] = refl
any_reverse p (x ∷ xs) =
    ap (list_any p) (reverse-append (x ∷ []) xs) ∙ list_any-append p (reverse xs) (x ∷ []) ∙ or_comm (list_any p (reverse xs)) (p x || false)
    ∙ ap (λ b. b || list_any p (reverse xs)) (or-false (p x)) ∙ ap (λ b. p x || b) (any_reverse p xs)

module _ (P : Program) where
  abbrev annotated_at : ℕ → Bool
  annotated_at m = is_annotated (slice_get P.methods m)

  abbrev pub depth_is : List CellFrame → ℕ → Bool
  depth_is fs depth = method_inside P (option_map (λ f. f.method) (slice_get fs depth))

  past : (fs : List CellFrame) (depth : ℕ) → depth_is fs depth ≡ false → list_any (frame_inside P) (drop (suc depth) fs) ≡ list_any (frame_inside P) (drop depth fs)
  past [] zero outside = refl
  past [] (suc depth) outside = refl
  past (f ∷ fs) zero outside = ap (λ b. b || list_any (frame_inside P) fs) (sym outside)
  past (f ∷ fs) (suc depth) outside = past fs depth outside

  -- frames from a depth on: the one at it isn't inside, or is, or there is none
  pub past_one : (fs : List CellFrame) (depth : ℕ) → depth_is fs depth ≡ false → list_any (frame_inside P) (drop (depth + 1) fs) ≡ list_any (frame_inside P) (drop depth fs)
  past_one fs depth outside = ap (λ n. list_any (frame_inside P) (drop n fs)) (add-one depth) ∙ past fs depth outside

  pub at_one : (fs : List CellFrame) (depth : ℕ) → depth_is fs depth ≡ true → list_any (frame_inside P) (drop depth fs) ≡ true
  at_one [] depth inside = absurd cc
  at_one (f ∷ fs) zero inside = ap (λ b. b || list_any (frame_inside P) fs) inside
  at_one (f ∷ fs) (suc depth) inside = at_one fs depth inside

  pub at_end : (fs : List CellFrame) (depth : ℕ) → length fs ≤ depth → list_any (frame_inside P) (drop depth fs) ≡ false
  at_end [] zero past = refl
  at_end [] (suc depth) past = refl
  at_end (f ∷ fs) zero past = absurd (omega arith)
  at_end (f ∷ fs) (suc depth) past = at_end fs depth (omega arith)

  module _ (code : List Code) where
    frames_same : (fs : List CellFrame) (gs : List Frame) → FramesStand P code (map code_frame fs) gs → list_any (frame_inside P) fs ≡ list_any (λ f. is_annotated (slice_get P.methods f.method)) gs
    frames_same [] _ no_frames = refl
    frames_same (f ∷ fs) _ (more_frames _ work _ gs left stand) = ap (λ b. annotated_at f.method || b) (frames_same fs gs stand)

    thread_same : (c : ThreadOf CellFrame) (t : Thread) → ThreadStands P code (code_thread c) t → cell_inside P c ≡ is_inside P t
    thread_same (Ready _ _) _ (ready_stands a m) = refl
    thread_same (Running fs) _ (running_stands _ gs stand) = frames_same fs gs stand
    thread_same Done _ done_stands = refl
    thread_same (Faulted _ fs) _ (faulted_stands kind _ gs stand) = frames_same fs gs stand

    threads_same : (cs : List (ThreadOf CellFrame)) (ts : List Thread) → ThreadsStand P code (map code_thread cs) ts → map (cell_inside P) cs ≡ map (is_inside P) ts
    threads_same [] _ no_threads = refl
    threads_same (c ∷ cs) _ (more_threads _ t _ ts one more) = λ j. thread_same c t one j ∷ threads_same cs ts more j

    -- one thread, and the first one
    pub inside_same : (s : StateOf CellFrame) (q : State) (t : ℕ) → StateStands P code (code_state s) q → option_map (cell_inside P) (slice_get s.threads t) ≡ option_map (is_inside P) (slice_get q.threads t)
    inside_same s q t h =
        sym (slice_get-map (cell_inside P) s.threads t) ∙ ap (λ bs. slice_get bs t) (threads_same s.threads q.threads h.threads) ∙ slice_get-map (is_inside P) q.threads t

    same_prefix : (cs : List (ThreadOf CellFrame)) (ts : List Thread) → ThreadsStand P code (map code_thread cs) ts → prefix_len (λ c. not (cell_inside P c)) cs ≡ prefix_len (λ t. not (is_inside P t)) ts
    same_prefix [] _ no_threads = refl
    same_prefix (c ∷ cs) _ (more_threads _ t _ ts one more) = λ j. cond (not (thread_same c t one j)) (1 + same_prefix cs ts more j) 0

    as_many : (cs : List (ThreadOf CellFrame)) (ts : List Thread) → ThreadsStand P code (map code_thread cs) ts → length cs ≡ length ts
    as_many [] _ no_threads = refl
    as_many (c ∷ cs) _ (more_threads _ t _ ts one more) = ap suc (as_many cs ts more)

    pub open_same : (s : StateOf CellFrame) (q : State) → StateStands P code (code_state s) q → position (cell_inside P) s.threads ≡ open_thread P q
    open_same s q h =
        let place = same_prefix s.threads q.threads h.threads in
        let count = as_many s.threads q.threads h.threads in
        λ j. cond (nat_lt (place j) (count j)) (Some (place j)) None
