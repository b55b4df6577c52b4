-- The thread alone beside the whole state, and plain states beside those with frames.
use Rattle.std.proofs.Common.{◌≡◌, ℕ, zero, suc, ◌+◌, ◌<◌, ◌≤◌, true, false, ◌||◌, List, [], ◌∷◌, ◌++◌, Some, refl, sym, ap, subst, ◌∙◌, arith}
use Rattle.std.specs.Prelude.{Option, length, replicate, slice_get, slice_set}
use Rattle.std.specs.List.{list_any}
use Rattle.std.proofs.lemmas.List.{map-append, set-append_left, set-set}
use Rattle.std.proofs.lemmas.Option.{none-some, same_Some, slice_get_within}
use Rattle.std.proofs.lemmas.Bool.{or_left}
use Rattle.std.proofs.Math.Bool.{or-true}
use Rattle.core_program.specs.Core.{Program}
use Rattle.state.proofs.MemoryLemmas.{set_same}
use Rattle.state.specs.States.{Frame, Thread, Ready, State}
use Rattle.semantics.specs.Step.{Change, Nothing, FieldIs, ObjectIs, LockIs, Prints, Starts, Outcome, Moves, Absent, IsDone, HadFaulted, Waits, changed, seen_by, turn, step, state_after}
use Rattle.semantics.specs.Run.{run_from, inside, is_annotated, frames_of}
use Rattle.replay.specs.Plain.{Plain, plain_thread, plain_of}
use Rattle.replay.specs.Calls.{depth}
use Rattle.replay.specs.Evaluation.{most_depth}
use Rattle.replay.proofs.Comes.{LocalOf, Local, gone, alone, Own, bottom, upon, Above, Comes, there, still, stuck, goes}

-- a state with frames beside a thread
abbrev pub Here : Type 0
Here = LocalOf Frame

-- without the frames of the others
abbrev pub bare : Here → Local
bare l = record { plain = plain_of l.plain; thread = l.thread }

-- the thread has an entry in the state
abbrev pub HasEntry : ℕ → State → Type 0
HasEntry t q = (old : Thread) × (slice_get q.threads t ≡ Some old)

-- the state in which the thread's entry is this thread
abbrev pub joined : ℕ → Here → State
joined t l = record l.plain { threads = slice_set l.plain.threads t l.thread }

plain_changed : (c : Change) (q : State) → changed c (plain_of q) ≡ plain_of (changed c q)
plain_changed Nothing q = refl
plain_changed (FieldIs a index v) q = refl
plain_changed (ObjectIs a o) q = refl
plain_changed (LockIs a hold) q = refl
plain_changed (Prints n) q = refl
plain_changed (Starts a m) q = ap (λ threads. record { heap = q.heap; locks = q.locks; threads = threads; output = q.output }) (sym (map-append plain_thread q.threads (Ready a m ∷ [])))

-- where an outcome leads to, without frames
bare_gone : (q : State) (o : Outcome) (l : Here) → gone q o ≡ Some l → gone (plain_of q) o ≡ Some (bare l)
bare_gone q (Moves move) l e = ap (λ (p : Plain). Some (record { plain = p; thread = move.thread })) (plain_changed move.change q) ∙ ap (λ x. Some (bare x)) (same_Some _ l e)
bare_gone q Absent l e = absurd (none-some l e)
bare_gone q IsDone l e = absurd (none-some l e)
bare_gone q (HadFaulted kind) l e = absurd (none-some l e)
bare_gone q (Waits a holder) l e = absurd (none-some l e)

-- threads beside the entry
entry_changed : (c : Change) (q : State) (t : ℕ) → HasEntry t q → HasEntry t (changed c q)
entry_changed Nothing q t has = has
entry_changed (FieldIs a index v) q t has = has
entry_changed (ObjectIs a o) q t has = has
entry_changed (LockIs a hold) q t has = has
entry_changed (Prints n) q t has = has
entry_changed (Starts a m) q t (old, is) = (old, appended q.threads t old (Ready a m) is)
  where
    appended : (xs : List Thread) (i : ℕ) (x y : Thread) → slice_get xs i ≡ Some x → slice_get (xs ++ y ∷ []) i ≡ Some x
    appended [] i x y e = absurd (none-some x e)
    appended (z ∷ zs) zero x y e = e
    appended (z ∷ zs) (suc i) x y e = appended zs i x y e

set_changed : (c : Change) (q : State) (t : ℕ) (x y : Thread) → HasEntry t q
    → changed c (record q { threads = slice_set (slice_set q.threads t x) t y }) ≡ record (changed c q) { threads = slice_set (changed c q).threads t y }
set_changed Nothing q t x y has = ap (λ threads. record q { threads = threads }) (set-set q.threads t x y)
set_changed (FieldIs a index v) q t x y has = ap (λ threads. record (changed (FieldIs a index v) q) { threads = threads }) (set-set q.threads t x y)
set_changed (ObjectIs a o) q t x y has = ap (λ threads. record (changed (ObjectIs a o) q) { threads = threads }) (set-set q.threads t x y)
set_changed (LockIs a hold) q t x y has = ap (λ threads. record (changed (LockIs a hold) q) { threads = threads }) (set-set q.threads t x y)
set_changed (Prints n) q t x y has = ap (λ threads. record (changed (Prints n) q) { threads = threads }) (set-set q.threads t x y)
set_changed (Starts a m) q t x y (old, is) =
    ap (λ threads. record q { threads = threads ++ Ready a m ∷ [] }) (set-set q.threads t x y)
    ∙ ap (λ threads. record q { threads = threads }) (sym (set-append_left q.threads (Ready a m ∷ []) t y (slice_get_within q.threads t old is)))

module _ (P : Program) (t : ℕ) where
  -- one step of the whole state is one of the thread alone
  pub record Steps (l : Here) (mid : State) : Type 0 where
    pub to : Here
    pub alone_to : alone P t l ≡ Some to
    pub is : mid ≡ joined t to
    pub entry : HasEntry t to.plain

  by_outcome : (l : Here) (mid : State) (o : Outcome) → HasEntry t l.plain → gone l.plain o ≡ alone P t l → state_after (joined t l) t o ≡ Some mid → Steps l mid
  by_outcome l mid (Moves move) has same e = record {
    to = record { plain = changed move.change l.plain; thread = move.thread };
    alone_to = sym same;
    is = sym (same_Some _ mid e) ∙ set_changed move.change l.plain t l.thread move.thread has;
    entry = entry_changed move.change l.plain t has;
  }
  by_outcome l mid Absent has same e = absurd (none-some mid e)
  by_outcome l mid IsDone has same e = absurd (none-some mid e)
  by_outcome l mid (HadFaulted kind) has same e = absurd (none-some mid e)
  by_outcome l mid (Waits a holder) has same e = absurd (none-some mid e)

  entry_is : (l : Here) → HasEntry t l.plain → slice_get (joined t l).threads t ≡ Some l.thread
  entry_is l (old, is) = set_same l.plain.threads t l.thread old is

  pub steps_alone : (l : Here) (mid : State) → HasEntry t l.plain → step P (joined t l) t ≡ Some mid → Steps l mid
  steps_alone l mid has e = by_outcome l mid (turn P (seen_by t l.plain) t (Some l.thread)) has refl
      (sym (ap (λ x. state_after (joined t l) t (turn P (seen_by t l.plain) t x)) (entry_is l has)) ∙ e)

  -- a step of the thread alone is one without the frames of the others
  pub bare_step : (l to : Here) → alone P t l ≡ Some to → alone P t (bare l) ≡ Some (bare to)
  bare_step l to e = bare_gone l.plain (turn P (seen_by t l.plain) t (Some l.thread)) to e

  -- k steps of the thread lead from a state to another one; before each of them it stands inside an atomic call, and in the end it doesn't
  abbrev pub Within : ℕ → State → State → Type 0
  Within zero q r = (q ≡ r) × (inside P q t ≡ false)
  Within (suc k) q r = (inside P q t ≡ true) × ((mid : State) × (step P q t ≡ Some mid) × Within k mid r)

  module _ (m : ℕ) (annotated : is_annotated (slice_get P.methods m) ≡ true) (base : List Frame) where
    -- a frame of the method makes the thread stand inside
    own_inside : (c : ℕ) (fs : List Frame) → Own m base c fs → list_any (λ f. is_annotated (slice_get P.methods f.method)) fs ≡ true
    own_inside _ _ (bottom f same) = or_left _ _ (ap (λ x. is_annotated (slice_get P.methods x)) same ∙ annotated)
    own_inside _ _ (upon f c fs own) = ap (λ b. is_annotated (slice_get P.methods f.method) || b) (own_inside c fs own) ∙ or-true (is_annotated (slice_get P.methods f.method))

    own_length : (c : ℕ) (fs : List Frame) → Own m base c fs → length fs ≡ c + length base
    own_length _ _ (bottom f same) = one_more (length base)
      where
        one_more : (n : ℕ) → suc n ≡ 1 + n
        one_more n = omega arith
    own_length _ _ (upon f c fs own) = ap suc (own_length c fs own) ∙ suc_add c (length base)
      where
        suc_add : (c n : ℕ) → suc (c + n) ≡ suc c + n
        suc_add c n = omega arith

    pub inside_joined : (l : Here) → HasEntry t l.plain → (c : ℕ) → Own m base c (frames_of l.thread) → inside P (joined t l) t ≡ true
    inside_joined l has c own = ap (Rattle.semantics.specs.Run.is_inside_some P) (entry_is l has) ∙ own_inside c (frames_of l.thread) own

    pub depth_joined : (l : Here) → HasEntry t l.plain → (c : ℕ) → Own m base c (frames_of l.thread) → depth (slice_get (joined t l).threads t) ≡ c + length base
    depth_joined l has c own = ap depth (entry_is l has) ∙ own_length c (frames_of l.thread) own

    module _ (Goal : Local → Type 0) where
      -- the goal holds of a state on the way; what has been gone to it, and what is left
      pub record Met (n : ℕ) (l : Here) (r : State) : Type 0 where
        pub gone : ℕ
        pub left : ℕ
        pub all : gone + left ≡ n
        pub to : Here
        pub ran : run_from P (joined t l) (replicate gone t) ≡ Some (joined t to)
        pub goal : Goal (bare to)
        pub entry : HasEntry t to.plain
        pub rest : Within left (joined t to) r
        pub few : (i : ℕ) (mid : State) → i < gone → run_from P (joined t l) (replicate i t) ≡ Some mid → depth (slice_get mid.threads t) ≤ most_depth + length base

      reached : (n : ℕ) (l : Here) (r : State) → Goal (bare l) → HasEntry t l.plain → Within n (joined t l) r → Met n l r
      reached n l r goal has within = record {
        gone = 0;
        left = n;
        all = omega arith;
        to = l;
        ran = refl;
        goal = goal;
        entry = has;
        rest = within;
        few = λ i mid less ran. absurd (omega (arith, less));
      }

      outside_after : (l : Here) → HasEntry t l.plain → (c : ℕ) → Own m base c (frames_of l.thread) → inside P (joined t l) t ≡ false → ⊥
      outside_after l has c own e = let k : true ≡ false = sym (inside_joined l has c own) ∙ e in absurd cc

      few_at : (c n d : ℕ) → c ≤ 100 → d ≡ c + n → d ≤ 100 + n
      few_at c n d few e = omega (arith, few, e)

      further : (n : ℕ) (l : Here) (r mid : State) (s : Steps l mid) → HasEntry t l.plain → step P (joined t l) t ≡ Some mid → Above m base l.thread → Met n s.to r → Met (suc n) l r
      further n l r mid s has e above met = record {
        gone = suc met.gone;
        left = met.left;
        all = let a = met.all in omega (arith, a);
        to = met.to;
        ran = run_more (replicate met.gone t) (Some (joined t met.to)) met.ran;
        goal = met.goal;
        entry = met.entry;
        rest = met.rest;
        few = few;
      }
        where
          run_more : (s2 : List ℕ) (o : Option State) → run_from P (joined t s.to) s2 ≡ o → run_from P (joined t l) (t ∷ s2) ≡ o
          run_more s2 o ran = ap (λ x. Rattle.std.specs.Prelude.option_and_then (λ next. run_from P next s2) x) (e ∙ ap Some s.is) ∙ ran

          few : (i : ℕ) (other : State) → i < suc met.gone → run_from P (joined t l) (replicate i t) ≡ Some other → depth (slice_get other.threads t) ≤ most_depth + length base
          few zero other less ran = few_at above.count (length base) (depth (slice_get other.threads t)) above.few
              (ap (λ (x : State). depth (slice_get x.threads t)) (sym (same_Some _ other ran)) ∙ depth_joined l has above.count above.own)
          few (suc i) other less ran = met.few i other (omega (arith, less)) (sym (run_more (replicate i t) _ refl) ∙ ran)

      -- along steps that lead out, the goal holds of some state
      pub met : (n : ℕ) (x : Local) → Comes P t m base Goal n x → (l : Here) → x ≡ bare l → HasEntry t l.plain → (r : State) → Within n (joined t l) r → Met n l r
      met n x (there goal) l is has r within = reached n l r (subst Goal is goal) has within
      met zero x (still above) l is has r within = absurd (outside_after l has above.count (subst (λ (y : Local). Own m base above.count (frames_of y.thread)) is above.own) within.1)
      met zero x (stuck above e) l is has r within = absurd (outside_after l has above.count (subst (λ (y : Local). Own m base above.count (frames_of y.thread)) is above.own) within.1)
      met (suc n) x (stuck above e) l is has r (inner, (mid, stepped, within)) =
          let s = steps_alone l mid has stepped in
          absurd (none-some (bare s.to) (sym e ∙ ap (alone P t) is ∙ bare_step l s.to s.alone_to))
      met (suc n) x (goes next above e rest) l is has r (inner, (mid, stepped, within)) =
          let s = steps_alone l mid has stepped in
          further n l r mid s has stepped (record { count = above.count; few = above.few; own = subst (λ (y : Local). Own m base above.count (frames_of y.thread)) is above.own })
          (met n next rest s.to (same_Some next (bare s.to) (sym e ∙ ap (alone P t) is ∙ bare_step l s.to s.alone_to)) s.entry r (subst (λ y. Within n y r) s.is within))
