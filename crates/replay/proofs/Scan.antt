-- Going through a schedule that interrupts no atomic call, entry by entry, and telling of each call at its end.
use Rattle.std.proofs.Common.{◌≡◌, ◌≢◌, ◌⊎◌, inl, inr, ◌==◌, ℕ, zero, suc, ◌+◌, ◌-◌, ◌<◌, ◌≤◌, Bool, true, false, List, [], ◌∷◌, ◌++◌, Some, refl, sym, ap, subst, ◌∙◌, arith}
use Rattle.std.specs.Prelude.{ℤ, nat_le, nat_lt, Option, length, take, replicate, option_and_then, slice_get, slice_set}
use Rattle.std.proofs.lemmas.List.{replicate-append-replicate}
use Rattle.std.proofs.lemmas.Bool.{leb-true, leb-false, ltb-true, ltb-false, eqb-true, eqb-false}
use Rattle.std.proofs.lemmas.Option.{none-some, same_Some, slice_get_within}
use Rattle.base.proofs.Lists.{set_other}
use Rattle.core_program.specs.Core.{Program}
use Rattle.state.specs.declared.value.Value.{Value}
use Rattle.state.specs.States.{Thread, State, initial}
use Rattle.semantics.specs.Step.{Change, Moves, Absent, IsDone, HadFaulted, Waits, outcome, step, state_after, has_result}
use Rattle.semantics.specs.Run.{run, run_from, inside, is_inside_some, IsUninterrupted}
use Rattle.semantics.proofs.RunLemmas.{run_from-append}
use Rattle.semantics.proofs.Changed.{ThreadAfter, kept, begun, thread_after}
use Rattle.replay.specs.Plain.{plain_of}
use Rattle.replay.specs.Evaluation.{most_depth}
use Rattle.replay.specs.Calls.{IsCallAt, asked_by, result_in, depth, IsDeep}
use Rattle.replay.specs.Records.{Told, IsTold}
use Rattle.replay.specs.Scanning.{Begun}
use Rattle.replay.proofs.Schedules.{prefix_runs, entry_before, entry_steps}
use Rattle.replay.proofs.Opens.{step_prints, more_prints}

-- A step of one thread leaves the others where they stand.
module _ (P : Program) where
  still_outside : (c : Change) (o : Option Thread) (after : Option Thread) → ThreadAfter c o after → is_inside_some P o ≡ false → is_inside_some P after ≡ false
  still_outside c o _ kept out = out
  still_outside c o _ (begun a m is none) out = refl

  pub others_outside : (q r : State) (t u : ℕ) → step P q t ≡ Some r → u ≢ t → inside P q u ≡ false → inside P r u ≡ false
  others_outside q r t u e other out =
      elim (outcome P q t) as (λ o. state_after q t o ≡ Some r → inside P r u ≡ false) [
        | Moves move ↦ λ is. ap (λ x. inside P x u) (sym (same_Some _ r is))
            ∙ still_outside move.change _ _ (thread_after move.change (record q { threads = slice_set q.threads t move.thread }) u) (ap (is_inside_some P) (set_other q.threads t u move.thread other) ∙ out)
        | Absent ↦ λ is. absurd (none-some r is)
        | IsDone ↦ λ is. absurd (none-some r is)
        | HadFaulted kind ↦ λ is. absurd (none-some r is)
        | Waits a holder ↦ λ is. absurd (none-some r is)
      ] e

  pub first_outside : (u : ℕ) → inside P (initial P) u ≡ false
  first_outside zero = refl
  first_outside (suc u) = refl

-- lists with one call more
last_or : (calls : List Told) (x : Told) (m : ℕ) (y : Told) → slice_get (calls ++ x ∷ []) m ≡ Some y → (slice_get calls m ≡ Some y) ⊎ ((m ≡ length calls) × (y ≡ x))
last_or [] x zero y e = inr (refl, sym (same_Some x y e))
last_or [] x (suc m) y e = absurd (none-some y e)
last_or (z ∷ calls) x zero y e = inl e
last_or (z ∷ calls) x (suc m) y e = by_tail (last_or calls x m y e)
  where
    by_tail : (slice_get calls m ≡ Some y) ⊎ ((m ≡ length calls) × (y ≡ x)) → (slice_get calls m ≡ Some y) ⊎ ((suc m ≡ suc (length calls)) × (y ≡ x))
    by_tail (inl a) = inl a
    by_tail (inr a) = inr (ap suc a.0, a.1)

kept_in : (calls : List Told) (x : Told) (m : ℕ) (y : Told) → slice_get calls m ≡ Some y → slice_get (calls ++ x ∷ []) m ≡ Some y
kept_in [] x m y e = absurd (none-some y e)
kept_in (z ∷ calls) x zero y e = e
kept_in (z ∷ calls) x (suc m) y e = kept_in calls x m y e

last_in : (calls : List Told) (x : Told) → slice_get (calls ++ x ∷ []) (length calls) ≡ Some x
last_in [] x = refl
last_in (z ∷ calls) x = last_in calls x

-- the calls that were told of began before this one
abbrev pub IsBehind : List Told → Begun → Type 0
IsBehind calls b = (m : ℕ) (y : Told) → slice_get calls m ≡ Some y → y.entry < b.entry

module _ (P : Program) (s : List ℕ) (alone : IsUninterrupted P s) where
  -- the state after so many entries
  abbrev At : ℕ → State → Type 0
  At n q = run P (take n s) ≡ Some q

  same_at : (n : ℕ) (q r : State) → At n q → At n r → q ≡ r
  same_at n q r one other = same_Some q r (sym one ∙ other)

  -- a call is open after n entries, in this state; and where so far it had at most 100 frames of its own, before this state
  pub record IsOpen (low : Bool) (n : ℕ) (q : State) (b : Begun) : Type 0 where
    pub place : ℕ
    pub before : State
    pub starts : run P (take place s) ≡ Some before
    pub entry : b.entry ≡ place + 1
    pub is_entry : slice_get s place ≡ Some b.thread
    pub quiet : (u : ℕ) → inside P before u ≡ false
    pub gone : ℕ
    pub some : 0 < gone
    pub all : place + gone ≡ n
    pub path : run_from P before (replicate gone b.thread) ≡ Some q
    pub inner : (i : ℕ) (mid : State) → 0 < i → i ≤ gone → run P (take (place + i) s) ≡ Some mid → inside P mid b.thread ≡ true
    pub arguments : List Value
    pub asked : asked_by P (plain_of before) (slice_get before.threads b.thread) ≡ Some (record { on = b.on; method = b.method; arguments = arguments })
    pub frames : b.frames ≡ depth (slice_get before.threads b.thread)
    pub printed : b.printed ≡ length before.output
    pub output : (ns : List ℤ) × (q.output ≡ before.output ++ ns)
    pub flat : low ≡ true → (i : ℕ) (mid : State) → i < gone → run_from P before (replicate i b.thread) ≡ Some mid → depth (slice_get mid.threads b.thread) ≤ b.frames + most_depth
    pub others : (u : ℕ) → u ≢ b.thread → inside P q u ≡ false

  -- whether the thread of an open call has few frames
  abbrev pub IsLow : State → Begun → Type 0
  IsLow q b = depth (slice_get q.threads b.thread) ≤ b.frames + most_depth

  -- these are told of the calls that end within the first n entries, and none of these is deep
  pub record Told_to (n : ℕ) (calls : List Told) : Type 0 where
    pub each : (m : ℕ) (told : Told) → slice_get calls m ≡ Some told → IsTold P s told
    pub below : (m : ℕ) (told : Told) → slice_get calls m ≡ Some told → told.entry ≤ n
    pub ascend : (m : ℕ) (one next : Told) → slice_get calls m ≡ Some one → slice_get calls (m + 1) ≡ Some next → one.entry < next.entry
    pub all : (place k t : ℕ) (q r : State) → IsCallAt P s place k t q r → place + k ≤ n → (m : ℕ) × (told : Told) × (slice_get calls m ≡ Some told) × (told.entry ≡ place + 1)
    pub flat : (place k t : ℕ) (q r : State) → IsCallAt P s place k t q r → place + k ≤ n → IsDeep P t k q → ⊥

  pub told_none : Told_to 0 []
  told_none = record {
    each = λ m told e. absurd (none-some told e);
    below = λ m told e. absurd (none-some told e);
    ascend = λ m one next e. absurd (none-some one e);
    all = λ place k t q r call low. absurd (let l = call.long in omega (arith, l, low));
    flat = λ place k t q r call low d. absurd (let l = call.long in omega (arith, l, low));
  }

  -- One entry more.
  module _ (n t : ℕ) (q r : State) (at : run P (take n s) ≡ Some q) (next : run P (take (n + 1) s) ≡ Some r) (is_entry : slice_get s n ≡ Some t) where
    stepped : step P q t ≡ Some r
    stepped = entry_steps P s n t q r is_entry at next

    -- a call that ends with this entry stood inside before it, and is the entry's thread's
    ends_here : (place k u : ℕ) (p z : State) → IsCallAt P s place k u p z → place + k ≡ n + 1 → inside P q u ≡ true
    ends_here place k u p z call ends =
        call.inner (k - 1) q (let l = call.long in omega (arith, l)) (let l = call.long in omega (arith, l)) (ap (λ m. run P (take m s)) (let l = call.long in let e : place + (k - 1) ≡ n = omega (arith, l, ends) in e) ∙ at)

    -- where no call ends, what is told stays
    pub told_on : (calls : List Told) → ((place k u : ℕ) (p z : State) → IsCallAt P s place k u p z → place + k ≡ n + 1 → ⊥) → Told_to n calls → Told_to (n + 1) calls
    told_on calls none told = record {
      each = told.each;
      below = λ m x e. let h = told.below m x e in omega (arith, h);
      ascend = told.ascend;
      all = λ place k u p z call low. told.all place k u p z call (before place k u p z call low);
      flat = λ place k u p z call low d. told.flat place k u p z call (before place k u p z call low) d;
    }
      where
        before : (place k u : ℕ) (p z : State) → IsCallAt P s place k u p z → place + k ≤ n + 1 → place + k ≤ n
        before place k u p z call low = by_end (nat_le (place + k) n) refl
          where
            by_end : (b : Bool) → nat_le (place + k) n ≡ b → place + k ≤ n
            by_end true e = leb-true (place + k) n e
            by_end false e = absurd (none place k u p z call (let l = leb-false (place + k) n e in let same : place + k ≡ n + 1 = omega (arith, l, low) in same))

    -- nobody stands inside, and the thread doesn't after the entry
    pub outside_on : ((u : ℕ) → inside P q u ≡ false) → inside P r t ≡ false → (u : ℕ) → inside P r u ≡ false
    outside_on out ends u = by_same (u == t) refl
      where
        by_same : (b : Bool) → (u == t) ≡ b → inside P r u ≡ false
        by_same true same = ap (inside P r) (eqb-true u t same) ∙ ends
        by_same false other = others_outside P q r t u stepped (eqb-false u t other) (out u)

    pub none_ends : ((u : ℕ) → inside P q u ≡ false) → (place k u : ℕ) (p z : State) → IsCallAt P s place k u p z → place + k ≡ n + 1 → ⊥
    none_ends out place k u p z call ends = let e : true ≡ false = sym (ends_here place k u p z call ends) ∙ out u in absurd cc

    -- a call begins with the entry
    pub opens : (b : Begun) (arguments : List Value) → ((u : ℕ) → inside P q u ≡ false) → inside P r t ≡ true → b.thread ≡ t → b.entry ≡ n + 1
        → asked_by P (plain_of q) (slice_get q.threads t) ≡ Some (record { on = b.on; method = b.method; arguments = arguments })
        → b.frames ≡ depth (slice_get q.threads t) → b.printed ≡ length q.output → IsOpen true (n + 1) r b
    opens b arguments out ins thread entry asked frames printed = record {
      place = n;
      before = q;
      starts = at;
      entry = entry;
      is_entry = is_entry ∙ ap Some (sym thread);
      quiet = out;
      gone = 1;
      some = omega arith;
      all = refl;
      path = ap (λ x. run_from P q (x ∷ [])) thread ∙ ap (option_and_then (λ x. run_from P x [])) stepped;
      inner = λ i mid more less ran. ap (inside P mid) thread ∙ ap (λ x. inside P x t) (same_at (n + 1) mid r (ap (λ m. run P (take m s)) (let e : n + 1 ≡ n + i = omega (arith, more, less) in e) ∙ ran) next) ∙ ins;
      arguments = arguments;
      asked = ap (λ x. asked_by P (plain_of q) (slice_get q.threads x)) thread ∙ asked;
      frames = frames ∙ ap (λ x. depth (slice_get q.threads x)) (sym thread);
      printed = printed;
      output = step_prints P q r t stepped;
      flat = λ _. flat;
      others = λ u other. others_outside P q r t u stepped (λ e. other (e ∙ sym thread)) (out u);
    }
      where
        flat : (i : ℕ) (mid : State) → i < 1 → run_from P q (replicate i b.thread) ≡ Some mid → depth (slice_get mid.threads b.thread) ≤ b.frames + most_depth
        flat zero mid less ran =
            let here : depth (slice_get mid.threads b.thread) ≡ b.frames = ap (λ (x : State). depth (slice_get x.threads b.thread)) (sym (same_Some q mid ran)) ∙ ap (λ x. depth (slice_get q.threads x)) thread ∙ sym frames in
            omega (arith, here)
        flat (suc i) mid less ran = absurd (omega (arith, less))

    -- while a call is open, its thread goes on
    module _ (low : Bool) (b : Begun) (open_ : IsOpen low n q b) where
      pub goes_on : t ≡ b.thread
      goes_on = alone.kept (open_.place + (open_.gone - 1)) b.thread t q last here (ap (λ m. run P (take m s)) place_is ∙ at) (open_.inner open_.gone q open_.some (omega arith) (ap (λ m. run P (take m s)) open_.all ∙ at))
        where
          place_is : (open_.place + (open_.gone - 1)) + 1 ≡ n
          place_is = let a = open_.all in let m = open_.some in omega (arith, a, m)

          here : slice_get s ((open_.place + (open_.gone - 1)) + 1) ≡ Some t
          here = ap (slice_get s) place_is ∙ is_entry

          last : slice_get s (open_.place + (open_.gone - 1)) ≡ Some b.thread
          last = entries (open_.gone - 1) (let m = open_.some in omega (arith, m))
            where
              entries : (i : ℕ) → i < open_.gone → slice_get s (open_.place + i) ≡ Some b.thread
              entries zero less = ap (slice_get s) (let e : open_.place + 0 ≡ open_.place = omega arith in e) ∙ open_.is_entry
              entries (suc i) less =
                  let one : (open_.place + i) + 1 ≡ open_.place + suc i = omega arith in
                  let before = entries i (omega (arith, less)) in
                  let ran = prefix_runs P s (open_.place + suc i) alone.runs in
                  let found = entry_before s (open_.place + suc i) (let a = open_.all in within (open_.place + suc i) (omega (arith, a, less))) in
                  found.1 ∙ ap Some (alone.kept (open_.place + i) b.thread found.0 ran.0 before (ap (slice_get s) one ∙ found.1) (ap (λ m. run P (take m s)) one ∙ ran.1)
                  (open_.inner (suc i) ran.0 (omega arith) (omega (arith, less)) ran.1))
                where
                  within : (m : ℕ) → m < n → m < length s
                  within m less = let w = slice_get_within s n t is_entry in omega (arith, less, w)

      step_of : step P q b.thread ≡ Some r
      step_of = ap (step P q) (sym goes_on) ∙ stepped

      path_on : run_from P open_.before (replicate (open_.gone + 1) b.thread) ≡ Some r
      path_on = ap (run_from P open_.before) (sym (replicate-append-replicate open_.gone 1 b.thread)) ∙ run_from-append P open_.before (replicate open_.gone b.thread) (b.thread ∷ [])
          ∙ ap (option_and_then (λ x. run_from P x (b.thread ∷ []))) open_.path ∙ ap (option_and_then (λ x. run_from P x [])) step_of

      state_is : (mid : State) → run P (take (open_.place + (open_.gone + 1)) s) ≡ Some mid → mid ≡ r
      state_is mid ran = same_at (n + 1) mid r (ap (λ m. run P (take m s)) (let a = open_.all in let e : n + 1 ≡ open_.place + (open_.gone + 1) = omega (arith, a) in e) ∙ ran) next

      -- up to this state the call had few frames of its own
      flat_to : low ≡ true → IsLow q b → (i : ℕ) (mid : State) → i ≤ open_.gone → run_from P open_.before (replicate i b.thread) ≡ Some mid → depth (slice_get mid.threads b.thread) ≤ b.frames + most_depth
      flat_to is few i mid less ran = by_last (nat_lt i open_.gone) refl
        where
          by_last : (x : Bool) → nat_lt i open_.gone ≡ x → depth (slice_get mid.threads b.thread) ≤ b.frames + most_depth
          by_last true e = open_.flat is i mid (ltb-true i open_.gone e) ran
          by_last false e =
              let l = ltb-false i open_.gone e in
              let last : i ≡ open_.gone = omega (arith, l, less) in
              let same : q ≡ mid = same_Some q mid (sym open_.path ∙ ap (λ m. run_from P open_.before (replicate m b.thread)) (sym last) ∙ ran) in
              subst (λ (x : State). depth (slice_get x.threads b.thread) ≤ b.frames + most_depth) same few

      -- the thread still stands inside
      pub stays : inside P r t ≡ true → (low ≡ true → IsLow q b) → IsOpen low (n + 1) r b
      stays ins few = record {
        place = open_.place;
        before = open_.before;
        starts = open_.starts;
        entry = open_.entry;
        is_entry = open_.is_entry;
        quiet = open_.quiet;
        gone = open_.gone + 1;
        some = omega arith;
        all = let a = open_.all in omega (arith, a);
        path = path_on;
        inner = inner;
        arguments = open_.arguments;
        asked = open_.asked;
        frames = open_.frames;
        printed = open_.printed;
        output = more_prints open_.before q r open_.output (step_prints P q r t stepped);
        flat = λ is i mid less ran. flat_to is (few is) i mid (omega (arith, less)) ran;
        others = λ u other. others_outside P q r t u stepped (λ e. other (e ∙ goes_on)) (open_.others u other);
      }
        where
          inner : (i : ℕ) (mid : State) → 0 < i → i ≤ open_.gone + 1 → run P (take (open_.place + i) s) ≡ Some mid → inside P mid b.thread ≡ true
          inner i mid more less ran = by_last (nat_le i open_.gone) refl
            where
              by_last : (x : Bool) → nat_le i open_.gone ≡ x → inside P mid b.thread ≡ true
              by_last true e = open_.inner i mid more (leb-true i open_.gone e) ran
              by_last false e =
                  let l = leb-false i open_.gone e in
                  let last : i ≡ open_.gone + 1 = omega (arith, l, less) in
                  ap (λ x. inside P x b.thread) (state_is mid (ap (λ m. run P (take (open_.place + m) s)) (sym last) ∙ ran)) ∙ ap (inside P r) (sym goes_on) ∙ ins

      -- the call that ends with the entry
      pub whole : inside P r t ≡ false → IsCallAt P s open_.place (open_.gone + 1) b.thread open_.before r
      whole ends = record {
        entry = open_.is_entry;
        long = let m = open_.some in omega (arith, m);
        within = let a = open_.all in let w = slice_get_within s n t is_entry in omega (arith, a, w);
        before = open_.starts;
        outside = open_.quiet b.thread;
        inner = λ i mid more less ran. open_.inner i mid more (omega (arith, less)) ran;
        after = ap (λ m. run P (take m s)) (let a = open_.all in let e : open_.place + (open_.gone + 1) ≡ n + 1 = omega (arith, a) in e) ∙ next;
        ended = ap (inside P r) (sym goes_on) ∙ ends;
      }

      -- nothing else ends there
      only : (place k u : ℕ) (p z : State) → IsCallAt P s place k u p z → place + k ≡ n + 1 → (place ≡ open_.place) × (u ≡ b.thread)
      only place k u p z call ends = (by_place (nat_lt place open_.place) refl (nat_lt open_.place place) refl, same_thread)
        where
          same_thread : u ≡ b.thread
          same_thread = by_thread (u == b.thread) refl
            where
              by_thread : (x : Bool) → (u == b.thread) ≡ x → u ≡ b.thread
              by_thread true e = eqb-true u b.thread e
              by_thread false e = let k : true ≡ false = sym (ends_here place k u p z call ends) ∙ open_.others u (eqb-false u b.thread e) in absurd cc

          earlier : place < open_.place → ⊥
          earlier less =
              let k2 : true ≡ false =
              sym (call.inner (open_.place - place) open_.before (omega (arith, less)) (let a = open_.all in let m = open_.some in omega (arith, less, a, m, ends)) (ap (λ m. run P (take m s)) (let e : place + (open_.place - place) ≡ open_.place = omega (arith, less) in e) ∙ open_.starts))
              ∙ open_.quiet u in
              absurd cc

          later : open_.place < place → ⊥
          later less =
              let k2 : true ≡ false =
              sym (open_.inner (place - open_.place) p (omega (arith, less)) (let a = open_.all in let l = call.long in omega (arith, less, a, l, ends)) (ap (λ m. run P (take m s)) (let e : open_.place + (place - open_.place) ≡ place = omega (arith, less) in e) ∙ call.before))
              ∙ ap (inside P p) (sym same_thread) ∙ call.outside in
              absurd cc

          by_place : (x : Bool) → nat_lt place open_.place ≡ x → (y : Bool) → nat_lt open_.place place ≡ y → place ≡ open_.place
          by_place true e y f = absurd (earlier (ltb-true place open_.place e))
          by_place false e true f = absurd (later (ltb-true open_.place place f))
          by_place false e false f = let a = ltb-false place open_.place e in let c = ltb-false open_.place place f in omega (arith, a, c)

      -- where the thread still stands inside no call ends
      pub goes_none : inside P r t ≡ true → (place k u : ℕ) (p z : State) → IsCallAt P s place k u p z → place + k ≡ n + 1 → ⊥
      goes_none ins place k u p z call ends =
          let o = only place k u p z call ends in
          let same : z ≡ r = same_at (n + 1) z r (ap (λ m. run P (take m s)) (sym ends) ∙ call.after) next in
          let k2 : true ≡ false = sym ins ∙ ap (inside P r) (goes_on ∙ sym o.1) ∙ ap (λ x. inside P x u) (sym same) ∙ call.ended in
          absurd cc

      flat_whole : low ≡ true → IsLow q b → IsDeep P b.thread (open_.gone + 1) open_.before → ⊥
      flat_whole is few d =
          let here = flat_to is few d.steps d.at (let w = d.within in omega (arith, w)) d.ran in
          let deep = d.deep in
          let f = open_.frames in
          absurd (omega (arith, here, deep, f))

      -- the call ends with the entry, and is told of
      pub ends_told : (calls : List Told) (x : Told) → low ≡ true → IsLow q b → inside P r t ≡ false → Told_to n calls → IsBehind calls b → x.entry ≡ b.entry → x.thread ≡ b.thread → x.method ≡ b.method → x.on ≡ b.on
          → x.result ≡ result_in (has_result (slice_get P.methods b.method)) (slice_get r.threads t) → r.output ≡ open_.before.output ++ x.prints → Told_to (n + 1) (calls ++ x ∷ [])
      ends_told calls x is_low few ends told lower entry thread method on result prints = record {
        each = λ m y e. by_place_each m y (last_or calls x m y e);
        below = λ m y e. below m y (last_or calls x m y e);
        ascend = ascend;
        all = all;
        flat = flat;
      }
        where
          is_told : IsTold P s x
          is_told = record {
            place = open_.place;
            steps = open_.gone + 1;
            before = open_.before;
            after = r;
            call = subst (λ u. IsCallAt P s open_.place (open_.gone + 1) u open_.before r) (sym thread) (whole ends);
            entry = entry ∙ open_.entry;
            arguments = open_.arguments;
            asked = ap (λ u. asked_by P (plain_of open_.before) (slice_get open_.before.threads u)) thread ∙ open_.asked
                ∙ (λ i. Some (record { on = sym on i; method = sym method i; arguments = open_.arguments }));
            result = result ∙ ap (λ u. result_in (has_result (slice_get P.methods b.method)) (slice_get r.threads u)) (goes_on ∙ sym thread)
                ∙ ap (λ m. result_in (has_result (slice_get P.methods m)) (slice_get r.threads x.thread)) (sym method);
            prints = prints;
          }

          by_place_each : (m : ℕ) (y : Told) → (slice_get calls m ≡ Some y) ⊎ ((m ≡ length calls) × (y ≡ x)) → IsTold P s y
          by_place_each m y (inl e) = told.each m y e
          by_place_each m y (inr e) = subst (IsTold P s) (sym e.1) is_told

          entry_low : x.entry ≤ n
          entry_low = let e = entry ∙ open_.entry in let a = open_.all in let m = open_.some in omega (arith, e, a, m)

          below : (m : ℕ) (y : Told) → (slice_get calls m ≡ Some y) ⊎ ((m ≡ length calls) × (y ≡ x)) → y.entry ≤ n + 1
          below m y (inl e) = let h = told.below m y e in omega (arith, h)
          below m y (inr e) = let h = entry_low in let same : y.entry ≡ x.entry = ap (λ (z : Told). z.entry) e.1 in omega (arith, h, same)

          earlier : (m : ℕ) (y : Told) → slice_get calls m ≡ Some y → y.entry < x.entry
          earlier m y e = subst (λ k. y.entry < k) (sym entry) (lower m y e)

          ascend : (m : ℕ) (one two : Told) → slice_get (calls ++ x ∷ []) m ≡ Some one → slice_get (calls ++ x ∷ []) (m + 1) ≡ Some two → one.entry < two.entry
          ascend m one two e f = by_last (last_or calls x m one e) (last_or calls x (m + 1) two f)
            where
              by_last : (slice_get calls m ≡ Some one) ⊎ ((m ≡ length calls) × (one ≡ x)) → (slice_get calls (m + 1) ≡ Some two) ⊎ ((m + 1 ≡ length calls) × (two ≡ x)) → one.entry < two.entry
              by_last (inl a) (inl c) = told.ascend m one two a c
              by_last (inl a) (inr c) = subst (λ (z : Told). one.entry < z.entry) (sym c.1) (earlier m one a)
              by_last (inr a) (inl c) = absurd (let w = slice_get_within calls (m + 1) two c in let k = a.0 in omega (arith, w, k))
              by_last (inr a) (inr c) = absurd (let k = a.0 in let l = c.0 in omega (arith, k, l))

          all : (place k u : ℕ) (p z : State) → IsCallAt P s place k u p z → place + k ≤ n + 1 → (m : ℕ) × (y : Told) × (slice_get (calls ++ x ∷ []) m ≡ Some y) × (y.entry ≡ place + 1)
          all place k u p z call low = by_end (nat_le (place + k) n) refl
            where
              by_end : (c : Bool) → nat_le (place + k) n ≡ c → (m : ℕ) × (y : Told) × (slice_get (calls ++ x ∷ []) m ≡ Some y) × (y.entry ≡ place + 1)
              by_end true e = let h = told.all place k u p z call (leb-true (place + k) n e) in (h.0, h.1, kept_in calls x h.0 h.1 h.2, h.3)
              by_end false e =
                  let l = leb-false (place + k) n e in
                  let o = only place k u p z call (let same : place + k ≡ n + 1 = omega (arith, l, low) in same) in
                  (length calls, x, last_in calls x, entry ∙ open_.entry ∙ ap (λ m. m + 1) (sym o.0))

          flat : (place k u : ℕ) (p z : State) → IsCallAt P s place k u p z → place + k ≤ n + 1 → IsDeep P u k p → ⊥
          flat place k u p z call low d = by_end (nat_le (place + k) n) refl
            where
              by_end : (c : Bool) → nat_le (place + k) n ≡ c → ⊥
              by_end true e = told.flat place k u p z call (leb-true (place + k) n e) d
              by_end false e =
                  let l = leb-false (place + k) n e in
                  let ends2 : place + k ≡ n + 1 = omega (arith, l, low) in
                  let o = only place k u p z call ends2 in
                  let same_before : p ≡ open_.before = same_at open_.place p open_.before (ap (λ m. run P (take m s)) (sym o.0) ∙ call.before) open_.starts in
                  let count : k ≡ open_.gone + 1 = let a = open_.all in let pl = o.0 in omega (arith, ends2, a, pl) in
                  flat_whole is_low few (subst (λ y. IsDeep P b.thread y open_.before) count (subst (λ y. IsDeep P y k open_.before) o.1 (subst (λ y. IsDeep P u k y) same_before d)))
