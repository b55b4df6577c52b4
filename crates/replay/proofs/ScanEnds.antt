-- What is open in a scan ends later, and at the end everything is told of.
use Rattle.std.proofs.Common.{◌≡◌, ℕ, zero, suc, ◌+◌, ◌-◌, ◌<◌, ◌≤◌, Bool, true, false, List, Some, refl, sym, ap, subst, ◌∙◌, arith}
use Rattle.std.specs.Prelude.{nat_le, length, take, slice_get}
use Rattle.std.proofs.lemmas.List.{take_all}
use Rattle.std.proofs.lemmas.Bool.{leb-true, leb-false}
use Rattle.std.proofs.lemmas.Option.{same_Some}
use Rattle.core_program.specs.Core.{Program}
use Rattle.state.specs.States.{State}
use Rattle.semantics.specs.Run.{run, inside, IsUninterrupted}
use Rattle.replay.specs.Evaluation.{most_depth}
use Rattle.replay.specs.Calls.{IsCallAt, depth}
use Rattle.replay.specs.Records.{Told, AreCallsTold, HasNoDeep, IsFirstTooDeep}
use Rattle.replay.specs.Scanning.{Begun}
use Rattle.replay.proofs.Schedules.{prefix_runs, entry_before}
use Rattle.replay.proofs.Scan.{IsOpen, Told_to, stays, whole}

module _ (P : Program) (s : List ℕ) (alone : IsUninterrupted P s) where
  -- the state after so many entries
  abbrev At : ℕ → State → Type 0
  At n q = run P (take n s) ≡ Some q

  same_at : (n : ℕ) (q r : State) → At n q → At n r → q ≡ r
  same_at n q r one other = same_Some q r (sym one ∙ other)

  -- What is open ends, where nobody stands inside at the end of the schedule.
  module _ (b : Begun) (out : (z : State) → run P s ≡ Some z → (u : ℕ) → inside P z u ≡ false) where
    -- the call ends later
    pub record Ends (n place : ℕ) (before : State) : Type 0 where
      pub steps : ℕ
      pub after : State
      pub call : IsCallAt P s place steps b.thread before after
      pub later : n < place + steps

    all_taken : (n : ℕ) → n ≡ length s → take n s ≡ s
    all_taken n e = take_all n s (let l : length s ≤ n = omega (arith, e) in l)

    goes_out : (left n : ℕ) (q : State) (place : ℕ) (before : State) → n + left ≡ length s → At n q → IsOpen P s alone false n q b → b.entry ≡ place + 1 → At place before → Ends n place before
    goes_out zero n q place before all at o entry starts =
        absurd (let k : true ≡ false = sym (o.inner o.gone q o.some (omega arith) (ap (λ m. run P (take m s)) o.all ∙ at)) ∙ out q (ap (run P) (sym (all_taken n (let e : n ≡ length s = omega (arith, all) in e))) ∙ at) b.thread in cc)
    goes_out (suc left) n q place before all at o entry starts =
        let found = entry_before s n (omega (arith, all)) in
        let next = prefix_runs P s (n + 1) alone.runs in
        by_inside found.0 found.1 next.0 next.1 (λ open2. goes_out left (n + 1) next.0 place before (omega (arith, all)) next.1 open2 entry starts) (inside P next.0 found.0) refl
      where
        place_is : o.place ≡ place
        place_is = let a = o.entry in omega (arith, a, entry)

        before_is : o.before ≡ before
        before_is = same_at place o.before before (ap (λ m. run P (take m s)) (sym place_is) ∙ o.starts) starts

        by_inside : (t : ℕ) → slice_get s n ≡ Some t → (r : State) → At (n + 1) r → (IsOpen P s alone false (n + 1) r b → Ends (n + 1) place before) → (x : Bool) → inside P r t ≡ x → Ends n place before
        by_inside t is r next further true e =
            let h = further (stays P s alone n t q r at next is false b o e (λ f. absurd (let k : false ≡ true = f in cc))) in
            record { steps = h.steps; after = h.after; call = h.call; later = let l = h.later in omega (arith, l) }
        by_inside t is r next further false e = record {
          steps = o.gone + 1;
          after = r;
          call = subst (λ p. IsCallAt P s p (o.gone + 1) b.thread before r) place_is (subst (λ z. IsCallAt P s o.place (o.gone + 1) b.thread z r) before_is (whole P s alone n t q r at next is false b o e));
          later = let a = o.all in omega (arith, a, place_is);
        }

    -- what is open and has too many frames is the first call that has
    pub too_deep : (n : ℕ) (q : State) (calls : List Told) → n ≤ length s → At n q → IsOpen P s alone true n q b → Told_to P s alone n calls → b.frames + most_depth < depth (slice_get q.threads b.thread) → IsFirstTooDeep P s b.entry
    too_deep n q calls within at o told many =
        let e = goes_out (length s - n) n q o.place o.before (omega (arith, within)) at plain_open o.entry o.starts in
        record {
          place = o.place;
          steps = e.steps;
          thread = b.thread;
          before = o.before;
          after = e.after;
          call = e.call;
          entry_is = o.entry;
          deep = record {
            steps = o.gone;
            within = let l = e.later in let a = o.all in omega (arith, l, a);
            at = q;
            ran = o.path;
            deep = let f = o.frames in omega (arith, f, many);
          };
          first = λ other k t p z call less d. told.flat other k t p z call (ended other k t p z call less) d;
        }
      where
        plain_open : IsOpen P s alone false n q b
        plain_open = record {
          place = o.place;
          before = o.before;
          starts = o.starts;
          entry = o.entry;
          is_entry = o.is_entry;
          quiet = o.quiet;
          gone = o.gone;
          some = o.some;
          all = o.all;
          path = o.path;
          inner = o.inner;
          arguments = o.arguments;
          asked = o.asked;
          frames = o.frames;
          printed = o.printed;
          output = o.output;
          flat = λ f. absurd (let k : false ≡ true = f in cc);
          others = o.others;
        }

        -- an earlier call ended before this one began
        ended : (other k t : ℕ) (p z : State) → IsCallAt P s other k t p z → other < o.place → other + k ≤ n
        ended other k t p z call less = by_end (nat_le (other + k) o.place) refl
          where
            by_end : (x : Bool) → nat_le (other + k) o.place ≡ x → other + k ≤ n
            by_end true e = let l = leb-true (other + k) o.place e in let a = o.all in omega (arith, l, a)
            by_end false e =
                let l = leb-false (other + k) o.place e in
                absurd (let k2 : true ≡ false =
                sym (call.inner (o.place - other) o.before (omega (arith, less)) (omega (arith, less, l)) (ap (λ m. run P (take m s)) (let f : other + (o.place - other) ≡ o.place = omega (arith, less) in f) ∙ o.starts)) ∙ o.quiet t in
                cc)

  -- at the end everything is told of
  pub all_told : (calls : List Told) (n : ℕ) → length s ≤ n → Told_to P s alone n calls → AreCallsTold P s calls
  all_told calls n past told = record {
    each = told.each;
    ascend = told.ascend;
    all = λ place k t q r call. told.all place k t q r call (let w = call.within in omega (arith, w, past));
  }

  pub no_deep : (calls : List Told) (n : ℕ) → length s ≤ n → Told_to P s alone n calls → HasNoDeep P s
  no_deep calls n past told place k t q r call = told.flat place k t q r call (let w = call.within in omega (arith, w, past))
