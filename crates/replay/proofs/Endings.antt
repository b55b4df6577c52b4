-- A method that calls itself, with few turns and with many.
use Rattle.std.proofs.Common.{◌≡◌, ℕ, zero, suc, ◌+◌, ◌≤◌, Bool, true, false, List, [], ◌∷◌, Some, ap, ◌∙◌, arith}
use Rattle.std.specs.Prelude.{Option, nat_lt, ◌==◌}
use Rattle.std.specs.FinMap as M
use Rattle.std.proofs.lemmas.Bool.{lt-ltb}
use Rattle.core_program.specs.Examples.{nested, synchronized_this, put_seven, block_of}
use Rattle.state.specs.declared.value.Value.{Value}
use Rattle.state.specs.declared.value.Value.TheVariants as value
use Rattle.state.specs.Memory.{Object, Hold}
use Rattle.state.specs.States.{main_address}
use Rattle.semantics.specs.Step.{target_at, object_class}
use Rattle.core_program.specs.Dispatch.{target_of}
use Rattle.replay.specs.Plain.{Plain}
use Rattle.replay.specs.Answers.{Answer, Gives, Blocked, Short, Deep, then_do, Ended, ended_value, completed_normally, in_turn}
use Rattle.replay.specs.Evaluation.{Lower, lower_of, stmt, dispatch_call, body_unless_deep, evaluate, take_lock, take_held_lock, locked}
use Rattle.replay.specs.Examples.{calls_main, calls_itself}

abbrev own_slots : List Value
own_slots = value.Ref main_address ∷ []

-- the body after its call answered
abbrev body_of_call : Answer Value → Answer Ended
body_of_call a = in_turn (then_do a (λ _ r. completed_normally own_slots r)) (λ after r. completed_normally after r)

module _ (q : Plain) (o : Object) (is : M.get q.heap main_address ≡ Some o) (class : o.class ≡ 0) where
  body_is : (lower : Option Lower) (d : ℕ) → stmt calls_itself 0 lower d calls_main own_slots q ≡ body_of_call (dispatch_call calls_itself 0 lower d (Some 0) main_address [] q)
  body_is lower d = ap (λ x. body_of_call (dispatch_call calls_itself 0 lower d (target_at calls_itself 0 (object_class x)) main_address [] q)) is
      ∙ ap (λ c. body_of_call (dispatch_call calls_itself 0 lower d (target_of calls_itself c 0) main_address [] q)) class

  -- one call further
  inner_is : (n d : ℕ) (b : Bool) → nat_lt d 100 ≡ b
      → stmt calls_itself 0 (lower_of calls_itself 0 (suc n)) d calls_main own_slots q ≡ body_of_call (body_unless_deep calls_itself 0 (lower_of calls_itself 0 (suc n)) d (λ d s slots q. stmt calls_itself 0 (lower_of calls_itself 0 n) d s slots q) b calls_main own_slots q)
  inner_is n d b e = body_is (lower_of calls_itself 0 (suc n)) d
      ∙ ap (λ b. body_of_call (body_unless_deep calls_itself 0 (lower_of calls_itself 0 (suc n)) d (λ d s slots q. stmt calls_itself 0 (lower_of calls_itself 0 n) d s slots q) b calls_main own_slots q)) e

  below : (d k : ℕ) → d + suc k ≤ 100 → nat_lt d 100 ≡ true
  below d k e = lt-ltb d 100 (omega (arith, e))

  one_less : (d k : ℕ) → d + suc k ≤ 100 → suc d + k ≤ 100
  one_less d k e = omega (arith, e)

  short_from : (k d : ℕ) → d + k ≤ 100 → stmt calls_itself 0 (lower_of calls_itself 0 k) d calls_main own_slots q ≡ Short
  short_from zero d e = body_is (lower_of calls_itself 0 0) d
  short_from (suc k) d e = inner_is k d true (below d k e) ∙ ap (λ (a : Answer Ended). body_of_call (then_do a (λ x r. Gives (ended_value x.end) r))) (short_from k (suc d) (one_less d k e))

  deep_from : (k d : ℕ) → d + k ≡ 100 → stmt calls_itself 0 (lower_of calls_itself 0 (suc k)) d calls_main own_slots q ≡ Deep
  deep_from zero d e = inner_is 0 d false (at_100 d e)
    where
      at_100 : (d : ℕ) → d + 0 ≡ 100 → nat_lt d 100 ≡ false
      at_100 d e = ap (λ n. nat_lt n 100) (let k : d ≡ 100 = omega (arith, e) in k)
  deep_from (suc k) d e = inner_is (suc k) d true (below d k (let l : d + suc k ≤ 100 = omega (arith, e) in l))
      ∙ ap (λ (a : Answer Ended). body_of_call (then_do a (λ x r. Gives (ended_value x.end) r))) (deep_from k (suc d) (let l : suc d + k ≡ 100 = omega (arith, e) in l))

  pub is_short : evaluate calls_itself q 0 main_address 0 [] 100 ≡ Short
  is_short = ap (λ (a : Answer Ended). then_do a (λ x r. Gives (Rattle.replay.specs.Evaluation.call_result Rattle.std.proofs.Common.None x.end) r)) (short_from 99 1 (omega arith))

  pub is_deep : evaluate calls_itself q 0 main_address 0 [] 101 ≡ Deep
  is_deep = ap (λ (a : Answer Ended). then_do a (λ x r. Gives (Rattle.replay.specs.Evaluation.call_result Rattle.std.proofs.Common.None x.end) r)) (deep_from 99 1 (omega arith))

-- the outer of the two locks is another thread's
pub is_blocked : (q : Plain) (hold : Hold) → M.get q.locks main_address ≡ Some hold → hold.holder ≡ 1 → evaluate nested q 0 main_address 0 [] 1 ≡ Blocked main_address 1
is_blocked q hold held other =
    ap after (ap (λ x. take_lock 0 main_address x q) held ∙ ap (λ h. take_held_lock main_address hold (h == 0) q) other) ∙ ap (Blocked main_address) other
  where
    after : Answer (Unit {0}) → Answer (Option Value)
    after a = then_do (in_turn (then_do a (λ _ r. locked 0 main_address (stmt nested 0 (lower_of nested 0 0) 1 (block_of (synchronized_this put_seven)) own_slots r))) (λ after r. completed_normally after r))
        (λ x r. Gives (Rattle.replay.specs.Evaluation.call_result Rattle.std.proofs.Common.None x.end) r)
