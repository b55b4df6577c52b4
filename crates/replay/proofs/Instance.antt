-- A schedule that is one atomic call.
use Rattle.std.proofs.Common.{◌≡◌, ℕ, zero, suc, ◌+◌, ◌<◌, Bool, true, false, Some, None, refl, sym, ap, ◌∙◌, arith}
use Rattle.std.specs.Prelude.{Option, take, replicate}
use Rattle.core_program.specs.Examples.{nested}
use Rattle.state.specs.States.{State, initial}
use Rattle.semantics.specs.Run.{run, inside}
use Rattle.semantics.specs.Examples.{nested_after_eleven}
use Rattle.semantics.proofs.PlainRuns.{run_is}
use Rattle.replay.specs.Calls.{IsCallAt}

inside_after : Option State → Bool
inside_after None = false
inside_after (Some q) = inside nested q 0

-- after so many steps the thread stands inside, where the run says so
stands : (i : ℕ) (mid : State) → run nested (take (0 + i) (replicate 11 0)) ≡ Some mid → inside_after (run nested (take (0 + i) (replicate 11 0))) ≡ true → inside nested mid 0 ≡ true
unfolding inside_after
stands i mid ran e = ap inside_after (sym ran) ∙ e

inner : (i : ℕ) (mid : State) → 0 < i → i < 11 → run nested (take (0 + i) (replicate 11 0)) ≡ Some mid → inside nested mid 0 ≡ true
unfolding inside_after
inner zero mid more less ran = absurd (omega (arith, more))
inner (suc zero) mid more less ran = stands 1 mid ran (ap inside_after (run_is nested (replicate 1 0)))
inner (suc (suc zero)) mid more less ran = stands 2 mid ran (ap inside_after (run_is nested (replicate 2 0)))
inner (suc (suc (suc zero))) mid more less ran = stands 3 mid ran (ap inside_after (run_is nested (replicate 3 0)))
inner (suc (suc (suc (suc zero)))) mid more less ran = stands 4 mid ran (ap inside_after (run_is nested (replicate 4 0)))
inner (suc (suc (suc (suc (suc zero))))) mid more less ran = stands 5 mid ran (ap inside_after (run_is nested (replicate 5 0)))
inner (suc (suc (suc (suc (suc (suc zero)))))) mid more less ran = stands 6 mid ran (ap inside_after (run_is nested (replicate 6 0)))
inner (suc (suc (suc (suc (suc (suc (suc zero))))))) mid more less ran = stands 7 mid ran (ap inside_after (run_is nested (replicate 7 0)))
inner (suc (suc (suc (suc (suc (suc (suc (suc zero)))))))) mid more less ran = stands 8 mid ran (ap inside_after (run_is nested (replicate 8 0)))
inner (suc (suc (suc (suc (suc (suc (suc (suc (suc zero))))))))) mid more less ran = stands 9 mid ran (ap inside_after (run_is nested (replicate 9 0)))
inner (suc (suc (suc (suc (suc (suc (suc (suc (suc (suc zero)))))))))) mid more less ran = stands 10 mid ran (ap inside_after (run_is nested (replicate 10 0)))
inner (suc (suc (suc (suc (suc (suc (suc (suc (suc (suc (suc i))))))))))) mid more less ran = absurd (omega (arith, less))

pub one_call : IsCallAt nested (replicate 11 0) 0 11 0 (initial nested) nested_after_eleven
one_call = record {
  entry = refl;
  long = omega arith;
  within = omega arith;
  before = refl;
  outside = refl;
  inner = inner;
  after = run_is nested (replicate 11 0);
  ended = refl;
}
