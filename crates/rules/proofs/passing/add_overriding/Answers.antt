-- The nearest, where each passes the paths on, or all.
use Rattle.std.proofs.Common.{inl, inr}
use Rattle.rules.proofs.ClauseLemmas.{on_ok}
use Rattle.rules.proofs.passing.add_overriding.Goals as goal

pub returns-then-do_pass : goal.returns-then-do_pass
returns-then-do_pass c = on_ok c.add_rows.result (λ are. record { rows = c.in_ok-near.near; enough = inr (c.in_ok-near.ensures, c.do_pass.ensures c.if-do_pass.true); are = are }) c.add_rows.ensures

pub returns : goal.returns
returns c = on_ok c.add_rows-2.result (λ are. record { rows = c.in_ok-all.all; enough = inl c.in_ok-all.ensures; are = are }) c.add_rows-2.ensures
