-- One of the methods more.
use Rattle.std.proofs.Common.{◌+◌, ◌++◌, ℕ, List, drop, ap, sym, ◌∙◌}
use Rattle.base.proofs.Lists.{next_drop}
use Rattle.rules.specs.Overriding.{told_each}
use Rattle.rules.specs.Search.{row_at, rows_of}
use Rattle.rules.proofs.OverridingLemmas.{told_more}
use Rattle.rules.proofs.overriding.add_to_each.Goals as goal

pub loop-method-preserved : goal.loop-method-preserved
loop-method-preserved c m =
    let all = c.args.all.now in
    let k = c.loop-method.method-index in
    let row = row_at (rows_of c.loop-method.rows.items) m in
    told_more c.args.over c.method-item.result m row (row_at (rows_of c.push_at.new.rows.items) m) (told_each c.args.over (drop (k + 1) all) m)
    (row_at (rows_of c.args.rows.now.items) m ++ told_each c.args.over all m) (c.in_ok-push_at.ensures m)
    (ap (λ (z : List ℕ). row ++ told_each c.args.over z m) (sym (next_drop all k c.method-item.result c.loop-method-test.true c.method-item.is)) ∙ c.loop-method.invariant m)
