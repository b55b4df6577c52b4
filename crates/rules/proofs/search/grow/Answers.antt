use Rattle.std.proofs.Common.{◌∙◌, ap}
use Rattle.rules.specs.Search.{row_at, rows_of}
use Rattle.rules.proofs.PathLists.{row_push}
use Rattle.rules.proofs.search.grow.Goals as goal

pub loop-alloc-preserved : goal.loop-alloc-preserved
loop-alloc-preserved g c m = ap (λ rows. row_at (rows_of rows) m) c.in_ok-push.ensures.items ∙ row_push c.loop-alloc.rows.items c.new.result m c.new.ensures.items ∙ c.loop-alloc.invariant m
