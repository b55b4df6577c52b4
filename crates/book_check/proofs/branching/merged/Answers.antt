-- Two values made one, where the path is held and where it isn't.
use Rattle.std.proofs.Common.{sym, ◌∙◌}
use Rattle.paths.proofs.PathOrder.{eq_is}
use Rattle.effects.specs.Accesses.{branching_value}
use Rattle.book_check.specs.Merges.{combined_of}
use Rattle.book_check.proofs.BranchLemmas.{always_where, where_always, where_both}
use Rattle.book_check.proofs.branching.merged.Goals as goal

pub returns-in-Always-Where : goal.returns-in-Always-Where
returns-in-Always-Where c = λ H.
    always_where (combined_of c.args.way) (H c.in-Always-Where.path) c.in-Always-Where.a c.in-Always-Where.x c.in-Always-Where.y c.combined-held.result c.combined-free.result
    c.combined-held.ensures c.combined-free.ensures
    ∙ (λ i. combined_of c.args.way (branching_value (sym c.in-Always-Where.is-0 i) H) (branching_value (sym c.in-Always-Where.is-1 i) H))

pub returns-in-Where-Always : goal.returns-in-Where-Always
returns-in-Where-Always c = λ H.
    where_always (combined_of c.args.way) (H c.in-Where-Always.path) c.in-Where-Always.x c.in-Where-Always.y c.in-Where-Always.b
    c.combined-held-in-Where-Always.result c.combined-free-in-Where-Always.result c.combined-held-in-Where-Always.ensures c.combined-free-in-Where-Always.ensures
    ∙ (λ i. combined_of c.args.way (branching_value (sym c.in-Where-Always.is-0 i) H) (branching_value (sym c.in-Where-Always.is-1 i) H))

pub returns-else-not-same : goal.returns-else-not-same
returns-else-not-same c = λ H.
    where_both (combined_of c.args.way) H c.in-Where-Where.path c.in-Where-Where.other c.in-Where-Where.x c.in-Where-Where.y c.in-Where-Where.u c.in-Where-Where.v
    c.combined-held-in-Where-Where.result c.combined-free-in-Where-Where.result
    (eq_is c.in-Where-Where.path c.in-Where-Where.other (sym c.same.ensures ∙ c.if-not-same.false))
    c.combined-held-in-Where-Where.ensures c.combined-free-in-Where-Where.ensures
    ∙ (λ i. combined_of c.args.way (branching_value (sym c.in-Where-Where.is-0 i) H) (branching_value (sym c.in-Where-Where.is-1 i) H))
