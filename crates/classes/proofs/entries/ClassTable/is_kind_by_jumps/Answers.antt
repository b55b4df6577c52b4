use Rattle.std.proofs.Common.{sym, ap, ◌∙◌, arith}
use Rattle.classes.specs.declared.jumps.Jump.{Jump}
use Rattle.classes.specs.Views.{table_data}
use Rattle.classes.proofs.Jumping.{kind_level, kind_stepped}
use Rattle.classes.proofs.entries.ClassTable.is_kind_by_jumps.Goals as goal

pub returns-then-jump_at-depth : goal.returns-then-jump_at-depth
returns-then-jump_at-depth c =
    let last = ap (λ (j : Jump). j.depth) c.jump_at-depth.ensures in
    let here = ap (λ (j : Jump). j.depth) c.jump_at.ensures in
    c.eq.ensures
    ∙ kind_level (table_data c.args.self.now) c.args.jumps.now c.requires c.risen-from.result c.args.other (omega (arith, last, here, c.if-jump_at-depth.true))
    ∙ c.risen-from.ensures c.args.other last ∙ c.loop.invariant

pub loop-preserved : goal.loop-preserved
loop-preserved c =
    let last = ap (λ (j : Jump). j.depth) c.jump_at-depth.ensures in
    let here = ap (λ (j : Jump). j.depth) c.jump_at.ensures in
    kind_stepped (table_data c.args.self.now) c.args.jumps.now c.requires c.risen-from.result c.in-Some.above c.args.other (sym c.above.ensures ∙ c.in-Some.is)
    (omega (arith, last, here, c.if-jump_at-depth.false))
    ∙ c.risen-from.ensures c.args.other last ∙ c.loop.invariant
