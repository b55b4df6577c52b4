use Rattle.std.proofs.Common.{[], ◌∙◌, ap}
use Rattle.algebra.specs.declared.basic.Basic.TheVariants.{Const}
use Rattle.rules.specs.Near.{rel_of}
use Rattle.infer.specs.Cells.{at_parts, tables_in, all_const}
use Rattle.infer.proofs.ValueLemmas.{tables_more}
use Rattle.infer.proofs.inference.const_tables.Goals as goal

pub loop-method-preserved : goal.loop-method-preserved
loop-method-preserved c =
    let rel = rel_of c.args.sets.now in
    tables_more rel all_const c.loop-method.tables.items c.push.new.self.items (tables_in rel all_const 0 c.args.count) c.in_ok-const_table.field-0 c.loop-method.method c.args.count
    c.loop-method-test.true (c.in_ok-const_table.ensures ∙ ap (at_parts (λ qs. Const) []) c.rel.ensures) c.in_ok-push.ensures.items c.loop-method.invariant
