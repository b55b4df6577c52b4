-- One table more.
use Rattle.rules.specs.Near.{rel_of}
use Rattle.refutation.proofs.TableLemmas.{tables_step}
use Rattle.refutation.proofs.floors.const_tables.Goals as goal

pub loop-place-preserved : goal.loop-place-preserved
loop-place-preserved c =
    let step = tables_step (rel_of c.args.sets.now) c.loop-place.tables.items c.push.new.self.items c.in_ok-basics.basics.items c.loop-place.place c.in_ok-method_at.field-0 c.rel.result.now
    c.loop-place.invariant.size c.in_ok-method_at.ensures c.rel.ensures c.in_ok-basics.ensures c.in_ok-push.ensures.items c.loop-place.invariant.none in
    record { size = step.0; none = step.1 }
