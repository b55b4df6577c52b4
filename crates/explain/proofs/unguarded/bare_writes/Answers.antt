-- The writes after one method more, and at the end.
use Rattle.std.proofs.Common.{[], map}
use Rattle.core_program.specs.Views.{method_of, program_of}
use Rattle.explain.specs.Unguarded.{first_writes, writes_from}
use Rattle.explain.proofs.Writing.{all_methods, one_more_method}
use Rattle.explain.proofs.unguarded.bare_writes.Goals as goal

pub loop-m-preserved : goal.loop-m-preserved
loop-m-preserved g c =
    let P = program_of c.args.walk.now.program.now in
    one_more_method P c.methods-method-items.result.now c.loop-m.m c.method-item.result c.loop-m.writes.items c.add_method.new.writes.items
    (first_writes [] (writes_from P 0 (map method_of c.methods-method-items.result.now))) c.loop-m-test.true c.method-item.is c.in_ok-add_method.ensures c.loop-m.invariant

pub returns : goal.returns
returns g c =
    all_methods (program_of c.args.walk.now.program.now) c.methods-method-items.result.now c.loop-m.m c.loop-m.writes.items c.loop-m-test.false c.methods-method-items.ensures c.loop-m.invariant
