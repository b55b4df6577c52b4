-- One method more has its cell.
use Rattle.std.proofs.Common.{refl, true}
use Rattle.level_check.specs.Cells.{queue_of}
use Rattle.level_check.proofs.Adding.{begun_start, begun_step, begun_all}
use Rattle.level_check.proofs.explore.cells_of.Goals as goal

pub loop-method-init : goal.loop-method-init
loop-method-init c = begun_start c.args.methods.now (queue_of c.new-cells.result) c.new-cells.ensures

pub loop-method-preserved : goal.loop-method-preserved
loop-method-preserved c =
    begun_step c.args.methods.now c.loop-method.method-index c.method-item.result (queue_of c.loop-method.cells) (queue_of c.add.new.self) (record { callee = record { method = c.method-item.result; alone = true }; held = c.new.result }) 0 c.in_ok-add.field-0
    c.loop-method-test.true c.method-item.is refl c.new.ensures.items refl c.loop-method.invariant c.in_ok-add.ensures

pub returns : goal.returns
returns c = begun_all c.args.methods.now c.loop-method.method-index (queue_of c.loop-method.cells) c.loop-method-test.false c.loop-method.invariant
