use Rattle.std.proofs.Common.{sym, ap, ◌∙◌, ◌++◌, ◌-◌}
use Rattle.classes.specs.Lines.{ancestors, above}
use Rattle.classes.specs.Families.{tree_of}
use Rattle.classes.proofs.Climbing.{list_later}
use Rattle.classes.proofs.family.Family.line.Goals as goal

pub loop-left-preserved : goal.loop-left-preserved
loop-left-preserved c =
    ap (λ o. c.push.new.self.items ++ ancestors (above (tree_of c.args.self.now)) (c.loop-left.left - 1) o) c.above-next-in-loop-left.ensures
    ∙ list_later (above (tree_of c.args.self.now)) c.loop-left.left c.in-Some.class c.loop-left.line.items c.push.new.self.items _ c.loop-left-test.true
    (ap (λ o. c.loop-left.line.items ++ ancestors (above (tree_of c.args.self.now)) c.loop-left.left o) (sym c.in-Some.is) ∙ c.loop-left.invariant)
    c.in_ok-push.ensures.items
