-- A factor that is too large makes the work too large.
use Rattle.std.proofs.Common.{◌<◌, map, subst}
use Rattle.conditions.specs.Conditions.{cond_of}
use Rattle.effects.specs.Bodies.{part_of}
use Rattle.book_check.specs.BookWork.{value_work}
use Rattle.book_check.proofs.WorkLemmas.{step_before_large, step_large, step_value_large}
use Rattle.book_check.proofs.book_work.step_work.Goals as goal

pub returns-in_default : goal.returns-in_default
returns-in_default g c =
    step_large (map cond_of c.args.table.now) (part_of c.args.part) c.args.number (g.F.Nodes.nodes c.args.premises) c.args.most c.in_default.ensures

pub returns-in_default-leaves_among : goal.returns-in_default-leaves_among
returns-in_default-leaves_among g c =
    step_before_large (map cond_of c.args.table.now) (part_of c.args.part) c.args.number (g.F.Nodes.nodes c.args.premises) c.args.most c.in_default-leaves_among.ensures

pub returns-in_default-value_work : goal.returns-in_default-value_work
returns-in_default-value_work g c =
    step_value_large (map cond_of c.args.table.now) (part_of c.args.part) c.args.number (g.F.Nodes.nodes c.args.premises) c.args.most
    (subst (λ k. c.args.most < value_work (part_of c.args.part) k) c.in-Some-leaves_among.ensures.0 c.in_default-value_work.ensures)
