use Rattle.std.proofs.Common.{ap, sym, ◌∙◌, is_some, map}
use Rattle.syntax.specs.Views.{class_of}
use Rattle.classes.specs.Members.{finals_of}
use Rattle.classes.specs.Lines.{members_at}
use Rattle.classes.specs.Finals.{final_of}
use Rattle.classes.proofs.Parted.{nothing_more, past}
use Rattle.classes.proofs.constructors.add_finals_of.Goals as goal

pub returns-in-None : goal.returns-in-None
returns-in-None c =
    nothing_more (map final_of c.args.finals.now.items) (finals_of (members_at (map class_of c.args.classes.now) c.args.number))
    (ap finals_of (past c.args.classes.now c.args.number (sym (ap is_some c.in-None.is) ∙ c.get.ensures.lookup.0)))
