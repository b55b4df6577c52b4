-- A front of the names, where memory was wanting.
use Rattle.classes.specs.Names.{distinct}
use Rattle.classes.specs.Members.{class_names}
use Rattle.syntax.specs.Views.{class_of}
use Rattle.std.proofs.Common.{map}
use Rattle.classes.proofs.Fronts.{front_kept}
use Rattle.classes.proofs.check.note_class_names.Goals as goal

pub returns-in_err-found-clause-kept : goal.returns-in_err-found-clause-kept
returns-in_err-found-clause-kept c =
    front_kept c.from_residual.result c.args.classes.now c.loop-number.number c.index-classes-number.result c.loop-number.names c.see_class.new.names
    (distinct (class_names (map class_of c.args.classes.now))) c.loop-number.invariant.1 c.loop-number-test.true c.index-classes-number.is c.in_err-found.ensures.kept
