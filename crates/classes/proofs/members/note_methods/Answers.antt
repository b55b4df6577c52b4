use Rattle.std.proofs.Common.{map}
use Rattle.syntax.specs.Views.{member_of}
use Rattle.classes.specs.Members.{method_names}
use Rattle.classes.proofs.OwnLemmas.{methods_apart}
use Rattle.classes.proofs.members.note_methods.Goals as goal

pub returns-then-have_methods_apart : goal.returns-then-have_methods_apart
returns-then-have_methods_apart c = methods_apart (method_names (map member_of c.args.members.now)) c.args.first (c.have_methods_apart.ensures c.if-have_methods_apart.true)
