use Rattle.std.proofs.Common.{sym, ◌∙◌}
use Rattle.classes.proofs.Sets.{is_held, is_behind}
use Rattle.classes.proofs.names.NameSet.contains.Goals as goal

pub returns-then-is_in : goal.returns-then-is_in
returns-then-is_in c =
    c.if-is_in.true ∙ sym (is_held c.self.inside.few.items c.self.inside.more.keys c.deref.result.now c.args.text.now c.args.self.now c.is_in.result c.self.view_is
    c.deref.ensures.value c.is_in.ensures c.if-is_in.true)

pub returns-else-is_in : goal.returns-else-is_in
returns-else-is_in c =
    c.contains.ensures ∙ sym (is_behind c.self.inside.few.items c.self.inside.more.keys c.deref.result.now c.args.text.now c.args.self.now c.is_in.result
    c.self.view_is c.deref.ensures.value c.is_in.ensures c.if-is_in.false)
