use Rattle.std.proofs.Common.{◌≤◌, ◌-◌, length, sym, ap, ◌∙◌, arith}
use Rattle.std.specs.Prelude.{slice_get}
use Rattle.classes.proofs.Sets.{later_name}
use Rattle.classes.proofs.names.NameSet.name_at.Goals as goal

pub returns-in_ok-name : goal.returns-in_ok-name
returns-in_ok-name c =
    let few = c.self.inside.few.ok.0 in
    let w : length c.self.inside.few.items ≤ c.args.index = omega (arith, c.if-index-len.false, c.len.ensures ∙ few) in
    later_name c.self.inside.few.items c.self.inside.more.keys c.args.self.now c.args.index c.in_ok-name.name.now c.self.view_is w
    (sym (c.in_ok-name.ensures.key ∙ ap (λ n. slice_get c.self.inside.more.keys (c.args.index - n)) (c.len-else-index-len.ensures ∙ few)))
