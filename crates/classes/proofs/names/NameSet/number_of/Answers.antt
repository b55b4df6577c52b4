use Rattle.std.proofs.Common.{ap, ◌∙◌, ◌+◌, Some, None, refl}
use Rattle.classes.proofs.Sets.{numbered_by}
use Rattle.classes.proofs.names.NameSet.number_of.Goals as goal

pub returns-in_err-place-in-None : goal.returns-in_err-place-in-None
returns-in_err-place-in-None c =
    c.from_residual.ensures ∙ numbered_by c.self.inside.few.items c.self.inside.more.keys c.deref.result.now c.args.text.now c.args.self.now None None c.self.view_is
    c.deref.ensures.value c.in-None.ensures.place c.in_err-place-in-None.ensures.index

pub returns-in-Some : goal.returns-in-Some
returns-in-Some c =
    numbered_by c.self.inside.few.items c.self.inside.more.keys c.deref.result.now c.args.text.now c.args.self.now (Some c.in-Some.place) _ c.self.view_is
    c.deref.ensures.value c.in-Some.ensures.place refl

pub returns-in_ok-place-in-None : goal.returns-in_ok-place-in-None
returns-in_ok-place-in-None c =
    ap (λ n. Some (n + c.in_ok-place-in-None.place)) (c.len-in-None.ensures ∙ c.self.inside.few.ok.0)
    ∙ numbered_by c.self.inside.few.items c.self.inside.more.keys c.deref.result.now c.args.text.now c.args.self.now None (Some c.in_ok-place-in-None.place) c.self.view_is
    c.deref.ensures.value c.in-None.ensures.place c.in_ok-place-in-None.ensures.index
