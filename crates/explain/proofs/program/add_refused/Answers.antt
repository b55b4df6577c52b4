use Rattle.std.proofs.Common.{true, length, sym, ap, ◌∙◌}
use Rattle.std.proofs.lemmas.List.{length-map}
use Rattle.core_program.specs.Views.{method_of, program_of}
use Rattle.rules.specs.Near.{rel_of}
use Rattle.rules.specs.Search.{row_at}
use Rattle.explain.specs.Programs.{explained}
use Rattle.explain.proofs.Following.{refused_told}
use Rattle.explain.proofs.program.add_refused.Goals as goal

pub returns : goal.returns
returns g c =
    let P = program_of c.args.basis.now.walk.now.program.now in
    let rel = rel_of c.args.basis.now.walk.now.sets.now in
    let A = g.A.Assigned.assigned c.args.basis.now.walk.now.assigned.now in
    let overs = row_at c.args.basis.now.over.now in
    let method = method_of c.args.method.now in
    refused_told P rel A overs c.args.basis.now.grounds.now c.follow.result c.args.told.now.items c.follow.new.told.items c.args.all.now.items c.push.new.self.items c.follow.new.all.items c.args.id method c.in_ok-x.x c.led_to-next.result
    (length c.methods.result.now) (sym c.keeps.ensures ∙ c.if-keeps.false)
    (c.in_ok-x.ensures ∙ ap (λ b. explained P rel A overs c.args.basis.now.grounds.now true b c.args.id method) c.bound_of-limit.ensures) c.led_to-next.ensures
    (sym (length-map c.methods.result.now method_of) ∙ ap length c.methods.ensures) c.in_ok-push.ensures.items c.follow.ensures.all c.follow.ensures.told
