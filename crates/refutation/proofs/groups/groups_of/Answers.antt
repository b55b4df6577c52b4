-- No group, one method more, and all.
use Rattle.std.proofs.Common.{ap, sym, ◌∙◌}
use Rattle.algebra.specs.Basics.{join_of}
use Rattle.rules.specs.Near.{rel_of}
use Rattle.refutation.specs.Tables.{said_by}
use Rattle.refutation.specs.Overs.{said_in_groups}
use Rattle.refutation.specs.Lines.{joined_over}
use Rattle.refutation.proofs.KnownOver.{some_is, front_done}
use Rattle.refutation.proofs.Sets.{const_joined}
use Rattle.refutation.proofs.groups.groups_of.Goals as goal

pub methods-init : goal.methods-init
methods-init c = λ H part.
    let all = rel_of c.args.sight.now.floors.now.sets.now in
    let rest = joined_over all (said_by all c.args.sight.now.floors.now.tables.items) c.args.methods.now H in
    ap (λ gs. join_of (said_in_groups c.args.rel.now gs H) rest) c.new-groups.ensures.items ∙ const_joined rest

pub methods-preserved : goal.methods-preserved
methods-preserved c = λ H part.
    let all = rel_of c.args.sight.now.floors.now.sets.now in
    let said = said_by all c.args.sight.now.floors.now.tables.items in
    some_is _ c.in_ok-left.field-0 c.in-Some-2.left c.in-Some-2.is c.in_ok-left.ensures.joined H part
    ∙ ap (λ ns. join_of (said_in_groups c.args.rel.now c.methods.groups.items H) (joined_over all said ns H)) (sym c.in-Some.ensures.cases.0)
    ∙ c.methods.invariant H part

pub returns : goal.returns
returns c = λ H part.
    let all = rel_of c.args.sight.now.floors.now.sets.now in
    front_done all (said_by all c.args.sight.now.floors.now.tables.items) H c.methods.rest.now (said_in_groups c.args.rel.now c.methods.groups.items H) c.in_default.ensures.cases
    ∙ c.methods.invariant H part
