-- In the group with its steps, or in one of its own.
use Rattle.std.proofs.Common.{◌≡◌, ◌<◌, ◌++◌, true, rules, List, length, ap, subst, ◌∙◌}
use Rattle.std.specs.Prelude.{IfSome, slice_get}
use Rattle.algebra.specs.Basics.{join_of}
use Rattle.refutation.specs.Steps.{entry_along}
use Rattle.refutation.specs.Overs.{IsAlike, said_in_groups}
use Rattle.refutation.specs.declared.groups.Group.{Group}
use Rattle.refutation.proofs.GroupTables.{alike_joined, group_more}
use Rattle.refutation.proofs.RowLemmas.{whole_written}
use Rattle.refutation.proofs.StepLemmas.{along_is}
use Rattle.refutation.proofs.groups.join_said.Goals as goal

pub returns-in-Some : goal.returns-in-Some
returns-in-Some c = λ could H part.
    let ours = c.args.rel.now in
    let groups = c.args.groups.now in
    let new = c.join_at.new.groups in
    let at = c.in-Some.at in
    let paths = c.args.its.now in
    let steps = c.align.new.steps.items in
    let its = c.args.table.now in
    let lent = c.as_mut_slice.ensures.value in
    let seen = c.as_slice.ensures.value in
    let listed = c.as_slice-2.ensures.value in
    let aligned : c.align.result ≡ true = search rules in
    let alike = subst (λ ss. IfSome (slice_get groups.items at) (IsAlike ss (length its))) listed (subst (λ gs. IfSome (slice_get gs at) (IsAlike c.as_slice-2.result.now (length its))) seen c.in-Some.ensures.its) in
    ap (λ gs. said_in_groups ours gs H) (whole_written groups.len new groups.items groups.ok.0 (c.join_at.auto.groups ∙ ap length lent))
    ∙ alike_joined ours groups.items new at steps its (length its) (subst (λ (gs : List Group). at < length gs) seen c.in-Some.ensures.within) alike
    (λ K. subst (λ gs. IfSome (slice_get gs at) (λ (g : Group). said_in_groups ours new K ≡ join_of (said_in_groups ours gs K) (entry_along g.steps.items ours its K))) lent (c.join_at.ensures ours K)) H
    ∙ ap (join_of (said_in_groups ours groups.items H)) (along_is ours paths c.new-steps.result.items steps c.new-steps.ensures (c.align.ensures aligned) its H part)

pub returns : goal.returns
returns c = λ could H part.
    let ours = c.args.rel.now in
    let groups = c.args.groups.now in
    let steps = c.align.new.steps in
    let its = c.args.table.now in
    let aligned : c.align.result ≡ true = search rules in
    let table = c.in_ok-extend_from_slice.ensures.items ∙ ap (λ xs. xs ++ its) c.new-basics.ensures.items in
    let g : Group = record { steps = steps; table = c.extend_from_slice.new.self.items } in
    ap (λ gs. said_in_groups ours gs H) c.in_ok-push.ensures.items ∙ group_more ours groups.items g H
    ∙ ap (λ t. join_of (said_in_groups ours groups.items H) (entry_along steps.items ours t H)) table
    ∙ ap (join_of (said_in_groups ours groups.items H)) (along_is ours c.args.its.now c.new-steps.result.items steps.items c.new-steps.ensures (c.align.ensures aligned) its H part)
