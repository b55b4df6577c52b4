-- Its table is joined.
use Rattle.std.proofs.Common.{◌≡◌, length, get_or, refl, subst}
use Rattle.std.specs.Prelude.{IfSome}
use Rattle.std.proofs.lemmas.Option.{slice_get-get_or}
use Rattle.refutation.specs.declared.groups.Group.{Group}
use Rattle.refutation.proofs.GroupTables.{group_put}
use Rattle.refutation.proofs.groups.join_at.Goals as goal

pub returns : goal.returns
returns c = λ rel.
    let groups = c.args.groups.now in
    let g = get_or groups c.args.at c.index-groups-at.result in
    let its = c.args.its.now in
    let is = slice_get-get_or groups c.args.at c.index-groups-at.result c.requires.within in
    group_put rel groups c.args.at g _ its is (subst (λ o. IfSome o (λ (x : Group). length x.table ≡ length its)) is c.requires.size) refl c.join_table.ensures
