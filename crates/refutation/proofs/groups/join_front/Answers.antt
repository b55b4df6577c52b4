-- The method alone, or with those behind it that override it.
use Rattle.std.proofs.Common.{◌≡◌, true, rules}
use Rattle.algebra.specs.HeldPaths.{has_path}
use Rattle.rules.specs.Near.{rel_of}
use Rattle.rules.specs.Search.{row_at}
use Rattle.rules.proofs.SetLemmas.{all_has}
use Rattle.refutation.specs.Overs.{said_in_groups}
use Rattle.refutation.specs.Tables.{table_entry}
use Rattle.refutation.proofs.KnownOver.{front_alone, front_known}
use Rattle.refutation.proofs.groups.join_front.Goals as goal

pub returns-in_default-clause-joined : goal.returns-in_default-clause-joined
returns-in_default-clause-joined c = λ H part.
    let all = rel_of c.args.sight.now.floors.now.sets.now in
    let ours = c.args.rel.now in
    let could : c.in_ok-join_method.field-0 ≡ true = search rules in
    front_alone all c.args.sight.now.floors.now.tables.items H c.args.method c.args.behind.now (said_in_groups ours c.args.groups.now.items H) (said_in_groups ours c.join_method.new.groups.items H) (c.in_ok-join_method.ensures could H part)

pub returns-then-branch-clause-joined : goal.returns-then-branch-clause-joined
returns-then-branch-clause-joined c = λ H part.
    let all = rel_of c.args.sight.now.floors.now.sets.now in
    let ours = c.args.rel.now in
    let m = c.args.method in
    let could : c.in_ok-join_method.field-0 ≡ true = search rules in
    let knows : c.in_ok-join_known.field-0 ≡ true = search rules in
    let its = c.in-Some.ensures in
    front_known all c.args.sight.now.floors.now.tables.items H m c.args.behind.now (row_at c.args.sight.now.over.now m) c.in-Some.left.now (said_in_groups ours c.args.groups.now.items H) (said_in_groups ours c.join_method.new.groups.items H) (said_in_groups ours c.join_known.new.groups.items H)
    (table_entry (all m) (row_at c.args.sight.now.known.now.tables.items m) H) (c.in_ok-join_method.ensures could H part) (c.in_ok-join_known.ensures knows H part)
    (c.requires m its.known H (λ q has. all_has ours (has_path (all m)) its.inside q (part q has))) its.front
