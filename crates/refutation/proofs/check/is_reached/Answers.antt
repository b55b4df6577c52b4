-- What the body reaches, else what is said of the methods that override it; and what the looks take.
use Rattle.std.proofs.Common.{◌≡◌, ℕ, ◌+◌, ◌*◌, true, false, List, length, slice_get, rules, refl, ap, sym, subst, ◌∙◌, arith}
use Rattle.paths.specs.Paths.{PathData}
use Rattle.algebra.specs.Basics.{below_of, join_of}
use Rattle.algebra.specs.HeldPaths.{has_path}
use Rattle.core_program.specs.Views.{program_of}
use Rattle.rules.specs.Near.{rel_of}
use Rattle.rules.specs.Rules.{IsSubset}
use Rattle.refutation.specs.Lines.{LineData, overriding, body_effect, joined_over, certified_effect}
use Rattle.refutation.specs.Tables.{said_by, table_entry}
use Rattle.refutation.specs.Works.{body_work, look_work}
use Rattle.refutation.specs.declared.looks.Looks.{Looks}
use Rattle.refutation.proofs.Reached.{run_with, body_reaches}
use Rattle.refutation.proofs.check.is_reached.Goals as goal

pub returns-then-not-spend-clause-work : goal.returns-then-not-spend-clause-work
returns-then-not-spend-clause-work c =
    let P = program_of c.args.judged.now.program.now in
    let m = c.line.inside.method in
    let same = ap (look_work P) (ap (λ (x : LineData). x.method) c.line.view_is) in
    let look : look_work P m ≡ body_work (slice_get P.methods m) + 8 * length (overriding P m) = refl in
    let none : c.spend.result ≡ false = search rules in
    omega (arith, same, look, c.body_cost.ensures, c.spend.ensures.over none)

pub returns-then-below-clause-work : goal.returns-then-below-clause-work
returns-then-below-clause-work c =
    let P = program_of c.args.judged.now.program.now in
    let m = c.line.inside.method in
    let same = ap (look_work P) (ap (λ (x : LineData). x.method) c.line.view_is) in
    let look : look_work P m ≡ body_work (slice_get P.methods m) + 8 * length (overriding P m) = refl in
    let some : c.spend.result ≡ true = search rules in
    omega (arith, same, look, c.body_cost.ensures, c.spend.ensures.spent some)

pub returns-then-not-branch-clause-work : goal.returns-then-not-branch-clause-work
returns-then-not-branch-clause-work c =
    let P = program_of c.args.judged.now.program.now in
    let m = c.line.inside.method in
    let same = ap (look_work P) (ap (λ (x : LineData). x.method) c.line.view_is) in
    let look : look_work P m ≡ body_work (slice_get P.methods m) + 8 * length (overriding P m) = refl in
    let some : c.spend.result ≡ true = search rules in
    let none : c.in_ok-renew.field-0 ≡ false = search rules in
    omega (arith, same, look, c.body_cost.ensures, c.spend.ensures.spent some, c.in_ok-renew.ensures.less none)

pub returns-then-looks-clause-work : goal.returns-then-looks-clause-work
returns-then-looks-clause-work c =
    let P = program_of c.args.judged.now.program.now in
    let m = c.line.inside.method in
    let same = ap (look_work P) (ap (λ (x : LineData). x.method) c.line.view_is) in
    let look : look_work P m ≡ body_work (slice_get P.methods m) + 8 * length (overriding P m) = refl in
    let some : c.spend.result ≡ true = search rules in
    let more : c.in_ok-renew.field-0 ≡ true = search rules in
    omega (arith, same, look, c.body_cost.ensures, c.spend.ensures.spent some, c.in_ok-renew.ensures.spent more)

pub returns-clause-work : goal.returns-clause-work
returns-clause-work c =
    let P = program_of c.args.judged.now.program.now in
    let m = c.line.inside.method in
    let same = ap (look_work P) (ap (λ (x : LineData). x.method) c.line.view_is) in
    let look : look_work P m ≡ body_work (slice_get P.methods m) + 8 * length (overriding P m) = refl in
    let some : c.spend.result ≡ true = search rules in
    let more : c.in_ok-renew.field-0 ≡ true = search rules in
    omega (arith, same, look, c.body_cost.ensures, c.spend.ensures.spent some, c.in_ok-renew.ensures.spent more)

pub returns-then-below-clause-reached : goal.returns-then-below-clause-reached
returns-then-below-clause-reached c = λ same inside.
    let P = program_of c.args.judged.now.program.now in
    let rel = rel_of c.args.judged.now.sets.now in
    let A = said_by rel c.args.floors.now.tables.items in
    let H = has_path c.args.held.now in
    let m = c.line.inside.method in
    let method = ap (λ (x : LineData). x.method) c.line.view_is in
    let found = ap (λ (x : LineData). x.found) c.line.view_is in
    let said = c.in_ok-body.ensures ∙ (λ i. body_effect P rel (said_by (rel_of (same i)) c.args.floors.now.tables.items) (slice_get P.methods m) H) in
    body_reaches P rel A m H c.line.inside.found c.in_ok-body.body said (sym c.below.ensures ∙ c.if-below.true)
    ∙ (λ i. below_of (found i) (certified_effect P rel A (method i) H))

pub returns-clause-reached : goal.returns-clause-reached
returns-clause-reached c = λ same inside.
    let P = program_of c.args.judged.now.program.now in
    let rel = rel_of c.args.judged.now.sets.now in
    let tables = c.args.floors.now.tables.items in
    let H = has_path c.args.held.now in
    let m = c.line.inside.method in
    let methods = c.of.result.now in
    let body = c.in_ok-body.body in
    let method = ap (λ (x : LineData). x.method) c.line.view_is in
    let found = ap (λ (x : LineData). x.found) c.line.view_is in
    let said = c.in_ok-body.ensures ∙ (λ i. body_effect P rel (said_by (rel_of (same i)) tables) (slice_get P.methods m) H) in
    c.below-2.ensures ∙ c.said_over-reached.ensures.reached
    ∙ (λ i. below_of c.line.inside.found (join_of body (joined_over (rel_of (same i)) (said_by (rel_of (same i)) tables) methods H)))
    ∙ ap (below_of c.line.inside.found) (run_with P rel (said_by rel tables) H c.args.judged.now.over.now m methods body c.requires.over c.of.ensures said)
    ∙ (λ i. below_of (found i) (certified_effect P rel (said_by rel tables) (method i) H))

pub returns-then-looks-clause-reached : goal.returns-then-looks-clause-reached
returns-then-looks-clause-reached c = λ same inside.
    let P = program_of c.args.judged.now.program.now in
    let rel = rel_of c.args.judged.now.sets.now in
    let kept = rel_of c.args.floors.now.sets.now in
    let tables = c.args.floors.now.tables.items in
    let H = has_path c.args.held.now in
    let m = c.line.inside.method in
    let body = c.in_ok-body.body in
    let known = c.renew.new.looks.known in
    let method = ap (λ (x : LineData). x.method) c.line.view_is in
    let found = ap (λ (x : LineData). x.found) c.line.view_is in
    let whole : known.whole ≡ true = search rules in
    let more : c.in_ok-renew.field-0 ≡ true = search rules in
    let its = c.in_ok-renew.ensures.its more in
    let part = subst (λ (R : ℕ → List PathData). IsSubset H (has_path (R known.method))) (λ i. rel_of (sym same i)) (subst (λ n. IsSubset H (has_path (rel n))) (sym (its ∙ method)) inside) in
    let tells = c.in_ok-renew.ensures.known whole H part in
    let table = c.as_slice.ensures.value ∙ ap (λ (x : Looks). x.known.table) c.looks.view_is in
    let others = c.entry-others.ensures ∙ (λ i. table_entry ((c.rel.ensures ∙ ap kept (sym its)) i) (table i) H) ∙ tells
    ∙ (λ i. joined_over (rel_of (same i)) (said_by (rel_of (same i)) tables) (overriding P (its i)) H) in
    let said = c.in_ok-body.ensures ∙ (λ i. body_effect P rel (said_by (rel_of (same i)) tables) (slice_get P.methods m) H) in
    c.below-then-looks.ensures ∙ ap (below_of c.line.inside.found) (c.join.ensures ∙ (λ i. join_of (said i) (others i)))
    ∙ (λ i. below_of (found i) (certified_effect P rel (said_by rel tables) (method i) H))
