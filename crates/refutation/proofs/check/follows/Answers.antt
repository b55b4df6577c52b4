-- A line that is said already, one that doesn't follow, and one that does.
use Rattle.std.proofs.Common.{◌≡◌, ◌+◌, ◌∷◌, ◌++◌, [], true, false, rules, refl, sym, ap, subst, arith, ◌∙◌}
use Rattle.algebra.specs.Basics.{below_of}
use Rattle.algebra.specs.HeldPaths.{has_path}
use Rattle.core_program.specs.Views.{program_of}
use Rattle.rules.specs.Near.{rel_of}
use Rattle.rules.specs.Rules.{IsSubset}
use Rattle.refutation.specs.Lines.{LineData, certified_effect}
use Rattle.refutation.specs.Tables.{said_by, IsRaised, TablesSay}
use Rattle.refutation.specs.Overs.{TellsOver}
use Rattle.refutation.specs.Works.{look_work}
use Rattle.refutation.proofs.Below.{placed_is}
use Rattle.refutation.proofs.CheckLemmas.{follows_known, follows_not, follows_new}
use Rattle.refutation.proofs.Reached.{told_is, told_spent, told_none}
use Rattle.refutation.proofs.OverTables.{tells_still}
use Rattle.refutation.proofs.Rooms.{not_said, look_within, look_taken}
use Rattle.refutation.proofs.check.follows.Goals as goal

pub returns-then-below-clause-follows : goal.returns-then-below-clause-follows
returns-then-below-clause-follows c =
    let kept = c.args.floors.now.sets.now in
    let tables = c.args.floors.now.tables.items in
    let held = c.as_slice-held.ensures.value ∙ c.in_ok-paths.ensures ∙ c.as_slice.ensures.value ∙ ap (λ (x : LineData). x.held) c.line.view_is in
    let method = ap (λ (x : LineData). x.method) c.line.view_is in
    follows_known (program_of c.args.judged.now.program.now) c.args.judged.now.sets.now kept tables c.args.line.now c.line.inside.found c.at.result (ap (λ (x : LineData). x.found) c.line.view_is)
    c.below.result (c.at.ensures ∙ (λ i. said_by (rel_of kept) tables (method i) (has_path (held i)))) c.below.ensures c.if-below.true

pub returns-then-not-reached-clause-follows : goal.returns-then-not-reached-clause-follows
returns-then-not-reached-clause-follows c = λ before same says lines placed.
    let P = program_of c.args.judged.now.program.now in
    let rel = rel_of c.args.judged.now.sets.now in
    let kept = c.args.floors.now.sets.now in
    let tables = c.args.floors.now.tables.items in
    let l = c.args.line.now in
    let held = c.as_slice-held.ensures.value ∙ c.in_ok-paths.ensures ∙ c.as_slice.ensures.value ∙ ap (λ (x : LineData). x.held) c.line.view_is in
    let fails : c.in-Some.reached ≡ false = search rules in
    let inside = subst (λ ps. IsSubset (has_path ps) (has_path (rel l.method))) (sym held) (placed_is P rel l placed).relevant in
    let told = told_is c.in_ok-reached.field-0 c.in-Some.reached (below_of l.found (certified_effect P rel (said_by rel tables) l.method (has_path c.as_slice-held.result.now))) c.in-Some.is (c.in_ok-reached.ensures.reached same inside) in
    let asked = told ∙ (λ i. below_of l.found (certified_effect P rel (said_by (rel_of (sym same i)) tables) l.method (has_path (held i)))) in
    follows_not P c.args.judged.now.sets.now kept tables l l.found (certified_effect P rel (said_by (rel_of kept) tables) l.method (has_path l.held)) refl tables
    c.in-Some.reached refl asked fails before same says lines placed

pub returns-clause-follows : goal.returns-clause-follows
returns-clause-follows c = λ before same says lines placed.
    let P = program_of c.args.judged.now.program.now in
    let rel = rel_of c.args.judged.now.sets.now in
    let kept = c.args.floors.now.sets.now in
    let tables = c.args.floors.now.tables.items in
    let l = c.args.line.now in
    let held = c.as_slice-held.ensures.value ∙ c.in_ok-paths.ensures ∙ c.as_slice.ensures.value ∙ ap (λ (x : LineData). x.held) c.line.view_is in
    let method = ap (λ (x : LineData). x.method) c.line.view_is in
    let found = ap (λ (x : LineData). x.found) c.line.view_is in
    let passes : c.in-Some.reached ≡ true = search rules in
    let inside = subst (λ ps. IsSubset (has_path ps) (has_path (rel l.method))) (sym held) (placed_is P rel l placed).relevant in
    let told = told_is c.in_ok-reached.field-0 c.in-Some.reached (below_of l.found (certified_effect P rel (said_by rel tables) l.method (has_path c.as_slice-held.result.now))) c.in-Some.is (c.in_ok-reached.ensures.reached same inside) in
    let asked = told ∙ (λ i. below_of l.found (certified_effect P rel (said_by (rel_of (sym same i)) tables) l.method (has_path (held i)))) in
    follows_new P c.args.judged.now.sets.now kept tables l l.found (certified_effect P rel (said_by (rel_of kept) tables) l.method (has_path l.held)) refl c.add.new.self.sets.now c.add.new.self.tables.items
    c.in-Some.reached refl asked passes
    c.add.ensures.sets
    (λ ls said. subst (λ x. TablesSay (rel_of c.add.new.self.sets.now) c.add.new.self.tables.items (ls ++ x ∷ [])) (λ i. record { method = method i; found = found i; held = held i }) (c.add.ensures.says ls said)) before same says lines placed

pub add-requires : goal.add-requires
add-requires c =
    let method = ap (λ (x : LineData). x.method) c.line.view_is in
    omega (arith, c.requires.there, method)

pub returns-in_default-clause-work : goal.returns-in_default-clause-work
returns-in_default-clause-work c = λ before says.
    let looks = look_work (program_of c.args.judged.now.program.now) in
    let rel = rel_of c.args.floors.now.sets.now in
    let tables = c.args.floors.now.tables.items in
    let held = c.as_slice-held.ensures.value ∙ c.in_ok-paths.ensures ∙ c.as_slice.ensures.value ∙ ap (λ (x : LineData). x.held) c.line.view_is in
    let method = ap (λ (x : LineData). x.method) c.line.view_is in
    let fails : c.below.result ≡ false = search rules in
    let new = not_said rel tables c.args.line.now c.line.inside.found c.at.result c.line.inside.method c.as_slice-held.result.now c.below.result (ap (λ (x : LineData). x.found) c.line.view_is) method held c.at.ensures c.below.ensures fails in
    let within = look_within looks rel tables before says c.args.line.now c.requires.there new in
    let less = told_none _ _ c.in_ok-reached.field-0 c.in_default.is c.in_ok-reached.ensures.work in
    omega (arith, within, less)

pub returns-clause-work : goal.returns-clause-work
returns-clause-work c = λ before says e.
    let looks = look_work (program_of c.args.judged.now.program.now) in
    let rel = rel_of c.args.floors.now.sets.now in
    let tables = c.args.floors.now.tables.items in
    let held = c.as_slice-held.ensures.value ∙ c.in_ok-paths.ensures ∙ c.as_slice.ensures.value ∙ ap (λ (x : LineData). x.held) c.line.view_is in
    let method = ap (λ (x : LineData). x.method) c.line.view_is in
    let found = ap (λ (x : LineData). x.found) c.line.view_is in
    let fails : c.below.result ≡ false = search rules in
    let new = not_said rel tables c.args.line.now c.line.inside.found c.at.result c.line.inside.method c.as_slice-held.result.now c.below.result found method held c.at.ensures c.below.ensures fails in
    let raised = subst (λ (x : LineData). IsRaised (rel x.method) tables c.add.new.self.tables.items x) (λ i. record { method = method i; found = found i; held = held i }) c.add.ensures.raised in
    let taken = look_taken looks rel tables before says c.args.line.now c.requires.there new c.add.new.self.tables.items raised in
    let spent = told_spent _ _ c.in_ok-reached.field-0 c.in-Some.reached c.in-Some.is c.in_ok-reached.ensures.work in
    omega (arith, taken, spent)

pub returns-clause-known : goal.returns-clause-known
returns-clause-known c =
    let P = program_of c.args.judged.now.program.now in
    let rel = rel_of c.args.floors.now.sets.now in
    let tables = c.args.floors.now.tables.items in
    let now = c.add.new.self.tables.items in
    let known = c.is_reached.new.looks.known in
    let still = c.forget_others.new.known in
    let l : LineData = record { method = c.line.inside.method; found = c.line.inside.found; held = c.as_slice-held.result.now } in
    subst (λ s. TellsOver P (rel_of s) (said_by (rel_of s) now) still.method still.table still.whole) (sym c.add.ensures.sets)
    (tells_still P rel tables now l known.method still.method known.table still.table known.whole still.whole c.add.ensures.raised
    c.forget_others.ensures.whole c.forget_others.ensures.its c.forget_others.ensures.method c.forget_others.ensures.table c.in_ok-reached.ensures.known)
