use Rattle.std.proofs.Common.{◌≡◌, ◌<◌, ◌≤◌, length, get_or, sym, subst, ap, ◌∙◌}
use Rattle.std.specs.Prelude.{IfOk}
use Rattle.rules.specs.Search.{row_at as overs_at}
use Rattle.infer.specs.declared.walk.Walk.{Walk}
use Rattle.infer.specs.Bodies.{program_at, rel_at, assigned_at}
use Rattle.infer.specs.Cells.{demands_of}
use Rattle.rules.proofs.CallerLookups.{found_method}
use Rattle.infer.proofs.Lookups.{no_method}
use Rattle.infer.proofs.cells.walk_demands.Goals as goal

pub returns-in-Some-clause-row : goal.returns-in-Some-clause-row
returns-in-Some-clause-row g c =
    let walk = c.args.walk.now in
    let all = c.methods.ensures ∙ ap (λ (w : Walk). (program_at w).methods) c.walk.view_is in
    let place = ap (λ (w : Walk). w.method) c.walk.view_is in
    let is = found_method c.methods.result.now (program_at walk).methods walk.method c.in-Some.method.now all
    (subst (λ k. k < length c.methods.result.now) place c.in-Some.ensures.lookup.3.0)
    (c.in-Some.ensures.lookup.1 ∙ ap (λ k. get_or c.methods.result.now k c.in-Some.method.now) place) in
    subst (λ o. IfOk c.method_demands.result (λ row. row.items ≡ demands_of (program_at walk) (overs_at c.args.over.now) (rel_at walk) (assigned_at walk) walk.method o)) (sym is) c.method_demands.ensures.row

pub returns-in-None-clause-row : goal.returns-in-None-clause-row
returns-in-None-clause-row g c =
    let walk = c.args.walk.now in
    let all = c.methods.ensures ∙ ap (λ (w : Walk). (program_at w).methods) c.walk.view_is in
    let is = no_method c.methods.result.now (program_at walk).methods walk.method all
    (subst (λ k. length c.methods.result.now ≤ k) (ap (λ (w : Walk). w.method) c.walk.view_is) c.in-None.ensures.lookup.3) in
    c.new.ensures.items ∙ ap (demands_of (program_at walk) (overs_at c.args.over.now) (rel_at walk) (assigned_at walk) walk.method) (sym is)
