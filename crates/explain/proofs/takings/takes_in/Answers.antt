-- A method that is there, and one that isn't.
use Rattle.std.proofs.Common.{◌≡◌, None, ap, sym, ◌∙◌}
use Rattle.std.specs.Prelude.{slice_get, option_map}
use Rattle.std.specs.List.{list_all}
use Rattle.std.specs.Option.{option_copied}
use Rattle.std.proofs.lemmas.Result.{IfOk-weaker}
use Rattle.algebra.specs.HeldPaths.{has_path}
use Rattle.core_program.specs.Views.{method_of, program_of, stmt_of}
use Rattle.rules.specs.Near.{rel_of}
use Rattle.explain.specs.Visits.{stmt_visits}
use Rattle.explain.specs.Takings.{is_taking, takes_in}
use Rattle.explain.proofs.takings.takes_in.Goals as goal

pub returns-in-Some : goal.returns-in-Some
returns-in-Some g c =
    let P = program_of c.args.walk.now.program.now in let rel = rel_of c.args.walk.now.sets.now in let A = g.A.Assigned.assigned c.args.walk.now.assigned.now in
    let q = c.args.lock.now in let H = has_path c.args.held.now in
    let there = sym c.method_at.ensures ∙ ap (λ o. option_map method_of (option_copied o)) c.in-Some.is in
    IfOk-weaker c.body_takes.result (λ b. b ≡ list_all (is_taking P rel A q) (stmt_visits P (stmt_of c.in-Some.method.now.body) 0 H None)) (λ b. b ≡ takes_in P rel A q (slice_get P.methods c.args.method) H)
    (λ b is. is ∙ ap (λ o. takes_in P rel A q o H) (sym there)) c.body_takes.ensures

pub returns-in-None : goal.returns-in-None
returns-in-None g c =
    let P = program_of c.args.walk.now.program.now in let rel = rel_of c.args.walk.now.sets.now in let A = g.A.Assigned.assigned c.args.walk.now.assigned.now in
    ap (λ o. takes_in P rel A c.args.lock.now o (has_path c.args.held.now)) (sym (sym c.method_at.ensures ∙ ap (λ o. option_map method_of (option_copied o)) c.in-None.is))
