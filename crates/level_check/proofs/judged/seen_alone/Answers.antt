-- The method that is looked up.
use Rattle.std.proofs.Common.{sym, subst, ap, ◌∙◌, map}
use Rattle.std.specs.Prelude.{IfOk, ◌≡◌}
use Rattle.core_program.specs.Views.{program_of, method_of}
use Rattle.algebra.specs.HeldPaths.{has_path}
use Rattle.level_check.specs.Told.{told_level_of}
use Rattle.level_check.specs.Bodies.{told_by}
use Rattle.level_check.proofs.Tells.{found_method, no_method}
use Rattle.level_check.proofs.judged.seen_alone.Goals as goal

pub seen_by-requires : goal.seen_by-requires
seen_by-requires c =
    let P = program_of c.args.judged.now.program.now in
    c.light_laws.ensures P c.requires c.args.method (method_of c.in-Some.found.now)
    (found_method c.methods.result.now P.methods c.method.inside.0 c.args.method c.in-Some.found.now c.methods.ensures c.method.view_is c.in-Some.ensures.lookup.3.0 c.in-Some.ensures.lookup.1)

pub returns-in-Some : goal.returns-in-Some
returns-in-Some c =
    let P = program_of c.args.judged.now.program.now in
    let is = found_method c.methods.result.now P.methods c.method.inside.0 c.args.method c.in-Some.found.now c.methods.ensures c.method.view_is c.in-Some.ensures.lookup.3.0 c.in-Some.ensures.lookup.1 in
    subst (λ o. IfOk c.seen_by.result (λ seen. map told_level_of seen.items ≡ told_by c.args.judged.now o (has_path c.args.held.now) c.args.under)) (sym is) c.seen_by.ensures

pub returns-in-None : goal.returns-in-None
returns-in-None c =
    let P = program_of c.args.judged.now.program.now in
    let is = no_method c.methods.result.now P.methods c.method.inside.0 c.args.method c.methods.ensures c.method.view_is c.in-None.ensures.lookup.3 in
    ap (map told_level_of) c.new.ensures.items ∙ ap (λ o. told_by c.args.judged.now o (has_path c.args.held.now) c.args.under) (sym is)
