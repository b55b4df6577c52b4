-- The field is made final, and set back.
use Rattle.std.proofs.Common.{◌≡◌, true, ap, ◌∙◌, arith, map}
use Rattle.std.proofs.lemmas.Result.{IfOk-weaker}
use Rattle.algebra.specs.HeldPaths.{has_path}
use Rattle.core_program.specs.Core.{Program}
use Rattle.core_program.specs.Views.{field_of, method_of, program_of, stmt_of}
use Rattle.rules.specs.Effect.{effect}
use Rattle.rules.specs.Near.{rel_of}
use Rattle.explain.specs.FinalFields.{field_finalised}
use Rattle.explain.specs.OneFinal.{with_finality}
use Rattle.explain.proofs.OneFinal.{finality_back, finality_final}
use Rattle.explain.proofs.final_fields.finalised_in.Goals as goal

pub returns-clause-kept : goal.returns-clause-kept
returns-clause-kept g c =
    let P = program_of c.args.program.now in
    let back = c.set_final.ensures.made ∙ ap (with_finality c.args.field c.set_final-was.result) c.set_final-was.ensures.made
    ∙ finality_back P.fields c.args.field true c.set_final-was.result c.set_final-was.ensures.was in
    λ i. record P { fields = back i }

pub returns-clause-effect : goal.returns-clause-effect
returns-clause-effect g c =
    let P = program_of c.args.program.now in let rel = rel_of c.args.walk.now.sets.now in let A = g.A.Assigned.assigned c.args.walk.now.assigned.now in
    let made : Program = record P { fields = map field_of c.set_final-was.new.fields.items } in let body = stmt_of c.args.method.now.body in
    let fields = c.set_final-was.ensures.made ∙ finality_final 0 c.args.field c.args.field (omega arith) P.fields in
    IfOk-weaker c.stmt_effect-effect.result (λ b. b ≡ effect made rel A body (has_path c.as_slice.result.now)) (λ b. b ≡ field_finalised P rel A (method_of c.args.method.now) c.args.field)
    (λ b is. is ∙ ap (λ ps. effect made rel A body (has_path ps)) c.as_slice.ensures.value ∙ (λ i. effect (record P { fields = fields i }) rel A body (has_path c.args.method.now.requires_.items)))
    c.stmt_effect-effect.ensures
