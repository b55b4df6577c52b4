-- An effect asks no more than what is kept of the program.
use Rattle.std.proofs.Common.{◌≡◌, ap, ◌∙◌}
use Rattle.std.proofs.lemmas.Result.{IfOk-weaker}
use Rattle.algebra.specs.HeldPaths.{has_path}
use Rattle.core_program.specs.declared.program.CoreProgram.{CoreProgram}
use Rattle.core_program.specs.Views.{method_of, program_of}
use Rattle.rules.specs.Near.{rel_of}
use Rattle.explain.specs.FinalFields.{field_finalised, final_from, with_final_field}
use Rattle.explain.proofs.SameFields.{effect_same}
use Rattle.explain.proofs.final_fields.FinalFields.finalised.Goals as goal

pub returns-clause-effect : goal.returns-clause-effect
returns-clause-effect g c =
    let rel = rel_of c.args.walk.now.sets.now in let A = g.A.Assigned.assigned c.args.walk.now.assigned.now in let method = method_of c.args.method.now in let f = c.args.field in
    let P = program_of c.self.inside.program.now in let kept = program_of c.self.inside.copy in
    IfOk-weaker c.finalised_in.result (λ b. b ≡ field_finalised kept rel A method f) (λ b. b ≡ field_finalised (program_of c.args.self.now) rel A method f)
    (λ b is. is
    ∙ effect_same (with_final_field kept f) (with_final_field P f) rel A (ap (final_from 0 f) c.self.invariant.fields) c.self.invariant.required method.body (has_path method.requires_)
    ∙ ap (λ (p : CoreProgram). field_finalised (program_of p) rel A method f) c.self.view_is)
    c.finalised_in.ensures.effect
