-- Each method requires what it did.
use Rattle.std.proofs.Common.{ap, ◌∙◌, slice_get}
use Rattle.rules.specs.Effect.{required_paths}
use Rattle.explain.proofs.SameFields.{required_same}
use Rattle.explain.proofs.final_fields.program_for_effects.Goals as goal

pub returns-clause-required : goal.returns-clause-required
returns-clause-required c = λ m. required_same c.in_ok-methods.methods.items c.methods.result.now c.in_ok-methods.ensures m ∙ ap (λ ms. required_paths (slice_get ms m)) c.methods.ensures
