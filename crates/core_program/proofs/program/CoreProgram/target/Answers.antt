use Rattle.std.proofs.Common.{sym, ap, ◌∙◌}
use Rattle.std.specs.Prelude.{option_and_then}
use Rattle.core_program.specs.Pairs.{KeptClass, target_in}
use Rattle.core_program.specs.Views.{kept_classes}
use Rattle.core_program.proofs.OverridesLemmas.{target_is}
use Rattle.core_program.proofs.program.CoreProgram.target.Goals as goal

pub returns-in-Some : goal.returns-in-Some
returns-in-Some c =
    let p = c.args.self.now in
    c.target_in.ensures
    ∙ sym (target_is p c.args.class c.args.method
    ∙ ap (option_and_then (λ (x : KeptClass). target_in (kept_classes p) p.names.items x c.args.method)) (sym c.in-Some.ensures))

pub returns-in-None : goal.returns-in-None
returns-in-None c =
    let p = c.args.self.now in
    sym (target_is p c.args.class c.args.method
    ∙ ap (option_and_then (λ (x : KeptClass). target_in (kept_classes p) p.names.items x c.args.method)) (sym c.in-None.ensures))
