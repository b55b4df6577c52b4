use Rattle.std.proofs.Common.{◌≡◌, ap, subst, sym}
use Rattle.std.proofs.lemmas.Result.{on_ok_weaker}
use Rattle.algebra.specs.HeldPaths.{has_path}
use Rattle.core_program.specs.Views.{program_of}
use Rattle.rules.specs.Near.{rel_of}
use Rattle.explain.specs.Causes.{ArePaths, cause_of}
use Rattle.explain.specs.Views.{part_of_walk}
use Rattle.explain_text.specs.Blocks.{cause_line}
use Rattle.explain_text.specs.Views.{page_data}
use Rattle.explain_text.proofs.blocks.write_wrong.Goals as goal

-- the line that was written, with the paths that it tells
pub returns : goal.returns
returns g c =
    let page = page_data c.args.page.now in
    let walk = c.args.walk.now in
    let told = c.as_slice-told.result.now in
    let ascends =
    subst (λ h. ArePaths (has_path h) told) c.as_slice-here.ensures.value
    (subst (λ t. ArePaths (has_path c.as_slice-here.result.now) t) (sym c.as_slice-told.ensures.value) c.in_ok-held.ensures) in
    let why =
    subst (λ h. c.in_ok-cause.cause ≡ cause_of (program_of walk.program.now) (rel_of walk.sets.now) c.args.aliases.now (has_path h) (part_of_walk c.args.error.now.part)) c.as_slice-here.ensures.value
    c.in_ok-cause.ensures in
    on_ok_weaker c.write_error.result
    (λ is. (_, is, record { held = told; are_held = ascends; text_is = ap (cause_line page c.args.error.now.node told) why })) c.write_error.ensures
