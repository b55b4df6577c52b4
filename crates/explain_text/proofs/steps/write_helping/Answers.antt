use Rattle.std.proofs.Common.{◌++◌, string_bytes, ◌∙◌, ap}
use Rattle.std.proofs.lemmas.Result.{on_ok_weaker}
use Rattle.core_program.specs.Views.{program_of}
use Rattle.rules.specs.Near.{rel_of}
use Rattle.explain_text.specs.Blocks.{help_note}
use Rattle.explain_text.specs.Codes.{ending, help_code}
use Rattle.explain_text.specs.DeedTexts.{help_text}
use Rattle.explain_text.specs.Views.{page_data}
use Rattle.explain_text.proofs.steps.write_helping.Goals as goal

-- the line that was written of the help that was found
pub returns : goal.returns
returns g c =
    let walk = c.args.asked.now.walk.now in
    let note = help_note (program_of walk.program.now) (rel_of walk.sets.now) (g.A.Assigned.assigned walk.assigned.now) (page_data c.args.page.now) c.args.step.now.node in
    let page = page_data c.args.page.now in
    let old = string_bytes c.args.out.now in
    let help = rw c.as_slice-here.ensures.value at c.in_ok-help.ensures in
    on_ok_weaker c.write_help_line.result
    (λ is. is ∙ ap (λ f. old ++ (f ++ help_text page c.in_ok-help.help ++ ending (help_code c.in_ok-help.help))) c.requires
    ∙ ap (λ h. old ++ note h) help) c.write_help_line.ensures
