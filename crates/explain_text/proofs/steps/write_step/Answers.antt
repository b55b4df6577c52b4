use Rattle.std.proofs.Common.{◌++◌, string_bytes, ◌∙◌, ap}
use Rattle.std.proofs.lemmas.Result.{on_ok_weaker}
use Rattle.explain_text.specs.Blocks.{step_text}
use Rattle.explain_text.specs.Codes.{ending, step_code}
use Rattle.explain_text.specs.Pages.{note_line, node_offset}
use Rattle.explain_text.specs.Views.{page_data}
use Rattle.explain_text.proofs.steps.write_step.Goals as goal

-- the line that was written of the deed that was found
pub returns : goal.returns
returns g c =
    let page = page_data c.args.page.now in
    let old = string_bytes c.args.out.now in
    let kind = c.args.kind in
    let deed = rw c.as_slice-here.ensures.value at c.in_ok-deed.ensures in
    on_ok_weaker c.write_step_line.result
    (λ is. is ∙ ap (λ f. old ++ (f ++ step_text page kind c.in_ok-deed.deed ++ ending (step_code kind))) c.requires
    ∙ ap (λ d. old ++ note_line page (node_offset page c.args.step.now.node) (step_text page kind d) (step_code kind)) deed) c.write_step_line.ensures
