use Rattle.std.proofs.Common.{string_bytes, ◌∙◌, codes, refl}
use Rattle.explain_text.specs.Codes.{ending}
use Rattle.explain_text.specs.Pages.{note_front}
use Rattle.explain_text.specs.Views.{page_data}
use Rattle.explain_text.proofs.Texts.{ends, next, noted, wrote}
use Rattle.explain_text.proofs.steps.write_looped.Goals as goal

pub returns : goal.returns
returns g c =
    let words = rw (c.as_str.ensures.value ∙ c.in_ok-at_loop.ensures) at c.in_ok-write_note.ensures in
    let note = noted _ (note_front (page_data c.args.page.now) c.args.loop_node) _ (codes "this loop makes it each time round, and between two times another thread may come in") (ending (codes "gap-loop")) refl words in
    ends c.write_help_of.result _ _ (next _ (wrote (string_bytes c.args.out.now) _ c.in_ok-write_step.ensures) note) c.write_help_of.ensures
