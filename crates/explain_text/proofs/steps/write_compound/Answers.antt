use Rattle.std.proofs.Common.{string_bytes, ◌∙◌, codes, refl}
use Rattle.explain_text.specs.Codes.{ending}
use Rattle.explain_text.specs.Pages.{note_front}
use Rattle.explain_text.specs.Views.{page_data}
use Rattle.explain_text.proofs.Texts.{ends, next, noted, wrote}
use Rattle.explain_text.proofs.steps.write_compound.Goals as goal

pub returns : goal.returns
returns g c =
    let words = rw (c.as_str-front.ensures.value ∙ c.in_ok-at_step.ensures) at c.in_ok-write_note.ensures in
    let note = noted _ (note_front (page_data c.args.page.now) c.args.step.now.node) _ (codes "inside it another thread may come in") (ending (codes "gap-inside")) refl words in
    ends c.write_help_of.result _ _ (next _ (wrote (string_bytes c.args.out.now) _ c.in_ok-write_step.ensures) note) c.write_help_of.ensures
