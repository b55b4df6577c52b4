use Rattle.std.proofs.Common.{◌++◌, string_bytes, ◌∙◌, ap, codes}
use Rattle.std.proofs.lemmas.Result.{on_ok_weaker}
use Rattle.explain_text.specs.Blocks.{kind_word}
use Rattle.explain_text.specs.Pages.{place_start}
use Rattle.explain_text.specs.Views.{page_data}
use Rattle.explain_text.proofs.Texts.{begun}
use Rattle.explain_text.proofs.page.begin_line.Goals as goal

-- the kind stands in the words behind the place
pub returns : goal.returns
returns c =
    let old = string_bytes c.args.out.now in
    let start = place_start (page_data c.args.page.now) c.args.at in
    on_ok_weaker c.begin_with.result
    (λ is. is ∙ ap (λ bytes. old ++ bytes) (ap (λ bytes. start ++ bytes) c.kind_words.ensures ∙ begun start (codes ": ") (kind_word c.args.is_error))) c.begin_with.ensures
