use Rattle.std.proofs.Common.{[], List, ℕ, ◌++◌, string_bytes, ◌∙◌, ap}
use Rattle.std.specs.Bool.{if◌then◌else◌}
use Rattle.std.proofs.lemmas.Result.{on_ok_weaker}
use Rattle.core_program.specs.Views.{program_of}
use Rattle.rules.specs.Near.{rel_of}
use Rattle.explain.specs.declared.deeds.Help.{Help}
use Rattle.explain.specs.Deeds.{help_of}
use Rattle.explain.specs.Views.{visit_of}
use Rattle.explain_text.specs.Codes.{ending, help_code}
use Rattle.explain_text.specs.DeedTexts.{help_text, may_stay}
use Rattle.explain_text.specs.Pages.{note_front}
use Rattle.explain_text.specs.Views.{page_data}
use Rattle.explain_text.proofs.Texts.{ends, wrote}
use Rattle.explain_text.proofs.steps.write_both.Goals as goal

-- the line of each step beside the other, of the helps that were found
pub returns : goal.returns
returns g c =
    let walk = c.args.asked.now.walk.now in
    let page = page_data c.args.page.now in
    let v = visit_of c.args.first.now in
    let w = visit_of c.args.second.now in
    let help_at = help_of (program_of walk.program.now) (rel_of walk.sets.now) (g.A.Assigned.assigned walk.assigned.now) c.args.asked.now.aliases.now in
    let help = help_at v.part v.held in
    let other = help_at w.part w.held in
    let old = string_bytes c.args.out.now in
    let middle = string_bytes c.write_beside.new.out in
    let line : List ℕ → Help → Help → List ℕ = λ front here there. if may_stay here there then [] else (front ++ help_text page here ++ ending (help_code here)) in
    let helps_first = rw c.as_slice-here.ensures.value at c.in_ok-help.ensures in
    let helps_second = rw c.as_slice-there.ensures.value at c.in_ok-other.ensures in
    let one = note_front page v.node in
    let two = note_front page w.node in
    let first =
    c.in_ok-write_beside.ensures ∙ ap (λ f. old ++ line f c.in_ok-help.help c.in_ok-other.other) c.requires.first
    ∙ ap (λ h. old ++ line one h c.in_ok-other.other) helps_first ∙ ap (λ h. old ++ line one help h) helps_second in
    ends c.write_beside-2.result _ _ (wrote old _ first)
    (on_ok_weaker c.write_beside-2.result
    (λ is. is ∙ ap (λ f. middle ++ line f c.in_ok-other.other c.in_ok-help.help) c.requires.second
    ∙ ap (λ h. middle ++ line two h c.in_ok-help.help) helps_second ∙ ap (λ h. middle ++ line two other h) helps_first) c.write_beside-2.ensures)
