-- The row of the next one, or none.
use Rattle.std.proofs.Common.{◌≡◌, Some, sym, ap, ◌∙◌}
use Rattle.std.proofs.lemmas.Option.{none-some, same_Some}
use Rattle.core_program.specs.Overridden.{next_overridden}
use Rattle.rules.specs.Search.{rows_of}
use Rattle.rules.proofs.OverridingLemmas.{added_to_one, added_to_none}
use Rattle.rules.proofs.nearest.add_next.Goals as goal

pub returns : goal.returns
returns c =
    let next = sym c.next_of.ensures ∙ c.in-Some.is in
    added_to_one (λ m. next_overridden c.args.program.now c.args.over ≡ Some m) c.args.over c.in-Some.next (rows_of c.args.rows.now.items) (rows_of c.push_at.new.rows.items)
    (λ m. ((λ e. next ∙ ap Some e), (λ e. same_Some c.in-Some.next m (sym next ∙ e)))) c.in_ok-push_at.ensures

pub returns-in_default : goal.returns-in_default
returns-in_default c = added_to_none (λ m. next_overridden c.args.program.now c.args.over ≡ Some m) c.args.over (rows_of c.args.rows.now.items)
    (λ m e. none-some m (sym (sym c.next_of.ensures ∙ c.in_default.is) ∙ e))
