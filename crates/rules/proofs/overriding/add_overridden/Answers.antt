use Rattle.std.proofs.Common.{◌↔◌, ℕ, List, sym, subst}
use Rattle.std.specs.Prelude.{Contains}
use Rattle.core_program.specs.Dispatch.{Overrides}
use Rattle.core_program.specs.Views.{program_of}
use Rattle.rules.specs.Search.{rows_of}
use Rattle.rules.proofs.OverridingLemmas.{added_to_each}
use Rattle.rules.proofs.overriding.add_overridden.Goals as goal

pub returns : goal.returns
returns c =
    let P = program_of c.args.program.now in
    added_to_each (λ m. Overrides P c.args.over m) c.args.over c.as_slice.result.now (rows_of c.args.rows.now.items) (rows_of c.add_to_each.new.rows.items)
    (subst (λ (xs : List ℕ). (m : ℕ) → Contains xs m ↔ Overrides P c.args.over m) (sym c.as_slice.ensures.value) c.in_ok-all.ensures) c.in_ok-add_to_each.ensures
