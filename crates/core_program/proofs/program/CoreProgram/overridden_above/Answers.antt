use Rattle.std.proofs.Common.{◌↔◌, ℕ, ◌==◌, ◌++◌, List, not, filter, length, sym, ap, subst, ◌∙◌, arith}
use Rattle.std.specs.Prelude.{Contains}
use Rattle.core_program.specs.Dispatch.{Overrides}
use Rattle.core_program.specs.Kept.{kept_class}
use Rattle.core_program.specs.Pairs.{all_named}
use Rattle.core_program.specs.Views.{kept_classes, program_of}
use Rattle.core_program.proofs.OverridesLemmas.{none_without_name, others_are}
use Rattle.core_program.proofs.program.CoreProgram.overridden_above.Goals as goal

pub returns-in_default : goal.returns-in_default
returns-in_default c m = (
  (λ has. let (k, below, is) = subst (λ (xs : List ℕ). Contains xs m) c.new-all.ensures.items has in absurd (omega (arith, below))),
  (λ over. absurd (none_without_name c.args.self.now c.args.method (sym c.name_of.ensures ∙ c.in_default.is) m over)),
)

pub returns : goal.returns
returns c m =
    let p = c.args.self.now in
    let class = kept_class c.args.class.now in
    let found = filter (λ n. not (n == c.args.method)) (all_named (kept_classes p) p.names.items (length (kept_classes p)) class.above c.in-Some.name) in
    let is = c.in_ok-add_named.ensures ∙ ap (λ (xs : List ℕ). xs ++ found) c.new-all.ensures.items in
    subst (λ (xs : List ℕ). Contains xs m ↔ Overrides (program_of p) c.args.method m) (sym is)
    (others_are p c.args.method c.in-Some.name class c.requires (sym c.name_of.ensures ∙ c.in-Some.is) m)
