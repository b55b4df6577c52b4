use Rattle.std.proofs.Common.{ℕ, Some, eqb-true, sym, ap, ◌∙◌}
use Rattle.core_program.specs.Dispatch.{inherited_target}
use Rattle.core_program.specs.Kept.{kept_class}
use Rattle.core_program.specs.Views.{program_of}
use Rattle.machine.specs.Upwards.{runs_below}
use Rattle.machine.proofs.Passing.{passed_itself, passed_other, passed_without}
use Rattle.machine.proofs.upwards.pass.Goals as goal

pub returns-then-eq : goal.returns-then-eq
returns-then-eq c =
    ap (λ (r : ℕ). Some r) c.unwrap_or.ensures
    ∙ passed_itself c.args.program.now c.args.class c.args.method c.args.name (kept_class c.in-Some.found.now) c.args.nearest (sym c.in-Some.ensures) c.requires
    (sym c.own_named.ensures ∙ c.in-Some-own_named.is ∙ ap (λ (r : ℕ). Some r) (eqb-true c.in-Some-own_named.own c.args.method (sym c.eq.ensures ∙ c.if-eq.true)))

pub returns-else-eq : goal.returns-else-eq
returns-else-eq c =
    let P = program_of c.args.program.now in
    c.goes_on.ensures P c.args.method
    ∙ ap (λ (r : ℕ). runs_below (Some r) (inherited_target P c.in-Some.found.now.above c.args.method)) c.unwrap_or-else-eq.ensures
    ∙ passed_other c.args.program.now c.args.class c.args.method c.args.name c.in-Some-own_named.own (kept_class c.in-Some.found.now) c.args.nearest (sym c.in-Some.ensures) c.requires
    (sym c.own_named.ensures ∙ c.in-Some-own_named.is) (sym c.eq.ensures ∙ c.if-eq.false)

pub returns-in-None : goal.returns-in-None
returns-in-None c =
    c.goes_on-in-None.ensures (program_of c.args.program.now) c.args.method
    ∙ passed_without c.args.program.now c.args.class c.args.method c.args.name (kept_class c.in-Some.found.now) c.args.nearest (sym c.in-Some.ensures) c.requires (sym c.own_named.ensures ∙ c.in-None.is)
