-- The rows of nearest methods have methods that override alone, and lead to all of them.
use Rattle.std.proofs.Common.{◌≡◌, ℕ, zero, suc, ◌≤◌, List, length, Some, subst, arith}
use Rattle.std.specs.Prelude.{Contains}
use Rattle.std.proofs.lemmas.Option.{same_Some, slice_get_within}
use Rattle.base.specs.Ancestors.{steps_up}
use Rattle.base.proofs.Options.{then_parts}
use Rattle.core_program.specs.declared.program.CoreProgram.{CoreProgram}
use Rattle.core_program.specs.Overridden.{next_overridden}
use Rattle.core_program.specs.Views.{program_of}
use Rattle.core_program.proofs.OverridesLemmas.{next_overrides, over_leads}
use Rattle.rules.specs.Nearest.{LeadTo, near, further, AreNearest}
use Rattle.rules.specs.Overriding.{HaveFirst}
use Rattle.rules.specs.Search.{row_at}

-- so many steps, from a method to the next one that it overrides
leads_down : (p : CoreProgram) (rows : List (List ℕ)) → ((over m : ℕ) → next_overridden p over ≡ Some m → Contains (row_at rows m) over)
    → (n over m : ℕ) → steps_up (next_overridden p) (suc n) over ≡ Some m → LeadTo rows m over
leads_down p rows each zero over m leads =
    let first = then_parts (λ d. steps_up (next_overridden p) 0 d) (next_overridden p over) m leads in
    near (subst (λ z. Contains (row_at rows z) over) (same_Some first.0 m first.2) (each over first.0 first.1))
leads_down p rows each (suc n) over m leads =
    let first = then_parts (λ d. steps_up (next_overridden p) (suc n) d) (next_overridden p over) m leads in
    further first.0 (leads_down p rows each n first.0 m first.2) (each over first.0 first.1)

pub rows_nearest : (p : CoreProgram) (rows : List (List ℕ)) (place : ℕ) → length (program_of p).methods ≤ place → HaveFirst (λ over m. next_overridden p over ≡ Some m) rows place
    → AreNearest (program_of p) rows
rows_nearest p rows place past have = record {
  sound = λ m over has. next_overrides p over m ((have m over).0 has).1;
  lead = λ m over o. let leads = over_leads p over m o in leads_down p rows each leads.0 over m leads.1;
}
  where
    each : (over m : ℕ) → next_overridden p over ≡ Some m → Contains (row_at rows m) over
    each over m next =
        let o = next_overrides p over m next in
        let low = slice_get_within (program_of p).methods over o.method o.is in
        (have m over).1 (omega (arith, low, past), next)
