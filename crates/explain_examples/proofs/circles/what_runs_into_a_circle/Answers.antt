use Rattle.std.proofs.Common.{◌≡◌, ℕ, zero, suc, true, false, [], ap, refl, ◌∙◌, arith}
use Rattle.std.specs.Prelude.{nat_lt}
use Rattle.std.proofs.lemmas.Bool.{ltb-true}
use Rattle.std.proofs.lemmas.Option.{none-some, same_Some}
use Rattle.core_program.specs.Examples.{plain_method}
use Rattle.explain.specs.declared.ranking.Bounds.TheVariants.{Declared}
use Rattle.explain.specs.Explaining.{why_of}
use Rattle.explain.specs.Leads.{LeadsAmong, limit_for, reason_lead}
use Rattle.explain_examples.specs.Circles.{back, circle, turning}
use Rattle.explain_examples.specs.Shelf.{all_compound, calling_main, puts, shelf_paths}
use Rattle.explain_examples.proofs.circles.what_runs_into_a_circle.Goals as goal

-- each of the two leads to the other
leads_on : (k : ℕ) → nat_lt k 2 ≡ true → LeadsAmong Declared circle shelf_paths all_compound (λ m. []) (λ j. nat_lt j 2) k
leads_on zero is = record { method = turning; more = record { there = refl; above = refl }; next = 1; leads = refl; inside = refl }
leads_on (suc zero) is = record { method = back; more = record { there = refl; above = refl }; next = 0; leads = refl; inside = refl }
leads_on (suc (suc k)) is = let low = ltb-true (suc (suc k)) 2 is in absurd (omega (arith, low))

pub returns-clause-runs : goal.returns-clause-runs
returns-clause-runs c = record { among = λ k. nat_lt k 2; here = refl; each = leads_on }

pub returns-clause-ends : goal.returns-clause-ends
returns-clause-ends c = λ r.
    let l = r.each 1 r.here in
    none-some l.next
    (ap (λ x. reason_lead calling_main shelf_paths (why_of calling_main shelf_paths all_compound [] 1 x (limit_for Declared calling_main all_compound 1 x)))
    (same_Some (plain_method 0 101 false puts) l.method l.more.there) ∙ l.leads)

pub returns-clause-missing : goal.returns-clause-missing
returns-clause-missing c = λ r. let l = r.each 2 r.here in none-some l.method l.more.there
