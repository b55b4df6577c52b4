use Rattle.std.proofs.Common.{◌≡◌, ◌++◌, drop, map}
use Rattle.explain_text.specs.ArrangementViews.{blaming_data}
use Rattle.explain_text.proofs.arranging.callees_of.Given as goal

-- the methods so far, and those of the explanations that are left, are those of all
abbrev pub invariant-loop-one : goal.invariant-loop-one
invariant-loop-one l = l.callees.items ++ map (λ y. y.callee) (map blaming_data (drop l.one-index l.all)) ≡ map (λ y. y.callee) (map blaming_data l.all)
