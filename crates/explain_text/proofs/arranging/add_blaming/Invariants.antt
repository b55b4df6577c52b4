use Rattle.std.proofs.Common.{◌≡◌, ◌++◌, [], map}
use Rattle.std.specs.Vec.Iter.{into_iter_items}
use Rattle.explain_text.specs.Arrangements.{first_blaming}
use Rattle.explain_text.specs.ArrangementViews.{arranged_data, blaming_data}
use Rattle.explain_text.proofs.arranging.add_blaming.Given as goal

-- those so far, and those of the explanations that are left, are those of all; and the methods that are left are those that they blame
abbrev pub invariant-loop-first : goal.invariant-loop-first
invariant-loop-first l =
    (map arranged_data l.told.items ++ first_blaming l.seen.items (map blaming_data (into_iter_items l.first-iterator)) ≡ map arranged_data l.fn.told.items ++ first_blaming [] (map blaming_data l.fn.blaming.items))
    × (l.left ≡ map (λ y. y.callee) (map blaming_data (into_iter_items l.first-iterator)))
