use Rattle.std.proofs.Common.{◌≡◌, ◌++◌, map}
use Rattle.std.specs.Vec.Iter.{into_iter_items}
use Rattle.core_program.specs.Views.{program_of}
use Rattle.explain.specs.Views.{explained_data}
use Rattle.rules.specs.Near.{rel_of}
use Rattle.explain_text.specs.Arrangements.{firsthand, secondhand}
use Rattle.explain_text.specs.ArrangementViews.{arranged_data, blaming_data}
use Rattle.explain_text.proofs.arranging.parted.Given as goal

-- those so far, and those of the explanations that are left, are those of all
abbrev pub invariant-loop-told : goal.invariant-loop-told
invariant-loop-told g l =
    let P = program_of l.walk.program.now in let rel = rel_of l.walk.sets.now in
    (map arranged_data l.own.items ++ firsthand P rel (map explained_data (into_iter_items l.told-iterator)) ≡ firsthand P rel (map explained_data l.fn.all.items))
    × (map blaming_data l.blaming.items ++ secondhand P rel (map explained_data (into_iter_items l.told-iterator)) ≡ secondhand P rel (map explained_data l.fn.all.items))
