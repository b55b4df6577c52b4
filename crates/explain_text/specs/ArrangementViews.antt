-- What is told of explanations, in memory, as plain data.
use Rattle.explain.specs.Views.{explained_data}
use Rattle.explain_text.specs.declared.arranging.Arranged.{Arranged}
use Rattle.explain_text.specs.declared.arranging.Blaming.{Blaming}
use Rattle.explain_text.specs.Arrangements.{ArrangedData, BlamingData}

-- an explanation that is told, with the number of those that are only counted
abbrev pub arranged_data : Arranged → ArrangedData
arranged_data a = record { told = explained_data a.told; more = a.more }

-- an explanation of an error, with the method that it blames
abbrev pub blaming_data : Blaming → BlamingData
blaming_data b = record { told = explained_data b.told; callee = b.callee }
