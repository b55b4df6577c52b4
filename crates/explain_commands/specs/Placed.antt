-- Where the parts stand that a reason names.
use Rattle.std.specs.Prelude.{◌≡◌, ℕ}
use Rattle.classes.specs.Table.{table_of}
use Rattle.core_program.specs.Core.{Method}
use Rattle.explain.specs.Visits.{Visit}
use Rattle.explain.specs.Whys.{WhyData, Wrong, Looped, Compound, Two}
use Rattle.explain_text.specs.Pages.{PageData, node_offset}
use Rattle.places.specs.Making.{HasTree, IsToldAt}
use Rattle.places.specs.Slots.{slot_names}
use Rattle.places.specs.Sources.{source_offset}
use Rattle.syntax.specs.Trees.{ProgramTree}

-- a reason names this part: the error, the step that a loop repeats, the compound call, or one of two steps
pub data IsNamedBy : WhyData → Visit → Type 0 where
  error : (v : Visit) → IsNamedBy (Wrong v) v
  repeated : (v : Visit) (n : ℕ) → IsNamedBy (Looped v n) v
  call : (v : Visit) → IsNamedBy (Compound v) v
  first : (v w : Visit) → IsNamedBy (Two v w) v
  second : (v w : Visit) → IsNamedBy (Two v w) w

-- the method was made of the method of the tree with the same number; the part was made, by elaboration's own rules, of something in that
-- one; the lines of the part's node stand where that stands; and they are written with that method's names of slots, which are those of the
-- variables that are in scope where the part was made
pub record StandsInPlace (tree : ProgramTree) (page : PageData) (k : ℕ) (method : Method) (v : Visit) : Type 0 where
  pub its : HasTree (table_of tree) tree k method
  pub told : IsToldAt (table_of tree) method its.m v
  pub offset : node_offset page v.node ≡ source_offset told.source
  pub slots : page.slots ≡ slot_names its.m
