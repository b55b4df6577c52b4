-- The lines of explanations.
use Rattle.std.specs.Prelude.{ℕ, ◌<◌, List, [], ◌∷◌, ◌++◌, map, Option, Some, None, slice_get}
use Rattle.classes.specs.Table.{TableData}
use Rattle.core_program.specs.Core.{Program, Method}
use Rattle.explain.specs.declared.names.Alias.{Alias}
use Rattle.explain.specs.Fitting.{fitting}
use Rattle.explain.specs.Names.{aliases_after}
use Rattle.explain.specs.Whys.{ExplainedData}
use Rattle.explain_text.specs.Arrangements.{ArrangedData, IsArrangedBlock}
use Rattle.explain_text.specs.Pages.{PageData, advised}
use Rattle.paths.specs.Paths.{PathData}
use Rattle.places.specs.Slots.{member_slots}
use Rattle.places.specs.Sources.{member_places}
use Rattle.rules.specs.Effect.{Assignment}
use Rattle.syntax.specs.Trees.{MemberTree}

-- the names of a method's slots, and the offsets of its nodes; none of a method that isn't there
abbrev pub slots_at : Option MemberTree → List (List ℕ)
slots_at None = []
slots_at (Some m) = member_slots m

-- the offsets of a method's nodes, where the method is there
abbrev pub places_at : Option MemberTree → List ℕ
places_at None = []
places_at (Some m) = member_places m

-- what the lines of the method with this number are written with: the name of the file and its text, the class table, and of the method of
-- the tree with this number, which is among these, the names of its slots and the offsets of its nodes. Which variable should
-- be final is asked where the method is told.
abbrev pub page_of : (name text : List ℕ) → TableData → List MemberTree → ℕ → PageData
page_of name text table methods m = record {
  file = name;
  text = text;
  table = table;
  slots = slots_at (slice_get methods m);
  offsets = places_at (slice_get methods m);
  fitting = None;
}

-- each of the explained methods is one of the first so many
abbrev pub AreAmongMethods : ℕ → List ExplainedData → Type 0
AreAmongMethods n [] = Unit {0}
AreAmongMethods n (x ∷ xs) = (x.method < n) × AreAmongMethods n xs

-- the explanations that are told
abbrev pub told_of : List ArrangedData → List ExplainedData
told_of xs = map (λ a. a.told) xs

-- the final locals of a method's body that have paths; none of a method that isn't there
abbrev pub aliases_at : Program → Option Method → List Alias
aliases_at P None = []
aliases_at P (Some method) = aliases_after P [] method.body

module _ (P : Program) (rel : ℕ → List PathData) (A : Assignment) (pages : ℕ → PageData) (overs : ℕ → List ℕ) where
  -- the lines of one method. Of the variable or the field by which it lacks the name of a lock, if there is one that helps where it is made
  -- final, it is said that it isn't.
  abbrev pub IsMethodText : ArrangedData → List ℕ → Type 0
  IsMethodText a text =
      let aliases = aliases_at P (slice_get P.methods a.told.method) in
      IsArrangedBlock P rel A (advised (pages a.told.method) (fitting P rel A aliases a.told)) overs aliases a text

  -- the lines of one method after the other
  pub data AreTexts : List ArrangedData → List ℕ → Type 0 where
    none : AreTexts [] []
    more : (a : ArrangedData) (xs : List ArrangedData) (text rest : List ℕ) → IsMethodText a text → AreTexts xs rest → AreTexts (a ∷ xs) (text ++ rest)
