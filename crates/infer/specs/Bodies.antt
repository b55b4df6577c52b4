-- A body with what it is judged by.
use Rattle.std.specs.Prelude.{◌≡◌, ℕ, List, [], ◌∷◌, ◌++◌, map, Contains}
use Rattle.paths.specs.Paths.{PathData}
use Rattle.core_program.specs.Core.{Program}
use Rattle.core_program.specs.Views.{program_of}
use Rattle.algebra.specs.declared.basic.Basic.{Basic}
use Rattle.algebra.specs.HeldPaths.{Held}
use Rattle.rules.specs.Mentions.{Mention, mentions}
use Rattle.rules.specs.Near.{Mentions, rel_of}
use Rattle.rules.specs.Effect.{Assignment}
use Rattle.effects.specs.Parts.{Part, ExprP, StmtP}
use Rattle.effects.specs.Rules.{AreAllKnown}
use Rattle.effects.specs.Effects.{effects_of}
use Rattle.infer.specs.declared.walk.Walk.{Walk}
use Rattle.infer.specs.Tables.{table_assignment}
use Rattle.infer.specs.Names.{near_of}

-- the program
abbrev pub program_at : Walk → Program
program_at walk = program_of walk.program.now

-- the relevant paths of each method
abbrev pub rel_at : Walk → ℕ → List PathData
rel_at walk = rel_of walk.sets.now

-- the paths of which a call of the method whose body it is may hold some: these, which it requires, and its relevant ones
abbrev pub known_paths : Walk → (required : List PathData) → List PathData
known_paths walk required = required ++ rel_of walk.sets.now walk.method

-- the paths near the method whose body it is
abbrev pub near_at : Walk → List PathData
near_at walk = near_of walk.sets.now walk.method

-- the assignment
abbrev pub assigned_at : Walk → Assignment
assigned_at walk = table_assignment (rel_of walk.sets.now) walk.tables.now

-- a part with these mentions is a part of the method's body
abbrev pub AreOfBody : Walk → List Mention → Type 0
AreOfBody walk xs = (x : Mention) → Contains xs x → Mentions (program_of walk.program.now) walk.method x

-- what a part mentions that bears on the names of paths: nothing in an expression does
abbrev pub part_mentions : Part → List Mention
part_mentions (ExprP e) = []
part_mentions (StmtP s) = mentions s

-- the fields and calls that several parts mention, one part after the other
abbrev pub parts_mentions : List Part → List Mention
parts_mentions [] = []
parts_mentions (x ∷ xs) = part_mentions x ++ parts_mentions xs

-- behind these values stand known ones, whose values are the effects of these parts
pub record AreEffects {S A : Type 0} (k : S → A → Type 0) (v : S → A → Held → Basic) (store : S) (walk : Walk) (parts : List Part) (old new : List A) : Type 0 where
  pub more : List A
  pub are : new ≡ old ++ more
  pub known : AreAllKnown k store more
  pub effects : map (v store) more ≡ effects_of (program_at walk) (rel_at walk) (assigned_at walk) parts
