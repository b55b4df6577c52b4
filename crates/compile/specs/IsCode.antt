-- What it means that code is a program's.
use Rattle.std.specs.Prelude.{◌≡◌, ℕ, ◌≤◌, true, List, [], ◌∷◌, length, Some, is_some, slice_get}
use Rattle.core_program.specs.Core.{Program, Method}
use Rattle.core_program.specs.Typed.{IsTyped}
use Rattle.state.specs.Work.{St, Act, Ret}
use Rattle.compile.specs.declared.stack.Code.{Code}
use Rattle.compile.specs.Standing.{Stands}
use Rattle.compile.specs.Rooms.{ReachedPlace, stmt_room, is_whole}

-- Lines of code, with each method's entry and room, are the code of a program.
pub record IsCodeOf (P : Program) (code : List Code) (entry room : List ℕ) : Type 0 where
  -- each method has an entry and a room, in order
  pub entries : length entry ≡ length P.methods
  pub rooms : length room ≡ length P.methods
  -- the entry, without a taken lock, stands for the method's body and then a return
  pub stands : (m place : ℕ) (method : Method) → slice_get P.methods m ≡ Some method → slice_get entry m ≡ Some place →
      Stands (is_some method.result) code place [] (St method.body ∷ Act Ret ∷ [])
  -- the room is the greatest number of operands that stand while the body is done
  pub most : (m most : ℕ) (method : Method) → slice_get P.methods m ≡ Some method → slice_get room m ≡ Some most →
      most ≡ stmt_room method.body
  -- in the code of a typed program no more operands than that stand at any place that is reached from the entry;
  -- without typedness there may be no such number, since a loop could leave operands behind in each turn
  pub bounds : IsTyped P → (m start most place n : ℕ) → slice_get entry m ≡ Some start → slice_get room m ≡ Some most →
      ReachedPlace P code start place n → n ≤ most
  -- and so many stand at some of these places, where control can come to every statement of the body
  pub attained : IsTyped P → (m start most : ℕ) (method : Method) → slice_get P.methods m ≡ Some method → is_whole method.body ≡ true →
      slice_get entry m ≡ Some start → slice_get room m ≡ Some most → (place : ℕ) × ReachedPlace P code start place most
