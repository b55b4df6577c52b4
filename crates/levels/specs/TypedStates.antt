-- Typed states: each reference leads to an object of the right mark.
use Rattle.std.specs.Prelude.{◌≡◌, ℕ, List, [], ◌∷◌, ◌++◌, Option, Some, slice_get}
use Rattle.std.specs.FinMap as map
use Rattle.core_program.specs.declared.types.CoreType.{CoreType}
use Rattle.core_program.specs.Core.{Program, Field, Method}
use Rattle.state.specs.declared.value.Address.{Address}
use Rattle.state.specs.declared.value.Value.{Value}
use Rattle.state.specs.Memory.{Object, field_value}
use Rattle.state.specs.States.{Frame, Thread, Ready, Running, State}
use Rattle.levels.specs.SlotTypes.{SlotType, slot_types, result_slot_type, Has, HasEach}
use Rattle.levels.specs.Suited.{brought, Suited}

-- objects keep their classes
abbrev pub Stays : (old new : Address → Option Object) → Type 0
Stays old new = (a : Address) (o : Object) → old a ≡ Some o → (p : Object) × (new a ≡ Some p) × (p.class ≡ o.class)

-- in a program with marks
module _ (P : Program) (mark : ℕ → ℕ) where
  -- each field of each object has its type
  abbrev pub IsTypedHeap : (Address → Option Object) → Type 0
  IsTypedHeap objects = (a : Address) (f : ℕ) (field : Field) (v : Value) → slice_get P.fields f ≡ Some field → field_value P f (objects a) (Some field) ≡ Some v → Has mark objects (Some field.ty) v

  -- each slot has its type
  abbrev pub AreTypedSlots : (Address → Option Object) → List CoreType → List Value → Type 0
  AreTypedSlots objects types slots = (x : ℕ) (v : Value) → slice_get slots x ≡ Some v → Has mark objects (slice_get types x) v

  -- a frame: its slots have their types, and what it has to do is suited to the types of its operands, after those that a call will bring
  pub record IsTypedFrame (objects : Address → Option Object) (f : Frame) (coming : List SlotType) : Type 0 where
    pub method : Method
    pub is : slice_get P.methods f.method ≡ Some method
    pub slots : AreTypedSlots objects (slot_types method) f.slots
    pub types : List SlotType
    pub operands : HasEach mark objects types f.operands
    pub suited : Suited P mark (slot_types method) method.result f.work (coming ++ types)

  -- frames, the innermost first; a frame further out waits for the result of the one before it
  abbrev pub AreTypedFrames : (Address → Option Object) → List Frame → List SlotType → Type 0
  AreTypedFrames objects [] coming = Unit {0}
  AreTypedFrames objects (f ∷ fs) coming = IsTypedFrame objects f coming × AreTypedFrames objects fs (brought (result_slot_type (slice_get P.methods f.method)))

  -- a thread is ready to run a method without parameters on an object of the method's class
  pub record IsTypedStart (objects : Address → Option Object) (a : Address) (m : ℕ) : Type 0 where
    pub object : Object
    pub there : objects a ≡ Some object
    pub no_parameters : (method : Method) → slice_get P.methods m ≡ Some method → method.params ≡ []
    pub of_class : (method : Method) → slice_get P.methods m ≡ Some method → mark method.class ≡ mark object.class

  -- a thread; nothing is said of one that has ended
  abbrev pub IsTypedThread : (Address → Option Object) → Option Thread → Type 0
  IsTypedThread objects (Some (Ready a m)) = IsTypedStart objects a m
  IsTypedThread objects (Some (Running fs)) = AreTypedFrames objects fs []
  IsTypedThread objects _ = Unit {0}

  -- a state
  pub record IsTypedState (q : State) : Type 0 where
    pub heap : IsTypedHeap (map.get q.heap)
    pub threads : (t : ℕ) → IsTypedThread (map.get q.heap) (slice_get q.threads t)
