-- Where paths lead: slots, memory, and the values that final fields of class types lead to.
use Rattle.std.specs.Prelude.{◌≡◌, ℕ, zero, suc, Bool, true, ◌==◌, List, [], ◌∷◌, Option, Some, None, option_and_then, slice_get, unwrap_or, if◌then◌else◌}
use Rattle.paths.specs.Paths.{PathData}
use Rattle.algebra.specs.HeldPaths.{Held}
use Rattle.core_program.specs.Core.{Program}
use Rattle.core_program.specs.Locks.{leads_on}
use Rattle.state.specs.declared.value.Address.{Address}
use Rattle.state.specs.declared.value.Value.{Value}
use Rattle.state.specs.declared.value.Value.TheVariants as value
use Rattle.state.specs.Memory.{Object, field_value}

-- the values of a frame's slots
abbrev pub Env : Type 0
Env = ℕ → Value

-- slots in memory as such: null past the end
abbrev pub env_of : List Value → Env
env_of slots y = unwrap_or (slice_get slots y) value.Null

-- the slots with one of them changed
abbrev pub with_slot : Env → ℕ → Value → Env
with_slot env x v y = if x == y then v else env y

-- the value of each field of each object; none where there is no such object or field
abbrev pub Memory : Type 0
Memory = Address → ℕ → Option Value

-- the memory of the machine, from its objects
abbrev pub machine_memory : Program → (Address → Option Object) → Memory
machine_memory P object_at a f = field_value P f (object_at a) (slice_get P.fields f)

-- the value of a final field of class type of what a value refers to
abbrev pub next_value : Program → Memory → Value → ℕ → Option Value
next_value P h (value.Ref a) f = if leads_on (slice_get P.fields f) then h a f else None
next_value P h _ f = None

-- the value that such fields lead to; none where null or a missing object stands before their end
abbrev pub lead_from : Program → Memory → Value → List ℕ → Option Value
lead_from P h v [] = Some v
lead_from P h v (f ∷ fs) = option_and_then (λ w. lead_from P h w fs) (next_value P h v f)

-- the value that a path leads to
abbrev pub lead : Program → Memory → Env → PathData → Option Value
lead P h env p = lead_from P h (env p.root) p.fields

-- what final fields led to they still lead to
abbrev pub Grows : Program → (old new : Memory) → Type 0
Grows P h k = (a : Address) (f : ℕ) (v : Value) → leads_on (slice_get P.fields f) ≡ true → h a f ≡ Some v → k a f ≡ Some v

-- each path of the set leads to an object that passes the test
pub record Sound (P : Program) (h : Memory) (env : Env) (H : Held) (held : Address → Bool) : Type 0 where
  pub at : (q : PathData) → H q ≡ true → (a : Address) × (lead P h env q ≡ Some (value.Ref a)) × (held a ≡ true)

-- The paths that are known of operands, the topmost first; a missing one is none.
abbrev pub Paths : Type 0
Paths = List (Option PathData)

-- an operand's path, where one is known, leads to it
abbrev pub LeadsTo : Program → Memory → Env → Option PathData → Value → Type 0
LeadsTo P h env None v = Unit {0}
LeadsTo P h env (Some p) v = lead P h env p ≡ Some v

-- the path leads to no other value; it may lead nowhere
abbrev pub MayLeadTo : Program → Memory → Env → Option PathData → Value → Type 0
MayLeadTo P h env None v = Unit {0}
MayLeadTo P h env (Some p) v = (w : Value) → lead P h env p ≡ Some w → v ≡ w

-- the topmost path, and what stands under it
abbrev pub top_path : Paths → Option PathData
top_path [] = None
top_path (o ∷ os) = o

-- the paths of the operands below the topmost one
abbrev pub under_path : Paths → Paths
under_path [] = []
under_path (o ∷ os) = os

-- the n topmost paths, the deepest first, before the ones given; and what stands under them
abbrev pub taken_paths : ℕ → Paths → Paths → Paths
taken_paths zero found os = found
taken_paths (suc n) found os = taken_paths n (top_path os ∷ found) (under_path os)

-- the paths of the operands below the n topmost ones
abbrev pub dropped_paths : ℕ → Paths → Paths
dropped_paths zero os = os
dropped_paths (suc n) os = dropped_paths n (under_path os)
