-- What a rule gives of the parts of a node. A rule answers what it gives, or the fault of the node.
-- A node with a part that has no type has no type and no fault of its own.
use Rattle.std.specs.Prelude.{Bool, true, false, List, [], ◌∷◌, Option, Some, None, Result, Ok, Err}
use Rattle.typing.specs.declared.fault.TypeFault.{TypeFault}

-- what a rule gave, if it gave something
abbrev pub gain : {A : Type 0} → Result A TypeFault → Option A
gain (Ok a) = Some a
gain (Err f) = None

-- the fault that a rule told, if it told one
abbrev pub loss : {A : Type 0} → Result A TypeFault → List TypeFault
loss (Ok a) = []
loss (Err f) = f ∷ []

-- a value where a condition holds, else a fault
abbrev pub demand : {A : Type 0} → Bool → TypeFault → A → Result A TypeFault
demand true f a = Ok a
demand false f a = Err f

-- one rule, and then another on what it gave
abbrev pub then_rule : {A B : Type 0} → Result A TypeFault → (A → Result B TypeFault) → Result B TypeFault
then_rule (Ok a) rule = rule a
then_rule (Err f) rule = Err f

-- what a rule gives of a part that may be missing
abbrev pub ruled : {A B : Type 0} → (A → Result B TypeFault) → Option A → Option B
ruled rule None = None
ruled rule (Some a) = gain (rule a)

-- the fault that a rule tells of a part that may be missing
abbrev pub broken : {A B : Type 0} → (A → Result B TypeFault) → Option A → List TypeFault
broken rule None = []
broken rule (Some a) = loss (rule a)

-- both parts, where none is missing
abbrev pub both : {A B : Type 0} → Option A → Option B → Option (A × B)
both None b = None
both (Some a) None = None
both (Some a) (Some b) = Some (a, b)
