-- Lock expressions as they are written: which of them are locks, and with which paths.
use Rattle.std.specs.Prelude.{ℕ, Bool, ◌&&◌, List, [], ◌∷◌, Option, Some, None, ok_or, Result, Ok}
use Rattle.paths.specs.Paths.{PathData, extended_some}
use Rattle.core_program.specs.declared.types.CoreType.{CoreType}
use Rattle.core_program.specs.Locks.{slot_path, is_class}
use Rattle.core_program.specs.Types.{Variable}
use Rattle.syntax.specs.declared.tree.Name.{Name}
use Rattle.syntax.specs.Trees.{LockTree}
use Rattle.classes.specs.Table.{TableData}
use Rattle.classes.specs.Seen.{FieldData}
use Rattle.typing.specs.declared.fault.TypeFault.{TypeFault}
use Rattle.typing.specs.declared.fault.TypeFault.TheVariants.{UnknownName, NotALock}
use Rattle.typing.specs.Rulings.{then_rule, demand}
use Rattle.typing.specs.Rules.{class_of_core_type, field_of_class}
use Rattle.typing.specs.Scopes.{Scope, variable, this_variable}

-- how far a lock expression leads: its path, none past two fields; whether the root and all fields are final; its type
pub record Reach : Type 0 where
  pub path : Option PathData
  pub is_final : Bool
  pub ty : CoreType

-- a variable alone
abbrev pub reach_of : Variable → Reach
reach_of v = record { path = Some (slot_path v.slot); is_final = v.is_final; ty = v.ty }

-- one field further
abbrev pub one_field_further : Reach → ℕ × FieldData → Reach
one_field_further r f = record { path = extended_some r.path (f.0 ∷ []); is_final = r.is_final && f.1.is_final; ty = f.1.ty }

-- the field that a name means in a lock whose first token stands at an offset: what stands before has a class type, and its
-- class has the field, its own or from above
abbrev pub lock_field : TableData → ℕ → Reach → Name → Result (ℕ × FieldData) TypeFault
lock_field t at r n = then_rule (ok_or (class_of_core_type r.ty) (NotALock at)) (λ c. ok_or (field_of_class t c n.text) (UnknownName n.at))

-- along the fields of a lock, up to the first name that tells a fault
abbrev pub path_along : TableData → ℕ → Reach → List Name → Result Reach TypeFault
path_along t at r [] = Ok r
path_along t at r (n ∷ ns) = then_rule (lock_field t at r n) (λ f. path_along t at (one_field_further r f) ns)

-- a whole lock expression is final throughout, has a class type, and at most two fields
abbrev pub lock_end : ℕ → Reach → Result PathData TypeFault
lock_end at r = then_rule (demand (r.is_final && is_class r.ty) (NotALock at) r.path) (λ p. ok_or p (NotALock at))

-- the root of a lock: `this`, or a variable in scope
abbrev pub root_rule : ℕ → Scope → Option Name → Result Variable TypeFault
root_rule class scope None = Ok (this_variable class)
root_rule class scope (Some n) = ok_or (variable scope n.text) (UnknownName n.at)

-- the path of a lock, in a class and with these variables in scope
abbrev pub lock_rule : TableData → ℕ → Scope → LockTree → Result PathData TypeFault
lock_rule t class scope l =
    then_rule (root_rule class scope l.root) (λ v. then_rule (path_along t l.at (reach_of v) l.fields) (lock_end l.at))
