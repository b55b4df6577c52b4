use Rattle.std.proofs.Common.{◌≡◌, drop, flat_map, map}
use Rattle.classes.specs.Views.{table_data}
use Rattle.syntax.specs.Views.{lock_of}
use Rattle.typing.specs.Gathered.{gathered, appended}
use Rattle.typing.specs.Locks.{lock_rule}
use Rattle.typing.specs.Noted.{type_noted}
use Rattle.typing.specs.Programs.{all_there}
use Rattle.typing.specs.Rulings.{gain, loss}
use Rattle.typing.proofs.methods.required.Given as goal

abbrev pub invariant-loop-lock : goal.invariant-loop-lock
invariant-loop-lock l =
    (appended (gathered l.paths) (all_there (map (λ k. gain (lock_rule (table_data l.table) l.class l.scope k)) (map lock_of (drop l.lock-index l.locks))))
    ≡ all_there (map (λ k. gain (lock_rule (table_data l.table) l.class l.scope k)) (map lock_of l.locks)))
    × (type_noted l.first (flat_map (λ k. loss (lock_rule (table_data l.table) l.class l.scope k)) (map lock_of (drop l.lock-index l.locks)))
    ≡ type_noted l.fn.first (flat_map (λ k. loss (lock_rule (table_data l.table) l.class l.scope k)) (map lock_of l.locks)))
