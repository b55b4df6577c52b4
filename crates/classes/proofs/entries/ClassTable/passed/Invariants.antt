use Rattle.std.proofs.Common.{◌≡◌, ℕ, Option}
use Rattle.classes.specs.Jumps.{AreOfBucket}
use Rattle.classes.specs.Table.{class_and_ancestors, first_found}
use Rattle.classes.specs.Views.{table_data}
use Rattle.classes.proofs.entries.ClassTable.passed.Given as goal

abbrev pub invariant-loop : goal.invariant-loop
invariant-loop l =
    (own : ℕ → Option ℕ) → AreOfBucket l.jumps own l.bucket
    → first_found own (class_and_ancestors (table_data l.self) l.at) ≡ first_found own (class_and_ancestors (table_data l.self) l.fn.class)
