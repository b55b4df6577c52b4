-- The five basic atomicities: their order, join, sequence, iteration and lift, and their names.
-- After Lipton (1975) and Flanagan and Qadeer (2003); the tables are this checker's own.
use Rattle.std.specs.Prelude.{ℕ, List, Bool, nat_le, codes, if◌then◌else◌}
use Rattle.algebra.specs.declared.basic.Basic.{Basic}
use Rattle.algebra.specs.declared.basic.Basic.TheVariants.{Const, Mover, Atomic, Cmpd, Error}

-- the place in the order: const, mover, atomic, cmpd, error ascend
abbrev pub rank_of : Basic → ℕ
rank_of Const = 0
rank_of Mover = 1
rank_of Atomic = 2
rank_of Cmpd = 3
rank_of Error = 4

-- whether the first is at most the second
abbrev pub below_of : Basic → Basic → Bool
below_of a b = nat_le (rank_of a) (rank_of b)

-- the greater one
abbrev pub join_of : Basic → Basic → Basic
join_of a b = if below_of a b then b else a

-- one after the other: error wins, then cmpd; const adds nothing; two atomics are cmpd
abbrev pub seq_of : Basic → Basic → Basic
seq_of Error _ = Error
seq_of _ Error = Error
seq_of Cmpd _ = Cmpd
seq_of _ Cmpd = Cmpd
seq_of Const b = b
seq_of a Const = a
seq_of Mover Mover = Mover
seq_of Mover Atomic = Atomic
seq_of Atomic Mover = Atomic
seq_of Atomic Atomic = Cmpd

-- any number of times
abbrev pub star_of : Basic → Basic
star_of Const = Const
star_of Mover = Mover
star_of Atomic = Cmpd
star_of Cmpd = Cmpd
star_of Error = Error

-- between the acquire and the release of a lock that wasn't held
abbrev pub lift_of : Basic → Basic
lift_of Const = Atomic
lift_of Mover = Atomic
lift_of Atomic = Atomic
lift_of Cmpd = Cmpd
lift_of Error = Error

-- the word for a basic
abbrev pub name_of : Basic → List ℕ
name_of Const = codes "const"
name_of Mover = codes "mover"
name_of Atomic = codes "atomic"
name_of Cmpd = codes "cmpd"
name_of Error = codes "error"
