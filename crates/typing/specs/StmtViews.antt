-- How far a lock expression leads, as plain data.
use Rattle.typing.specs.declared.lock.ReachTo.{ReachTo}
use Rattle.typing.specs.Locks.{Reach}

-- how far a lock expression leads: its path where it has one, whether it is final up to there, and the type that it ends at
abbrev pub reach_data : ReachTo → Reach
reach_data r = record { path = r.path; is_final = r.is_final; ty = r.ty }
