use Rattle.std.proofs.Common.{◌≡◌, drop}
use Rattle.std.specs.Prelude.{max}
use Rattle.core_program.specs.Views.{stmts_from}
use Rattle.compile.specs.Rooms.{stmts_room}
use Rattle.compile.proofs.rooms.+stmt_rooms.Given as goal

-- the greatest room so far and that of the rest are that of the block
abbrev pub invariant-stmts_room-loop-s : goal.invariant-stmts_room-loop-s
invariant-stmts_room-loop-s l = max l.most (stmts_room (stmts_from (drop l.s-index l.body))) ≡ stmts_room (stmts_from l.body)
