use Rattle.std.proofs.Common.{sym, ap, ◌∙◌}
use Rattle.machine.specs.Turns.{kind_done}
use Rattle.machine.specs.Seen.{program_in, code_lines_in, entry_in, room_in, shared_in}
use Rattle.machine.proofs.KindLemmas.{kind_ready, kind_running, kind_done_thread, kind_faulted}
use Rattle.machine.proofs.kinds.cell_kind.Goals as goal

pub returns-in-Ready : goal.returns-in-Ready
returns-in-Ready c = let s = c.args.seen.now in sym (kind_ready (program_in s) (code_lines_in s) (entry_in s) (room_in s) (shared_in s) s.thread c.args.cell.now (sym c.in-Ready.ensures))

pub returns-in-Running : goal.returns-in-Running
returns-in-Running c =
    let s = c.args.seen.now in
    c.kind_done.ensures ∙ ap (kind_done (program_in s) (shared_in s) s.thread) c.next_deed.ensures
    ∙ sym (kind_running (program_in s) (code_lines_in s) (entry_in s) (room_in s) (shared_in s) s.thread c.args.cell.now (sym c.in-Running.ensures))

pub returns-in-Done : goal.returns-in-Done
returns-in-Done c = let s = c.args.seen.now in sym (kind_done_thread (program_in s) (code_lines_in s) (entry_in s) (room_in s) (shared_in s) s.thread c.args.cell.now (sym c.in-Done.ensures))

pub returns-in-Faulted : goal.returns-in-Faulted
returns-in-Faulted c = let s = c.args.seen.now in sym (kind_faulted (program_in s) (code_lines_in s) (entry_in s) (room_in s) (shared_in s) s.thread _ c.args.cell.now (sym c.in-Faulted.ensures))
