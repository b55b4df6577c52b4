use Rattle.std.proofs.Common.{[], ◌∙◌}
use Rattle.std.specs.Prelude.{None}
use Rattle.state.specs.Frames.{frames_in, settled}
use Rattle.state.proofs.FrameLemmas.{called}
use Rattle.state.proofs.threads.ThreadCell.call.Goals as goal

pub returns-clause-ok : goal.returns-clause-ok
returns-clause-ok c =
    let i = c.self.inside in
    called i.state i.on i.method i.top i.below.items c.settle_last.new.frames.items
    (record { method = c.args.entered.method; slots = c.args.slots.items; operands = []; place = c.args.entered.entry; taken = []; room = c.args.entered.room })
    (frames_in c.args.self.now) (settled c.args.drops None c.args.next) (c.self.view_is ∙ c.in_ok-push_frame.ensures.ok) c.settle_last.ensures
