use Rattle.std.proofs.Common.{ap, ◌∙◌}
use Rattle.std.specs.FinMap as map
use Rattle.state.proofs.Numbering.{next_free}
use Rattle.machine.proofs.act.makes_next.Goals as goal

pub makes-requires-clause-free : goal.makes-requires-clause-free
makes-requires-clause-free c = ap (map.get c.args.heap.now) c.next_address-address.ensures ∙ next_free c.args.heap.now c.args.actor.now.thread c.requires.numbered
