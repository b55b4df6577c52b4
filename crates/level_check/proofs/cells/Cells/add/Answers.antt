-- A cell that was there, and one that was added.
use Rattle.level_check.proofs.CellLemmas.{kept_keys, more_keys, found_kept, found_more}
use Rattle.level_check.proofs.cells.Cells.add.Goals as goal

pub returns-then-not-is_new : goal.returns-then-not-is_new
returns-then-not-is_new c =
    let f = c.in_ok-at.ensures in
    found_kept c.args.self.now.known.keys c.insert_full.new.self.keys c.args.self.now.levels.items c.args.cell c.args.level c.in_ok-at.at f.stored (kept_keys c.args.self.now.known.keys c.insert_full.new.self.keys c.args.cell c.in_ok-at.is_new f.added c.if-not-is_new.true f.keys)

pub returns : goal.returns
returns c =
    let f = c.in_ok-at.ensures in
    found_more c.args.self.now.known.keys c.insert_full.new.self.keys c.args.self.now.levels.items c.push.new.self.items c.args.cell c.args.level c.in_ok-at.at f.stored (more_keys c.args.self.now.known.keys c.insert_full.new.self.keys c.args.cell c.in_ok-at.is_new f.added c.if-not-is_new.false f.keys) c.in_ok-push.ensures.items
