-- One piece more was read.
use Rattle.std.proofs.Common.{◌∙◌}
use Rattle.log_guess.proofs.Counts.{more_read}
use Rattle.log_guess.proofs.guess.guess_file.Goals as goal

pub chunks-preserved : goal.chunks-preserved
chunks-preserved g c = record {
  read = more_read (g.F.Folder.told c.args.folder.now c.args.name.now) (g.F.Folder.told c.chunks.folder c.args.name.now) c.chunks.at c.in-Ok.n c.read_at.new.into (c.chunks.invariant.told c.args.name.now)
      c.in-Ok.ensures.bytes c.chunks.invariant.read;
  told = λ other. c.in-Ok.ensures.told other ∙ c.chunks.invariant.told other;
  calm = λ other. c.in-Ok.ensures.calm other ∙ c.chunks.invariant.calm other;
}
