-- One piece more was read, and judged.
use Rattle.std.proofs.Common.{◌∙◌, ap, arith, refl, subst, sym}
use Rattle.logs.specs.Stops.{stand_of}
use Rattle.logs.specs.Views.{guards_data}
use Rattle.log_reading.specs.Reading.{HasReadSoFar}
use Rattle.log_reading.proofs.Chunks.{read_none, read_more, stopped_so}
use Rattle.log_reading.proofs.reading.walk_file.Goals as goal

pub chunks-init : goal.chunks-init
chunks-init g c =
    let guard = guards_data c.args.guards.now in
    let told = g.F.Folder.told c.args.folder.now c.args.name.now in
    let first = ap (λ s. s.line) c.requires.start in
    record {
      read = subst (HasReadSoFar guard told 0) (sym c.requires.start) (read_none guard told);
      line = omega (arith, first);
      told = λ other. refl;
      calm = λ other. refl;
    }

pub returns-in-Err-clause-walked : goal.returns-in-Err-clause-walked
returns-in-Err-clause-walked g c =
    stopped_so (guards_data c.args.guards.now) (g.F.Folder.told c.args.folder.now c.args.name.now) (g.F.Folder.told c.chunks.folder c.args.name.now) c.chunks.at c.in-Ok.n (stand_of c.chunks.walk)
    (stand_of c.feed.new.self) c.in-Err.end c.read_at.new.into c.chunks.invariant.read (c.chunks.invariant.told c.args.name.now) c.in-Ok.ensures.bytes c.in-Err.ensures.walked

pub chunks-preserved : goal.chunks-preserved
chunks-preserved g c = record {
  read = read_more (guards_data c.args.guards.now) (g.F.Folder.told c.args.folder.now c.args.name.now) (g.F.Folder.told c.chunks.folder c.args.name.now) c.chunks.at c.in-Ok.n (stand_of c.chunks.walk)
      (stand_of c.feed.new.self) c.read_at.new.into c.chunks.invariant.read (c.chunks.invariant.told c.args.name.now) c.in-Ok.ensures.bytes c.in-Ok.ensures.bound c.in_default-feed.ensures.walked;
  line = c.in_default-feed.ensures.line;
  told = λ other. c.in-Ok.ensures.told other ∙ c.chunks.invariant.told other;
  calm = λ other. c.in-Ok.ensures.calm other ∙ c.chunks.invariant.calm other;
}
