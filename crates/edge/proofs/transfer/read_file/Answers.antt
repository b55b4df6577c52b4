-- One chunk more was read.
use Rattle.std.proofs.Common.{◌≡◌, ◌+◌, ◌++◌, ◌∙◌, length, take, true, arith, subst}
use Rattle.std.proofs.lemmas.Grind.{common_steps}
use Rattle.edge.proofs.PieceLemmas.{front_more, length_more, opened_once}
use Rattle.edge.proofs.transfer.read_file.Goals as goal

pub chunks-preserved : goal.chunks-preserved
chunks-preserved g c =
    let at : c.len-in-chunks.result ≡ length c.chunks.bytes.items = omega (arith, c.len-in-chunks.ensures, c.chunks.bytes.ok) in
    let more : c.extend_from_slice.new.self.items ≡ c.chunks.bytes.items ++ take c.in-Ok.n c.read_at.new.into = grind (arith, common_steps, c.in_ok-extend_from_slice.ensures.items) in
    let count = length_more c.chunks.bytes.items c.extend_from_slice.new.self.items c.read_at.new.into c.in-Ok.n more c.in-Ok.ensures.bound in
    record {
      front = front_more (g.F.Folder.told c.args.folder.now c.args.name.now) (g.F.Folder.told c.chunks.folder c.args.name.now) c.chunks.bytes.items c.extend_from_slice.new.self.items c.read_at.new.into c.len-in-chunks.result c.in-Ok.n (c.chunks.invariant.told c.args.name.now) at more c.chunks.invariant.front c.in-Ok.ensures.bytes c.in-Ok.ensures.bound;
      told = λ other. c.in-Ok.ensures.told other ∙ c.chunks.invariant.told other;
      calm = λ other. c.in-Ok.ensures.calm other ∙ c.chunks.invariant.calm other;
      counted = omega (arith, count, c.in-Ok.ensures.counted, c.chunks.invariant.counted, c.if-n-eq0.false);
      none_opened = λ none. absurd (omega (arith, count, c.if-n-eq0.false, none));
      one_opened = opened_once (g.F.Folder.opened c.args.folder.now) (g.F.Folder.opened c.chunks.folder) (g.F.Folder.opened c.read_at.new.self) (length c.chunks.bytes.items) c.len-in-chunks.result
          (g.F.Folder.is_open c.chunks.folder c.args.name.now) at c.chunks.invariant.none_opened c.chunks.invariant.one_opened c.chunks.invariant.still_open c.in-Ok.ensures.opens;
      still_open = λ some.
          let end : c.len-in-chunks.result + c.in-Ok.n ≡ length c.extend_from_slice.new.self.items = omega (arith, at, count) in
          subst (λ k. g.F.Folder.is_open c.read_at.new.self c.args.name.now k ≡ true) end
          (c.in-Ok.ensures.still_open (omega (arith, c.if-n-eq0.false)) (omega (arith, end, c.extend_from_slice.new.self.ok)));
      bounded = omega (arith, at, c.len.ensures, c.chunks.bytes.ok, c.in-Ok.ensures.counted, c.chunks.invariant.counted, c.chunks-test.true);
    }
