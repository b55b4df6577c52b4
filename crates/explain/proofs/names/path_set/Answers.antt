use Rattle.std.proofs.Common.{refl, ap, ◌∙◌, rules}
use Rattle.std.specs.BTreeSet.{insert_key}
use Rattle.explain.proofs.NameLemmas.{put_one, all_put}
use Rattle.explain.proofs.names.path_set.Goals as goal

pub loop-path-preserved : goal.loop-path-preserved
loop-path-preserved c = record {
  ascends = search rules;
  same = put_one _ (λ p q. refl) c.args.held.now c.loop-path.set.keys c.insert.new.self.keys c.loop-path.path-index c.path-item.result c.loop-path-test.true c.path-item.is
      (c.in_ok-insert.ensures.keys ∙ ap (insert_key _ c.loop-path.set.keys) c.copy.ensures) c.loop-path.invariant.same;
}

pub returns-clause-same : goal.returns-clause-same
returns-clause-same c = all_put c.args.held.now c.loop-path.set.keys c.loop-path.path-index c.loop-path-test.false c.loop-path.invariant.same
