-- A tree that was there, and one that was added.
use Rattle.std.proofs.Common.{◌<◌, ◌^◌, inl, map, [], ◌∷◌, length, refl, sym, ap, subst, ◌∙◌}
use Rattle.std.proofs.lemmas.List.{map-append, length-map}
use Rattle.conditions.specs.Conditions.{cond_of}
use Rattle.conditions.specs.Shown.{AreAmongFirst, node_tree}
use Rattle.derive.specs.Pools.{pool_table}
use Rattle.derive.proofs.PoolLemmas.{tree_is, kept_keys, number_found, pool_longer, longer_few}
use Rattle.derive.proofs.pool.Pool.number_of.Goals as goal

pub returns-then-not-is_new-clause-pool : goal.returns-then-not-is_new-clause-pool
returns-then-not-is_new-clause-pool c =
    let f = c.in_ok-place.ensures in
    let p = c.requires.pool in
    let old = c.args.self.now in
    let kept = kept_keys old.nodes.keys c.insert_full.new.self.keys c.args.node.now c.in_ok-place.is_new f.added c.if-not-is_new.true f.keys in
    record {
      pooled = p.pooled;
      there = subst (AreAmongFirst (length c.args.table.now)) (sym kept) p.there;
      nodes = ap (map (node_tree c.args.table.now)) kept ∙ p.nodes;
    }

pub returns-then-not-is_new-clause-number : goal.returns-then-not-is_new-clause-number
returns-then-not-is_new-clause-number c =
    let f = c.in_ok-place.ensures in
    let old = c.args.self.now in
    let kept = kept_keys old.nodes.keys c.insert_full.new.self.keys c.args.node.now c.in_ok-place.is_new f.added c.if-not-is_new.true f.keys in
    inl (number_found c.args.table.now (pool_table old) old.nodes.keys c.insert_full.new.self.keys c.args.node.now f.stored.0 c.in_ok-place.place c.requires.pool.nodes kept f.stored.1 f.stored.2, refl)

pub returns-clause-pool : goal.returns-clause-pool
returns-clause-pool c =
    let f = c.in_ok-place.ensures in
    let t = cond_of c.in_ok-tree.tree in
    let old = c.args.self.now in
    let table = ap (map cond_of) c.in_ok-push.ensures.items ∙ map-append cond_of old.trees.items (c.in_ok-tree.tree ∷ []) in
    let few = subst (λ ts. length ts < 2 ^ 32) (sym table) (longer_few old.trees.items (pool_table old) t c.len-number.result (length-map old.trees.items cond_of) (c.len-number.ensures ∙ old.trees.ok.0) c.if-number.false) in
    let l = pool_longer c.args.table.now old c.insert_full.new.self.keys c.args.node.now t (map cond_of c.push.new.self.items) c.in_ok-place.is_new c.count-count.ensures.table c.requires.pool c.requires.known
    (sym c.in_ok-tree.ensures.tree) (tree_is t c.in_ok-tree.ensures.canonical (c.fits.ensures.only c.if-not-fits.false)) few f.added c.if-not-is_new.false f.keys table in
    record { pooled = l.0; there = l.1; nodes = l.2 }
