use Rattle.std.proofs.Common.{refl, ap, sym, ◌∙◌}
use Rattle.typing.proofs.Ascending.{insert_is, inserted_all, inserted_last}
use Rattle.typing.proofs.methods.ascending.Goals as goal

pub loop-path-preserved : goal.loop-path-preserved
loop-path-preserved c =
    ap (λ ks. inserted_all ks c.pop.new.self.items) (c.in_ok-insert.ensures.keys ∙ insert_is _ (λ p q. refl) c.loop-path.set.keys c.in-Some.path)
    ∙ sym (inserted_last c.loop-path.set.keys c.pop.new.self.items c.in-Some.path)
    ∙ ap (inserted_all c.loop-path.set.keys) (sym c.in-Some.ensures.items)
    ∙ c.loop-path.invariant
