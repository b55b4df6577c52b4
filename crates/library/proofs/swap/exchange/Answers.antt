use Rattle.std.proofs.Common.{◌+◌, refl, ap, ◌∙◌}
use Rattle.std.specs.Prelude.{slice_set, slice_index_or}
use Rattle.library.proofs.Neighbours.{sets}
use Rattle.library.proofs.swap.exchange.Goals as goal

pub returns : goal.returns
returns c =
    let s = c.args.schedule.now in
    let place = c.args.place in
    ap (λ xs. slice_set (slice_set xs place (slice_index_or s (place + 1) 0)) (place + 1) (slice_index_or s place 0)) (c.in_ok-exchanged.ensures.items_if_clones_equal (λ x y same. same))
    ∙ sets s place (place + 1) refl c.requires
