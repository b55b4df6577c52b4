use Rattle.std.proofs.Common.{◌==◌, reverse, sym, ap, ◌∙◌}
use Rattle.std.specs.Prelude.{map}
use Rattle.std.specs.Option.{option_map}
use Rattle.std.proofs.lemmas.Bool.{eqb-true, not-false}
use Rattle.state.specs.Frames.{code_frame, code_thread, thread_of, frames_from}
use Rattle.state.proofs.FrameLemmas.{same_thread}
use Rattle.state.proofs.threads.ThreadCell.same.Goals as goal

pub returns : goal.returns
returns c told =
    let i = c.self.inside in
    let o = c.other.inside in
    let states = c.same_status.ensures c.if-not-same_status.false in
    let objects = c.same_address.ensures.same c.if-not-same_address.false in
    let methods = eqb-true i.method o.method (not-false (i.method == o.method) (sym c.if-ne.ensures)) in
    let tops = sym (ap (option_map code_frame) c.as_ref.ensures.value) ∙ c.same_top.ensures c.if-not-same_top.false ∙ ap (option_map code_frame) c.as_ref-2.ensures.value in
    let belows = sym (ap (map code_frame) c.as_slice.ensures.value) ∙ c.same_frames.ensures told ∙ ap (map code_frame) c.as_slice-2.ensures.value in
    sym (ap code_thread c.self.view_is)
    ∙ (λ j. code_thread (thread_of (states j) (objects j) (methods j) (frames_from i.top (reverse i.below.items))))
    ∙ same_thread o.state o.on o.method o.top i.top o.below.items i.below.items tops belows
    ∙ ap code_thread c.other.view_is
