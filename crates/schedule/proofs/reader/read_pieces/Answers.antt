-- One piece more: a gap, or an entry with which the schedule is short enough or too long.
use Rattle.std.proofs.Common.{◌≡◌, ◌<◌, ◌≤◌, ◌+◌, ◌++◌, ◌∙◌, ap, subst, arith, length, replicate, unwrap_or}
use Rattle.std.proofs.lemmas.List.{take_rest}
use Rattle.schedule.specs.Text.{BeginsWithPiece, piece_of}
use Rattle.schedule.proofs.ReadLemmas.{so_far_gap, so_far_entry, so_far_within, so_far_long}
use Rattle.schedule.proofs.reader.read_pieces.Goals as goal

pub pieces-preserved-then-gap-gt0 : goal.pieces-preserved-then-gap-gt0
pieces-preserved-then-gap-gt0 c =
    let gap = c.gap_length-gap.ensures.gap c.if-gap-gt0.true in
    so_far_gap c.args.bytes.now c.pieces.schedule.items c.pieces.at c.gap_length-gap.result gap.0 c.pieces.invariant
    (subst (λ t. BeginsWithPiece t gap.0 c.gap_length-gap.result) (take_rest c.args.bytes.now c.pieces.at) gap.1) gap.2

pub overflow_sub-len : goal.overflow_sub-len
overflow_sub-len c = omega (arith, so_far_within c.args.bytes.now c.pieces.schedule.items c.pieces.at c.pieces.invariant, c.len.ensures, c.pieces.schedule.ok)

pub returns-then-count-len : goal.returns-then-count-len
returns-then-count-len c =
    let entry = c.in-Ok.entry in
    let past : 200000 < length c.pieces.schedule.items + unwrap_or entry.count 1 = omega (arith, c.if-count-len.true, c.len.ensures, c.pieces.schedule.ok, c.unwrap_or-count.ensures) in
    so_far_long c.args.bytes.now c.pieces.schedule.items c.pieces.at entry.length entry.thread entry.count c.pieces.invariant
    (subst (λ t. BeginsWithPiece t (piece_of entry.thread entry.count) entry.length) (take_rest c.args.bytes.now c.pieces.at) c.in-Ok.ensures.entry) past

pub pieces-preserved : goal.pieces-preserved
pieces-preserved c =
    let entry = c.in-Ok.entry in
    let within = so_far_within c.args.bytes.now c.pieces.schedule.items c.pieces.at c.pieces.invariant in
    let fits : length c.pieces.schedule.items + unwrap_or entry.count 1 ≤ 200000 = omega (arith, within, c.if-count-len.false, c.len.ensures, c.pieces.schedule.ok, c.unwrap_or-count.ensures) in
    let next : c.push_steps.new.schedule.items ≡ c.pieces.schedule.items ++ replicate (unwrap_or entry.count 1) entry.thread =
    c.in_ok-push_steps.ensures ∙ ap (λ n. c.pieces.schedule.items ++ replicate n entry.thread) c.unwrap_or-count.ensures in
    so_far_entry c.args.bytes.now c.pieces.schedule.items c.push_steps.new.schedule.items c.pieces.at entry.length entry.thread entry.count c.pieces.invariant
    (subst (λ t. BeginsWithPiece t (piece_of entry.thread entry.count) entry.length) (take_rest c.args.bytes.now c.pieces.at) c.in-Ok.ensures.entry) fits next
