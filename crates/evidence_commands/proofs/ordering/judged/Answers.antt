-- What the reader and the search ask, and the exits.
use Rattle.std.proofs.Common.{Err, ap}
use Rattle.evidence_commands.proofs.LevelRows.{class_count, text_refusal, order_refusal, ordered_result}
use Rattle.evidence_commands.proofs.ordering.judged.Goals as goal

pub read_levels-requires-clause-classes : goal.read_levels-requires-clause-classes
read_levels-requires-clause-classes c = class_count c.requires.source.0 c.args.source.now c.requires.source.1

pub returns-in-Err : goal.returns-in-Err
returns-in-Err c = λ file is. text_refusal file c.args.levels.now c.args.source.now c.in-Err.fault c.refuse_text.result is c.in-Err.ensures.fault c.refuse_text.ensures

pub returns-in-Ok-ordered : goal.returns-in-Ok-ordered
returns-in-Ok-ordered c = λ file is.
    ordered_result file c.args.levels.now c.in-Ok.found.of.items c.args.source.now c.is_ordered.result is c.in-Ok.ensures.levels c.in-Ok-ordered.ensures.ordered c.is_ordered.ensures

pub returns : goal.returns
returns c = λ file is.
    order_refusal file c.args.levels.now c.in-Ok.found.of.items c.args.source.now c.in-Err-ordered.end c.refuse_order.result is c.in-Ok.ensures.levels
    (λ m d u e. c.in-Err-ordered.ensures.order m d u (ap Err e)) c.refuse_order.ensures
