use Rattle.std.proofs.Common.{◌∙◌}
use Rattle.infer.proofs.RowLemmas.{consts_longer, consts_repeated}
use Rattle.infer.proofs.inference.+put_consts.Goals as goal

pub repeat_from-requires : goal.repeat_from-requires
repeat_from-requires t c = consts_longer c.args.basics.now.items c.put_consts.new.basics.items c.in-Some.rest.now c.len-first.result (c.len-first.ensures ∙ c.args.basics.now.ok.0) c.in_ok-put_consts.ensures

pub returns : goal.returns
returns t c = consts_repeated c.repeat_from.result c.args.basics.now.items c.put_consts.new.basics.items c.repeat_from.new.row.items c.args.paths.now c.in-Some.rest.now c.in-Some.field-0-0.now c.len-first.result
    (let a = c.in-Some.ensures.cases in cc) (c.len-first.ensures ∙ c.args.basics.now.ok.0) c.in_ok-put_consts.ensures c.repeat_from.ensures
