-- One group more is written, and at the end the line reads back.
use Rattle.std.proofs.Common.{◌≡◌, ◌++◌, ◌-◌, ◌∙◌, ap, sym, arith, length, take, drop, string_bytes}
use Rattle.std.proofs.lemmas.Grind.{common_steps}
use Rattle.std.proofs.lemmas.List.{take_rest}
use Rattle.schedule.specs.Written.{written}
use Rattle.schedule.proofs.WrittenLemmas.{group_written, read_back, none_left}
use Rattle.schedule.proofs.writer.write_schedule.Goals as goal

pub groups-preserved : goal.groups-preserved
groups-preserved c =
    let rest = c.groups.rest.now in
    let count = c.run_length-count.result in
    let first = c.in-Some.ensures.item.3 in
    record {
      done = group_written (string_bytes c.groups.text) (string_bytes c.write_group.new.text) (string_bytes c.end_group.new.text) rest (take (length rest - count) (drop count rest)) c.args.schedule.now
          c.in-Some.thread.now count c.is_empty.result (take_rest rest count) first.0 (sym (first.1 0)) c.run_length-count.ensures.length
          c.in_ok-write_group.ensures c.in_ok-end_group.ensures c.is_empty.ensures c.groups.invariant.done;
      within = grind (arith, common_steps, c.groups.invariant.within);
    }

pub returns-clause-reads_back : goal.returns-clause-reads_back
returns-clause-reads_back c = λ short.
    let text = string_bytes c.groups.text in
    let none = none_left c.groups.rest.now c.in_default.ensures.value in
    let is : string_bytes c.push.new.self ≡ written c.args.schedule.now =
    c.in_ok-push.ensures.bytes ∙ ap (λ t. text ++ t) (c.in_ok-push.ensures.ascii (omega arith)) ∙ ap (λ r. text ++ written r) (sym none) ∙ c.groups.invariant.done in
    read_back (string_bytes c.push.new.self) c.args.schedule.now is (λ i. omega (arith, c.type_inv.schedule i)) short
