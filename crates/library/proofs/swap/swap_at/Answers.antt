use Rattle.std.proofs.Common.{◌≡◌, ◌+◌, ap, ◌∙◌}
use Rattle.std.specs.Prelude.{true}
use Rattle.core_program.specs.Views.{program_of}
use Rattle.semantics.specs.Run.{run}
use Rattle.library.proofs.Neighbours.{passed, same_run, pass_kinds, kinds_pass, there, within}
use Rattle.library.proofs.swap.swap_at.Goals as goal

pub returns-in-Ok-clause-starts : goal.returns-in-Ok-clause-starts
returns-in-Ok-clause-starts c same q t u m n near = (c.in-Ok.ensures q t u m n near).starts.0 c.if-steps.true

pub returns-in-Ok-exchange-clause-passes : goal.returns-in-Ok-exchange-clause-passes
returns-in-Ok-exchange-clause-passes c q t u m n near =
    let seen = c.in-Ok.ensures q t u m n near in
    let steps = c.in-Ok.steps in
    passed (program_of c.args.program.now) c.requires.typed c.args.schedule.now c.args.place q t u m n near c.requires.apart
    (λ starts. let is : steps.starts ≡ true = seen.starts.1 starts in absurd cc)
    (pass_kinds steps.first steps.second m n seen.first seen.second (c.may_pass.ensures.0 c.if-may_pass.true))

pub returns-in-Ok-exchange-clause-same : goal.returns-in-Ok-exchange-clause-same
returns-in-Ok-exchange-clause-same c =
    let P = program_of c.args.program.now in
    let s = c.args.schedule.now in
    let place = c.args.place in
    let x = there P s place c.requires.runs (within s (place + 1) c.requires.there) in
    let near = x.5 in
    let steps = c.in-Ok.steps in
    let seen = c.in-Ok.ensures x.0 x.1 x.2 x.3 x.4 near in
    let apart = passed P c.requires.typed s place x.0 x.1 x.2 x.3 x.4 near c.requires.apart
    (λ starts. let is : steps.starts ≡ true = seen.starts.1 starts in absurd cc)
    (pass_kinds steps.first steps.second x.3 x.4 seen.first seen.second (c.may_pass.ensures.0 c.if-may_pass.true)) in
    ap (run P) c.in-Ok-exchange.ensures ∙ same_run P s place x.0 x.1 x.2 x.3 x.4 near apart.swapped

pub returns-in-Ok-3-clause-not_movers : goal.returns-in-Ok-3-clause-not_movers
returns-in-Ok-3-clause-not_movers c first second same q t u m n near =
    let seen = c.in-Ok.ensures q t u m n near in
    let steps = c.in-Ok.steps in
    let one : first ≡ steps.first = cc in
    let two : second ≡ steps.second = cc in
    record {
      fresh = λ starts. let is : steps.starts ≡ true = seen.starts.1 starts in absurd cc;
      first_kind = one ∙ seen.first;
      second_kind = two ∙ seen.second;
      stay = λ pass. let may : c.may_pass.result ≡ true = c.may_pass.ensures.1 (kinds_pass steps.first steps.second m n seen.first seen.second pass) in absurd cc;
    }
