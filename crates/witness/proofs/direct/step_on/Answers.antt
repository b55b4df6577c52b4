-- One step more.
use Rattle.std.proofs.Common.{◌≡◌, true, sym, ap, subst, ◌∙◌}
use Rattle.std.proofs.lemmas.Result.{IfOk-weaker}
use Rattle.witness.specs.Tables.{count_at}
use Rattle.witness.specs.Walks.{allows}
use Rattle.witness.specs.Nodes.{IsAdvanced}
use Rattle.witness.specs.Searching.{IsWalked}
use Rattle.witness.proofs.WalkedLemmas.{walked_on}
use Rattle.witness.proofs.direct.step_on.Goals as goal

pub returns : goal.returns
returns c =
    let s = c.args.search.now in
    let n = c.args.node.now in
    let next = c.advance.new.node in
    let t = c.args.thread in
    IfOk-weaker c.advance.result (IsAdvanced n t next) (λ made. made ≡ true → IsWalked s next)
    (λ made is yes.
    walked_on s n next t c.requires (ap (λ xs. allows s.counted (count_at xs) t) (sym c.as_slice.ensures.value) ∙ sym c.allows.ensures ∙ c.if-not-allows.false)
    (sym c.may_step.ensures ∙ c.if-not-may_step.false) (subst (IsAdvanced n t next) yes is))
    c.advance.ensures
