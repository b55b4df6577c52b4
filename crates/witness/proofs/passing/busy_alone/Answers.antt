-- No end that is looked for is passed.
use Rattle.std.proofs.Common.{◌≡◌, true, false, refl, sym, ap, subst, ◌∙◌}
use Rattle.witness.specs.Tables.{count_at}
use Rattle.witness.specs.Walks.{allows}
use Rattle.witness.specs.Searching.{IsAlone}
use Rattle.witness.proofs.passing.busy_alone.Goals as goal

pub returns : goal.returns
returns c = record {
  allowed = ap (λ xs. allows c.args.search.now.counted (count_at xs) c.args.thread) (sym c.as_slice.ensures.value) ∙ sym c.allows.ensures ∙ c.if-not-allows.false;
  few = c.requires.few;
  alone = subst (IsAlone c.args.search.now c.args.node.now c.args.thread) (sym c.requires.busy) (
    refl,
    λ e stands zeros bad.
        let yes = c.is_end.ensures.told bad.0 e bad.1 (record { stands = stands; waits = refl; counts = refl }) bad.2 zeros in
        let no : false ≡ true = sym c.if-is_end.false ∙ yes in
        absurd cc,
  );
}
