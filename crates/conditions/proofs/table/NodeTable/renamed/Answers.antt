-- No pairs change nothing.
use Rattle.std.proofs.Common.{sym, ◌∙◌, eqb-true}
use Rattle.std.proofs.lemmas.List.{nil_from_length}
use Rattle.conditions.proofs.Renaming.{unnamed}
use Rattle.conditions.proofs.table.NodeTable.renamed.Goals as goal

pub returns-then-is_empty-clause-stands : goal.returns-then-is_empty-clause-stands
returns-then-is_empty-clause-stands c =
    unnamed c.args.self.now c.args.pairs.now c.args.n c.number.ensures.table c.requires
    (nil_from_length c.args.pairs.now (eqb-true _ 0 (sym c.is_empty.ensures ∙ c.if-is_empty.true)))
