-- What was renamed before stays right in the longer list.
use Rattle.conditions.proofs.Renaming.{renamed_on}
use Rattle.conditions.proofs.table.NodeTable.+renamed_at.Goals as goal

pub keep_renamed-requires-clause-done : goal.keep_renamed-requires-clause-done
keep_renamed-requires-clause-done t c =
    renamed_on c.renamed_at-in-Test.new.self c.renamed_test.new.self c.args.pairs.now c.renamed_at-in-Test.new.done.entries
    c.in_ok-renamed-in-Test.ensures.grows c.in_ok-free-in-Test.ensures.done
