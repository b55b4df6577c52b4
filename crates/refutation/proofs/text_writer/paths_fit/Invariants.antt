use Rattle.std.proofs.Common.{drop}
use Rattle.std.specs.List.{AllByRecursion}
use Rattle.books.specs.Books.{IsPath}
use Rattle.refutation.proofs.text_writer.paths_fit.Given as goal

-- the rest can be written where all can
abbrev pub invariant-loop-path : goal.invariant-loop-path
invariant-loop-path l = record {
  all : AllByRecursion IsPath (drop l.path-index l.paths) → AllByRecursion IsPath l.paths;
  rest : AllByRecursion IsPath l.paths → AllByRecursion IsPath (drop l.path-index l.paths);
}
