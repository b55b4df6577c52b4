-- The next premise is the first of the nodes.
use Rattle.books.specs.Views.{nodes_in}
use Rattle.books.proofs.TableLaws.{first_is}
use Rattle.books.proofs.nodes.PremisesNodes.first.Goals as goal

pub returns-clause-some : goal.returns-clause-some
returns-clause-some c = (first_is (nodes_in c.args.self.rest.now) c.in_ok-view.view c.premises.result c.next.new.self (c.in_ok-view.ensures (nodes_in c.args.self.rest.now) c.requires.kept) c.premises.ensures).is

pub returns-clause-premises_kept : goal.returns-clause-premises_kept
returns-clause-premises_kept c = (first_is (nodes_in c.args.self.rest.now) c.in_ok-view.view c.premises.result c.next.new.self (c.in_ok-view.ensures (nodes_in c.args.self.rest.now) c.requires.kept) c.premises.ensures).inner_are

pub returns-clause-rest_kept : goal.returns-clause-rest_kept
returns-clause-rest_kept c = (first_is (nodes_in c.args.self.rest.now) c.in_ok-view.view c.premises.result c.next.new.self (c.in_ok-view.ensures (nodes_in c.args.self.rest.now) c.requires.kept) c.premises.ensures).new_are
