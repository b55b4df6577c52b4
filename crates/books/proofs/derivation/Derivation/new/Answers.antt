-- The variant of a node has its word.
use Rattle.std.proofs.Common.{sym, ap, ◌∙◌}
use Rattle.books.specs.Derivations.{node}
use Rattle.books.specs.Memory.{nodes_at}
use Rattle.books.proofs.MemoryLemmas.{node_of-Lit, node_of-This, node_of-Var, node_of-Un, node_of-Bin, node_of-And, node_of-Or, node_of-Get, node_of-New, node_of-Call, node_of-Local, node_of-Set, node_of-Put, node_of-Block, node_of-If, node_of-While, node_of-Sync, node_of-Return, node_of-Print, node_of-Start, node_of-Do, node_of-Skip}
use Rattle.books.proofs.derivation.Derivation.new.Goals as goal

pub returns-in-Lit : goal.returns-in-Lit
returns-in-Lit c = node_of-Lit c.args.number c.args.premises ∙ ap (λ w. node w c.args.number (nodes_at c.args.premises.items)) (sym c.in-Lit.is)

pub returns-in-This : goal.returns-in-This
returns-in-This c = node_of-This c.args.number c.args.premises ∙ ap (λ w. node w c.args.number (nodes_at c.args.premises.items)) (sym c.in-This.is)

pub returns-in-Var : goal.returns-in-Var
returns-in-Var c = node_of-Var c.args.number c.args.premises ∙ ap (λ w. node w c.args.number (nodes_at c.args.premises.items)) (sym c.in-Var.is)

pub returns-in-Un : goal.returns-in-Un
returns-in-Un c = node_of-Un c.args.number c.args.premises ∙ ap (λ w. node w c.args.number (nodes_at c.args.premises.items)) (sym c.in-Un.is)

pub returns-in-Bin : goal.returns-in-Bin
returns-in-Bin c = node_of-Bin c.args.number c.args.premises ∙ ap (λ w. node w c.args.number (nodes_at c.args.premises.items)) (sym c.in-Bin.is)

pub returns-in-And : goal.returns-in-And
returns-in-And c = node_of-And c.args.number c.args.premises ∙ ap (λ w. node w c.args.number (nodes_at c.args.premises.items)) (sym c.in-And.is)

pub returns-in-Or : goal.returns-in-Or
returns-in-Or c = node_of-Or c.args.number c.args.premises ∙ ap (λ w. node w c.args.number (nodes_at c.args.premises.items)) (sym c.in-Or.is)

pub returns-in-Get : goal.returns-in-Get
returns-in-Get c = node_of-Get c.args.number c.args.premises ∙ ap (λ w. node w c.args.number (nodes_at c.args.premises.items)) (sym c.in-Get.is)

pub returns-in-New : goal.returns-in-New
returns-in-New c = node_of-New c.args.number c.args.premises ∙ ap (λ w. node w c.args.number (nodes_at c.args.premises.items)) (sym c.in-New.is)

pub returns-in-Call : goal.returns-in-Call
returns-in-Call c = node_of-Call c.args.number c.args.premises ∙ ap (λ w. node w c.args.number (nodes_at c.args.premises.items)) (sym c.in-Call.is)

pub returns-in-Local : goal.returns-in-Local
returns-in-Local c = node_of-Local c.args.number c.args.premises ∙ ap (λ w. node w c.args.number (nodes_at c.args.premises.items)) (sym c.in-Local.is)

pub returns-in-Set : goal.returns-in-Set
returns-in-Set c = node_of-Set c.args.number c.args.premises ∙ ap (λ w. node w c.args.number (nodes_at c.args.premises.items)) (sym c.in-Set.is)

pub returns-in-Put : goal.returns-in-Put
returns-in-Put c = node_of-Put c.args.number c.args.premises ∙ ap (λ w. node w c.args.number (nodes_at c.args.premises.items)) (sym c.in-Put.is)

pub returns-in-Block : goal.returns-in-Block
returns-in-Block c = node_of-Block c.args.number c.args.premises ∙ ap (λ w. node w c.args.number (nodes_at c.args.premises.items)) (sym c.in-Block.is)

pub returns-in-If : goal.returns-in-If
returns-in-If c = node_of-If c.args.number c.args.premises ∙ ap (λ w. node w c.args.number (nodes_at c.args.premises.items)) (sym c.in-If.is)

pub returns-in-While : goal.returns-in-While
returns-in-While c = node_of-While c.args.number c.args.premises ∙ ap (λ w. node w c.args.number (nodes_at c.args.premises.items)) (sym c.in-While.is)

pub returns-in-Sync : goal.returns-in-Sync
returns-in-Sync c = node_of-Sync c.args.number c.args.premises ∙ ap (λ w. node w c.args.number (nodes_at c.args.premises.items)) (sym c.in-Sync.is)

pub returns-in-Return : goal.returns-in-Return
returns-in-Return c = node_of-Return c.args.number c.args.premises ∙ ap (λ w. node w c.args.number (nodes_at c.args.premises.items)) (sym c.in-Return.is)

pub returns-in-Print : goal.returns-in-Print
returns-in-Print c = node_of-Print c.args.number c.args.premises ∙ ap (λ w. node w c.args.number (nodes_at c.args.premises.items)) (sym c.in-Print.is)

pub returns-in-Start : goal.returns-in-Start
returns-in-Start c = node_of-Start c.args.number c.args.premises ∙ ap (λ w. node w c.args.number (nodes_at c.args.premises.items)) (sym c.in-Start.is)

pub returns-in-Do : goal.returns-in-Do
returns-in-Do c = node_of-Do c.args.number c.args.premises ∙ ap (λ w. node w c.args.number (nodes_at c.args.premises.items)) (sym c.in-Do.is)

pub returns-in-Skip : goal.returns-in-Skip
returns-in-Skip c = node_of-Skip c.args.number c.args.premises ∙ ap (λ w. node w c.args.number (nodes_at c.args.premises.items)) (sym c.in-Skip.is)
