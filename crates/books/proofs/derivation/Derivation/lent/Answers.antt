-- A node has the word of its variant.
use Rattle.std.proofs.Common.{sym, ap, ◌∙◌}
use Rattle.books.specs.Memory.{node_of}
use Rattle.books.proofs.MemoryLemmas.{node_of-Lit, node_of-This, node_of-Var, node_of-Un, node_of-Bin, node_of-And, node_of-Or, node_of-Get, node_of-New, node_of-Call, node_of-Local, node_of-Set, node_of-Put, node_of-Block, node_of-If, node_of-While, node_of-Sync, node_of-Return, node_of-Print, node_of-Start, node_of-Do, node_of-Skip}
use Rattle.books.proofs.derivation.Derivation.lent.Goals as goal

pub returns-in-Lit : goal.returns-in-Lit
returns-in-Lit c = ap node_of c.in-Lit.is ∙ node_of-Lit c.in-Lit.number c.in-Lit.premises ∙ sym c.lent_as.ensures

pub returns-in-This : goal.returns-in-This
returns-in-This c = ap node_of c.in-This.is ∙ node_of-This c.in-This.number c.in-This.premises ∙ sym c.lent_as-in-This.ensures

pub returns-in-Var : goal.returns-in-Var
returns-in-Var c = ap node_of c.in-Var.is ∙ node_of-Var c.in-Var.number c.in-Var.premises ∙ sym c.lent_as-in-Var.ensures

pub returns-in-Un : goal.returns-in-Un
returns-in-Un c = ap node_of c.in-Un.is ∙ node_of-Un c.in-Un.number c.in-Un.premises ∙ sym c.lent_as-in-Un.ensures

pub returns-in-Bin : goal.returns-in-Bin
returns-in-Bin c = ap node_of c.in-Bin.is ∙ node_of-Bin c.in-Bin.number c.in-Bin.premises ∙ sym c.lent_as-in-Bin.ensures

pub returns-in-And : goal.returns-in-And
returns-in-And c = ap node_of c.in-And.is ∙ node_of-And c.in-And.number c.in-And.premises ∙ sym c.lent_as-in-And.ensures

pub returns-in-Or : goal.returns-in-Or
returns-in-Or c = ap node_of c.in-Or.is ∙ node_of-Or c.in-Or.number c.in-Or.premises ∙ sym c.lent_as-in-Or.ensures

pub returns-in-Get : goal.returns-in-Get
returns-in-Get c = ap node_of c.in-Get.is ∙ node_of-Get c.in-Get.number c.in-Get.premises ∙ sym c.lent_as-in-Get.ensures

pub returns-in-New : goal.returns-in-New
returns-in-New c = ap node_of c.in-New.is ∙ node_of-New c.in-New.number c.in-New.premises ∙ sym c.lent_as-in-New.ensures

pub returns-in-Call : goal.returns-in-Call
returns-in-Call c = ap node_of c.in-Call.is ∙ node_of-Call c.in-Call.number c.in-Call.premises ∙ sym c.lent_as-in-Call.ensures

pub returns-in-Local : goal.returns-in-Local
returns-in-Local c = ap node_of c.in-Local.is ∙ node_of-Local c.in-Local.number c.in-Local.premises ∙ sym c.lent_as-in-Local.ensures

pub returns-in-Set : goal.returns-in-Set
returns-in-Set c = ap node_of c.in-Set.is ∙ node_of-Set c.in-Set.number c.in-Set.premises ∙ sym c.lent_as-in-Set.ensures

pub returns-in-Put : goal.returns-in-Put
returns-in-Put c = ap node_of c.in-Put.is ∙ node_of-Put c.in-Put.number c.in-Put.premises ∙ sym c.lent_as-in-Put.ensures

pub returns-in-Block : goal.returns-in-Block
returns-in-Block c = ap node_of c.in-Block.is ∙ node_of-Block c.in-Block.number c.in-Block.premises ∙ sym c.lent_as-in-Block.ensures

pub returns-in-If : goal.returns-in-If
returns-in-If c = ap node_of c.in-If.is ∙ node_of-If c.in-If.number c.in-If.premises ∙ sym c.lent_as-in-If.ensures

pub returns-in-While : goal.returns-in-While
returns-in-While c = ap node_of c.in-While.is ∙ node_of-While c.in-While.number c.in-While.premises ∙ sym c.lent_as-in-While.ensures

pub returns-in-Sync : goal.returns-in-Sync
returns-in-Sync c = ap node_of c.in-Sync.is ∙ node_of-Sync c.in-Sync.number c.in-Sync.premises ∙ sym c.lent_as-in-Sync.ensures

pub returns-in-Return : goal.returns-in-Return
returns-in-Return c = ap node_of c.in-Return.is ∙ node_of-Return c.in-Return.number c.in-Return.premises ∙ sym c.lent_as-in-Return.ensures

pub returns-in-Print : goal.returns-in-Print
returns-in-Print c = ap node_of c.in-Print.is ∙ node_of-Print c.in-Print.number c.in-Print.premises ∙ sym c.lent_as-in-Print.ensures

pub returns-in-Start : goal.returns-in-Start
returns-in-Start c = ap node_of c.in-Start.is ∙ node_of-Start c.in-Start.number c.in-Start.premises ∙ sym c.lent_as-in-Start.ensures

pub returns-in-Do : goal.returns-in-Do
returns-in-Do c = ap node_of c.in-Do.is ∙ node_of-Do c.in-Do.number c.in-Do.premises ∙ sym c.lent_as-in-Do.ensures

pub returns-in-Skip : goal.returns-in-Skip
returns-in-Skip c = ap node_of c.in-Skip.is ∙ node_of-Skip c.in-Skip.number c.in-Skip.premises ∙ sym c.lent_as-in-Skip.ensures
