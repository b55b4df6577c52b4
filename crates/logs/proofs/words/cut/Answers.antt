-- What is cut, from where the first space stands.
use Rattle.std.proofs.Common.{Some, ap, sym, ◌∙◌}
use Rattle.logs.proofs.Cuts.{cut_at, no_cut, rest_of}
use Rattle.logs.proofs.words.cut.Goals as goal

pub returns-in-Some-clause-word : goal.returns-in-Some-clause-word
returns-in-Some-clause-word c = (cut_at c.args.bytes.now c.in-Some.place (sym c.space_in.ensures.place ∙ c.in-Some.is)).0

pub returns-in-Some-clause-rest : goal.returns-in-Some-clause-rest
returns-in-Some-clause-rest c = ap Some (rest_of c.args.bytes.now c.in-Some.place) ∙ sym (cut_at c.args.bytes.now c.in-Some.place (sym c.space_in.ensures.place ∙ c.in-Some.is)).1

pub returns-in-None-clause-word : goal.returns-in-None-clause-word
returns-in-None-clause-word c = sym (no_cut c.args.bytes.now (sym c.space_in.ensures.place ∙ c.in-None.is)).0

pub returns-in-None-clause-rest : goal.returns-in-None-clause-rest
returns-in-None-clause-rest c = sym (no_cut c.args.bytes.now (sym c.space_in.ensures.place ∙ c.in-None.is)).1
