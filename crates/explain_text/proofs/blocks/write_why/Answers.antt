use Rattle.std.proofs.Common.{refl, sym, string_bytes}
use Rattle.std.proofs.lemmas.List.{append-nil}
use Rattle.std.proofs.lemmas.Result.{on_ok_weaker}
use Rattle.explain_text.proofs.blocks.write_why.Goals as goal

pub returns-in-Wrong : goal.returns-in-Wrong
returns-in-Wrong g c = rw c.in-Wrong.is c.write_wrong.ensures

pub returns-in-Looped : goal.returns-in-Looped
returns-in-Looped g c = rw c.in-Looped.is (on_ok_weaker c.write_looped.result (λ is. (_, is, refl)) c.write_looped.ensures)

pub returns-in-Compound : goal.returns-in-Compound
returns-in-Compound g c = rw c.in-Compound.is (on_ok_weaker c.write_compound.result (λ is. (_, is, refl)) c.write_compound.ensures)

pub returns-in-Two : goal.returns-in-Two
returns-in-Two g c = rw c.in-Two.is (on_ok_weaker c.write_two.result (λ is. (_, is, refl)) c.write_two.ensures)

pub returns-in-Overridden : goal.returns-in-Overridden
returns-in-Overridden g c = rw c.in-Overridden.is (on_ok_weaker c.write_over.result (λ is. (_, is, refl)) c.write_over.ensures)

pub returns-in-Nothing : goal.returns-in-Nothing
returns-in-Nothing g c = rw c.in-Nothing.is (_, sym (append-nil (string_bytes c.args.out.now)), refl)
