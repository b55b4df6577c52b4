use Rattle.std.proofs.Common.{refl, arith, [], ◌∷◌}
use Rattle.std.specs.Prelude.{codes}
use Rattle.std.specs.Fmt.{digits}
use Rattle.schedule.specs.Text.{blank, comment, single, group}
use Rattle.text_examples.proofs.schedules.what_texts_write.Goals as goal

pub returns-clause-schedule : goal.returns-clause-schedule
unfolding digits
returns-clause-schedule c = record {
  pieces = group 0 2 ∷ blank 32 ∷ comment (codes " 7") ∷ blank 10 ∷ single 1 ∷ blank 10 ∷ [];
  begins = record { whole = refl; pieces_are = ((omega arith, omega arith, omega arith, refl), (refl, ((refl, refl), (refl, ((omega arith, refl), (refl, tt)))))); within = omega arith };
  steps_are = refl;
}

pub returns-clause-fault : goal.returns-clause-fault
unfolding digits
returns-clause-fault c = record {
  pieces = single 0 ∷ blank 32 ∷ [];
  rest = codes "1x";
  offset = 1;
  begins = record { whole = refl; pieces_are = ((omega arith, refl), (refl, tt)); within = omega arith };
  fault = refl;
  place_is = refl;
}

pub returns-clause-too_long : goal.returns-clause-too_long
unfolding digits
returns-clause-too_long c = record {
  pieces = single 0 ∷ blank 32 ∷ [];
  entry = group 1 200000;
  rest = [];
  begins = record { whole = refl; pieces_are = ((omega arith, refl), (refl, tt)); within = omega arith };
  entry_is = (omega arith, omega arith, omega arith, refl);
  past = omega arith;
  place_is = refl;
}
