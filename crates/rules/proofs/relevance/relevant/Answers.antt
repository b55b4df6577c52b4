use Rattle.std.proofs.Common.{◌≡◌, length, refl, subst, ap, sym, ◌∙◌, inl}
use Rattle.std.proofs.lemmas.List.{length-map}
use Rattle.core_program.specs.Views.{program_of, method_of}
use Rattle.rules.specs.Limits.{IsFirstCrowded}
use Rattle.rules.specs.declared.relevance.RuleEnd.TheVariants as end
use Rattle.rules.proofs.LimitLemmas.{first_from, few_sets, well_formed_first, first_is, same_method}
use Rattle.rules.proofs.relevance.relevant.Goals as goal

pub returns-in-Some-clause-crowded : goal.returns-in-Some-clause-crowded
returns-in-Some-clause-crowded c m is =
    let P = program_of c.args.program.now in
    let all : length c.methods.result.now ≡ length P.methods = sym (length-map c.methods.result.now method_of) ∙ ap length c.methods.ensures in
    let first = first_from P c.in_ok-sets.sets c.in-Some.method (length c.methods.result.now) c.in_ok-sets.ensures all c.in-Some.ensures.crowded.0 c.in-Some.ensures.crowded.1 c.in-Some.ensures.before in
    subst (IsFirstCrowded P) (same_method _ c.in-Some.method m refl is) first

pub returns-in-Some-clause-well_formed : goal.returns-in-Some-clause-well_formed
returns-in-Some-clause-well_formed c well =
    let P = program_of c.args.program.now in
    let all : length c.methods.result.now ≡ length P.methods = sym (length-map c.methods.result.now method_of) ∙ ap length c.methods.ensures in
    let first = first_from P c.in_ok-sets.sets c.in-Some.method (length c.methods.result.now) c.in_ok-sets.ensures all c.in-Some.ensures.crowded.0 c.in-Some.ensures.crowded.1 c.in-Some.ensures.before in
    absurd (well_formed_first P c.in-Some.method well first)

pub returns-in-Some-clause-first : goal.returns-in-Some-clause-first
returns-in-Some-clause-first c m other =
    let P = program_of c.args.program.now in
    let all : length c.methods.result.now ≡ length P.methods = sym (length-map c.methods.result.now method_of) ∙ ap length c.methods.ensures in
    let first = first_from P c.in_ok-sets.sets c.in-Some.method (length c.methods.result.now) c.in_ok-sets.ensures all c.in-Some.ensures.crowded.0 c.in-Some.ensures.crowded.1 c.in-Some.ensures.before in
    inl (ap end.TooManyLocks (first_is P c.in-Some.method m first other))

pub returns-in-None-clause-few : goal.returns-in-None-clause-few
returns-in-None-clause-few c =
    let P = program_of c.args.program.now in
    let all : length c.methods.result.now ≡ length P.methods = sym (length-map c.methods.result.now method_of) ∙ ap length c.methods.ensures in
    few_sets P c.in_ok-sets.sets (length c.methods.result.now) c.in_ok-sets.ensures all c.in-None.ensures.none

pub returns-in-None-clause-first : goal.returns-in-None-clause-first
returns-in-None-clause-first c m first =
    let P = program_of c.args.program.now in
    let all : length c.methods.result.now ≡ length P.methods = sym (length-map c.methods.result.now method_of) ∙ ap length c.methods.ensures in
    let few = few_sets P c.in_ok-sets.sets (length c.methods.result.now) c.in_ok-sets.ensures all c.in-None.ensures.none in
    well_formed_first P m (c.in_ok-sets.sets, c.in_ok-sets.ensures, few) first
