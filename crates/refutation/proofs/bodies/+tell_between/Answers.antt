-- One basic everywhere, the half with a path that is held, or both halves.
use Rattle.std.proofs.Common.{rules, ◌≡◌, ◌+◌, ◌++◌, ◌∷◌, true, length, sym, ap, subst, ◌∙◌, arith}
use Rattle.std.proofs.lemmas.List.{nil_from_length}
use Rattle.std.proofs.lemmas.Result.{on_ok_weaker}
use Rattle.algebra.specs.HeldPaths.{has_path}
use Rattle.algebra.specs.Tables.{count_of_parts}
use Rattle.core_program.specs.Views.{program_of}
use Rattle.rules.specs.Near.{rel_of}
use Rattle.refutation.specs.Bodies.{TellsBetween, body_under}
use Rattle.refutation.specs.Tables.{said_by}
use Rattle.refutation.proofs.BodyTables.{alone_tells, filled_tells, halves_tell, half_tells, most_held, most_more}
use Rattle.refutation.proofs.bodies.+tell_between.Goals as goal

pub returns-in_default : goal.returns-in_default
returns-in_default t c =
    let look = c.args.look.now in
    alone_tells (program_of look.judged.now.program.now) (rel_of look.judged.now.sets.now) (said_by (rel_of look.floors.now.sets.now) look.floors.now.tables.items) look.method c.requires.falls
    c.args.others.now c.args.held.now c.args.table.now c.fill.new.table c.args.ends.fewest c.args.ends.most (nil_from_length c.args.others.now c.in_default.ensures.cases) c.requires.size c.fill.ensures c.requires.fewest c.requires.most

pub returns-then-below : goal.returns-then-below
returns-then-below t c =
    let look = c.args.look.now in
    filled_tells (program_of look.judged.now.program.now) (rel_of look.judged.now.sets.now) (said_by (rel_of look.floors.now.sets.now) look.floors.now.tables.items) look.method c.requires.falls
    c.args.others.now c.args.held.now c.args.table.now c.fill-then-below.new.table c.args.ends.fewest c.args.ends.most c.requires.size c.fill-then-below.ensures c.requires.fewest c.requires.most (sym c.below.ensures ∙ c.if-below.true)

pub tell_between-requires : goal.tell_between-requires
tell_between-requires t c =
    let look = c.args.look.now in
    let P = program_of look.judged.now.program.now in
    let rel = rel_of look.judged.now.sets.now in
    let A = said_by (rel_of look.floors.now.sets.now) look.floors.now.tables.items in
    let held = c.args.held.now in
    let p = c.in-Some.path.now in
    let behind = c.in-Some.behind.now in
    let e : c.args.others.now ≡ p ∷ behind = search rules in
    let two : count_of_parts c.args.others.now ≡ count_of_parts behind + count_of_parts behind = ap count_of_parts e in
    let size : length c.split_at_mut-without.result.1.now ≡ count_of_parts behind = omega (arith, two, c.requires.size, c.split_at_mut-without.ensures.back_len) in
    let has : has_path held p ≡ true = sym c.has.ensures ∙ c.if-has.true in
    let most : c.args.ends.most ≡ body_under P rel A look.method (has_path ((p ∷ behind) ++ held)) = c.requires.most ∙ ap (λ xs. body_under P rel A look.method (has_path (xs ++ held))) e in
    (omega (arith, c.decreases, ap length e), (c.requires.falls, (size, (c.requires.fewest, most_held P rel A look.method c.requires.falls p behind held c.args.ends.most has most))))

pub returns-then-has : goal.returns-then-has
returns-then-has t c =
    let look = c.args.look.now in
    let P = program_of look.judged.now.program.now in
    let rel = rel_of look.judged.now.sets.now in
    let A = said_by (rel_of look.floors.now.sets.now) look.floors.now.tables.items in
    let held = c.args.held.now in
    let p = c.in-Some.path.now in
    let behind = c.in-Some.behind.now in
    let w = c.split_at_mut-without.result.0.now in
    let v = c.tell_between.new.table in
    let e : c.args.others.now ≡ p ∷ behind = search rules in
    let two : count_of_parts c.args.others.now ≡ count_of_parts behind + count_of_parts behind = ap count_of_parts e in
    let size : length w ≡ length v = omega (arith, two, c.requires.size, c.split_at_mut-without.ensures.front_len, c.split_at_mut-without.ensures.back_len, c.tell_between.auto.table) in
    let has : has_path held p ≡ true = sym c.has.ensures ∙ c.if-has.true in
    on_ok_weaker c.tell_between.result
    (λ tells. subst (λ xs. TellsBetween P rel A look.method xs held (w ++ v)) (sym e) (half_tells P rel A look.method c.requires.falls p behind held w v size has tells))
    c.tell_between.ensures

pub body_without-requires : goal.body_without-requires
body_without-requires t c =
    let look = c.args.look.now in
    let P = program_of look.judged.now.program.now in
    let rel = rel_of look.judged.now.sets.now in
    let A = said_by (rel_of look.floors.now.sets.now) look.floors.now.tables.items in
    let held = c.args.held.now in
    let p = c.in-Some.path.now in
    let behind = c.in-Some.behind.now in
    let e : c.args.others.now ≡ p ∷ behind = search rules in
    let most : c.args.ends.most ≡ body_under P rel A look.method (has_path ((p ∷ behind) ++ held)) = c.requires.most ∙ ap (λ xs. body_under P rel A look.method (has_path (xs ++ held))) e in
    most_more P rel A look.method c.requires.falls p behind held c.args.ends.most most
    ∙ ap (λ hs. body_under P rel A look.method (has_path (behind ++ hs))) (sym (c.as_slice.ensures.value ∙ c.in_ok-more.ensures))

pub tell_between-requires-3 : goal.tell_between-requires-3
tell_between-requires-3 t c =
    let look = c.args.look.now in
    let P = program_of look.judged.now.program.now in
    let rel = rel_of look.judged.now.sets.now in
    let A = said_by (rel_of look.floors.now.sets.now) look.floors.now.tables.items in
    let held = c.args.held.now in
    let p = c.in-Some.path.now in
    let behind = c.in-Some.behind.now in
    let e : c.args.others.now ≡ p ∷ behind = search rules in
    let two : count_of_parts c.args.others.now ≡ count_of_parts behind + count_of_parts behind = ap count_of_parts e in
    let size : length c.split_at_mut-without.result.1.now ≡ count_of_parts behind = omega (arith, two, c.requires.size, c.split_at_mut-without.ensures.back_len) in
    let most : c.args.ends.most ≡ body_under P rel A look.method (has_path ((p ∷ behind) ++ held)) = c.requires.most ∙ ap (λ xs. body_under P rel A look.method (has_path (xs ++ held))) e in
    let fewest = c.in_ok-fewest.ensures ∙ ap (λ hs. body_under P rel A look.method (has_path hs)) (c.as_slice.ensures.value ∙ sym c.as_slice-2.ensures.value) in
    let all = most_more P rel A look.method c.requires.falls p behind held c.args.ends.most most
    ∙ ap (λ hs. body_under P rel A look.method (has_path (behind ++ hs))) (sym (c.as_slice-2.ensures.value ∙ c.in_ok-more.ensures)) in
    (omega (arith, c.decreases, ap length e), (c.requires.falls, (size, (fewest, all))))

pub returns : goal.returns
returns t c =
    let look = c.args.look.now in
    let P = program_of look.judged.now.program.now in
    let rel = rel_of look.judged.now.sets.now in
    let A = said_by (rel_of look.floors.now.sets.now) look.floors.now.tables.items in
    let held = c.args.held.now in
    let p = c.in-Some.path.now in
    let behind = c.in-Some.behind.now in
    let w = c.tell_between-2.new.table in
    let v = c.tell_between-3.new.table in
    let e : c.args.others.now ≡ p ∷ behind = search rules in
    let two : count_of_parts c.args.others.now ≡ count_of_parts behind + count_of_parts behind = ap count_of_parts e in
    let size : length w ≡ length v =
    omega (arith, two, c.requires.size, c.split_at_mut-without.ensures.front_len, c.split_at_mut-without.ensures.back_len, c.tell_between-2.auto.table, c.tell_between-3.auto.table) in
    on_ok_weaker c.tell_between-3.result
    (λ tells. subst (λ xs. TellsBetween P rel A look.method xs held (w ++ v)) (sym e)
    (halves_tell P rel A look.method c.requires.falls p behind held w v size c.in_ok-tell_between.ensures
    (subst (λ hs. TellsBetween P rel A look.method behind hs v) (c.as_slice-2.ensures.value ∙ c.in_ok-more.ensures) tells)))
    c.tell_between-3.ensures
