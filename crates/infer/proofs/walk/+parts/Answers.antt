-- The rule of a part from the values that are put for its parts, and one value more.
use Rattle.std.proofs.Common.{◌≡◌, ◌++◌, ◌∷◌, [], map, drop, append-nil, append_assoc, refl, sym, ap, subst, ◌∙◌, arith}
use Rattle.std.specs.Prelude.{Contains}
use Rattle.std.proofs.lemmas.List.Elements.{Contains-append_left, Contains-append_right}
use Rattle.effects.specs.Bodies.{list_of, part_of}
use Rattle.effects.specs.Rules.{AreAllKnown}
use Rattle.effects.specs.Effects.{effects_of}
use Rattle.effects.proofs.Sizes.{size_parts, parts_smaller}
use Rattle.effects.proofs.Values.{keeps_both, keeps_itself}
use Rattle.infer.specs.Bodies.{program_at, rel_at, assigned_at, part_mentions, parts_mentions}
use Rattle.infer.proofs.Walks.{inner_in, known_on, known_more, effects_more, behind_is, before_is, part_is}
use Rattle.infer.proofs.walk.+parts.Goals as goal

pub part_value-put_values-requires : goal.part_value-put_values-requires
part_value-put_values-requires g t c κs within = (
  omega (arith, parts_smaller (part_of c.args.part), ap size_parts c.inner_parts.ensures),
  (
    within.0,
    (
      within.1,
      (
        c.requires.relevant,
        (λ y has. c.requires.part y (inner_in (part_of c.args.part) y (subst (λ xs. Contains (parts_mentions xs) y) c.inner_parts.ensures has))),
      ),
    ),
  ),
)

pub put_values-part_value-requires : goal.put_values-part_value-requires
put_values-part_value-requires g t c κs within = (
  omega (arith, ap size_parts c.in-Some.ensures.some, c.parts.invariant.smaller),
  (
    within.0,
    (
      within.1,
      (
        c.requires.relevant,
        (λ y has. c.parts.invariant.body y (subst (λ xs. Contains (parts_mentions xs) y) (sym c.in-Some.ensures.some)
            (Contains-append_left (part_mentions (part_of c.in-Some.part)) (parts_mentions (list_of c.in-Some.others)) y has))),
      ),
    ),
  ),
)

pub put_values-parts-init : goal.put_values-parts-init
put_values-parts-init g t c = record {
  smaller = omega arith;
  body = c.requires.parts;
  more = [];
  are = sym (append-nil c.args.values.now.items);
  known = tt;
  effects = refl;
  keeps = keeps_itself g.G.Algebra.IsKnown g.G.Algebra.value c.args.algebra.now;
}

pub put_values-parts-smaller : goal.put_values-parts-smaller
put_values-parts-smaller g t c = omega (arith, ap size_parts c.in-Some.ensures.some, parts_smaller (part_of c.in-Some.part))

pub put_values-parts-preserved : goal.put_values-parts-preserved
put_values-parts-preserved g t c =
    let k = g.G.Algebra.IsKnown in
    let v = g.G.Algebra.value in
    let w = c.args.walk.now in
    let i = c.parts.invariant in
    let old = c.parts.algebra in
    let new = c.part_value.new.algebra in
    let part = part_of c.in-Some.part in
    let others = list_of c.in-Some.others in
    let value = c.in_ok-value.value in
    record {
      smaller = omega (arith, ap size_parts c.in-Some.ensures.some, i.smaller);
      body = λ y has. i.body y (subst (λ xs. Contains (parts_mentions xs) y) (sym c.in-Some.ensures.some) (Contains-append_right (part_mentions part) (parts_mentions others) y has));
      more = i.more ++ (value ∷ []);
      are = c.in_ok-push.ensures.items ∙ ap (λ xs. xs ++ (value ∷ [])) (c.in_ok-value.ensures.values ∙ i.are) ∙ append_assoc c.args.values.now.items i.more (value ∷ []);
      known = known_more k v new i.more value (known_on k v old new i.more c.part_value.ensures.keeps i.known) c.in_ok-value.ensures.known;
      effects = effects_more k v (program_at w) (rel_at w) (assigned_at w) old new i.more value part others
          (effects_of (program_at w) (rel_at w) (assigned_at w) (list_of c.args.parts)) c.part_value.ensures.keeps i.known c.in_ok-value.ensures.value
          (subst (λ xs. map (v old) i.more ++ effects_of (program_at w) (rel_at w) (assigned_at w) xs ≡ effects_of (program_at w) (rel_at w) (assigned_at w) (list_of c.args.parts))
          c.in-Some.ensures.some i.effects);
      keeps = keeps_both k v c.args.algebra.now old new i.keeps c.part_value.ensures.keeps;
    }

pub put_values-returns-clause-values : goal.put_values-returns-clause-values
put_values-returns-clause-values g t c =
    let v = g.G.Algebra.value in
    let w = c.args.walk.now in
    let i = c.parts.invariant in
    record {
      more = i.more;
      are = i.are;
      known = i.known;
      effects = sym (append-nil (map (v c.parts.algebra) i.more))
          ∙ subst (λ xs. map (v c.parts.algebra) i.more ++ effects_of (program_at w) (rel_at w) (assigned_at w) xs ≡ effects_of (program_at w) (rel_at w) (assigned_at w) (list_of c.args.parts))
          c.in_default.ensures.none i.effects;
    }

pub part_value-rule-requires-clause-values : goal.part_value-rule-requires-clause-values
part_value-rule-requires-clause-values g t c =
    let put = c.in_ok-put_values.ensures.values in
    subst (AreAllKnown g.G.Algebra.IsKnown c.put_values.new.algebra)
    (sym (behind_is c.args.values.now.items c.put_values.new.values.items put.more c.behind.result.now c.len-from.result (omega (arith, c.len-from.ensures, c.args.values.now.ok)) put.are
    (c.behind.ensures ∙ ap (drop c.len-from.result) c.as_slice.ensures.value))) put.known

pub part_value-returns-clause-value : goal.part_value-returns-clause-value
part_value-returns-clause-value g t c =
    let v = g.G.Algebra.value in
    let w = c.args.walk.now in
    let put = c.in_ok-put_values.ensures.values in
    let seen = behind_is c.args.values.now.items c.put_values.new.values.items put.more c.behind.result.now c.len-from.result (omega (arith, c.len-from.ensures, c.args.values.now.ok)) put.are
    (c.behind.ensures ∙ ap (drop c.len-from.result) c.as_slice.ensures.value) in
    λ H. part_is (program_at w) w.sets.now (assigned_at w) w.method (part_of c.args.part) (list_of c.inner_parts.result) (map (v c.put_values.new.algebra) c.behind.result.now)
    (v c.rule.new.algebra c.in_ok-value.value H) H c.requires.relevant c.requires.part c.inner_parts.ensures
    (ap (map (v c.put_values.new.algebra)) seen ∙ put.effects) (c.in_ok-value.ensures.value H)

pub part_value-returns-clause-values : goal.part_value-returns-clause-values
part_value-returns-clause-values g t c =
    let put = c.in_ok-put_values.ensures.values in
    before_is c.args.values.now.items c.put_values.new.values.items put.more c.truncate.new.self.items c.len-from.result (omega (arith, c.len-from.ensures, c.args.values.now.ok)) put.are c.truncate.ensures.items
