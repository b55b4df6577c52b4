-- The first fault of a class, of classes and of a program from those of their parts.
use Rattle.std.proofs.Common.{◌≡◌, ℕ, ◌+◌, ◌<◌, suc, Bool, false, not, ◌||◌, List, [], ◌∷◌, ◌++◌, map, flat_map, drop, get_or, length, Option, ap, sym, ◌∙◌, slice_get, arith, if◌then◌else◌}
use Rattle.std.specs.Prelude.{Result, Ok, Err, IfOk}
use Rattle.std.proofs.Math.Seq.{drop-cons}
use Rattle.syntax.specs.declared.tree.Class.{Class}
use Rattle.syntax.specs.Trees.{MemberTree, ClassTree, ProgramTree}
use Rattle.syntax.specs.Views.{class_of}
use Rattle.classes.specs.declared.fault.ClassFault.{ClassFault}
use Rattle.classes.specs.Limits.{most_class_fields}
use Rattle.classes.specs.declared.fault.ClassFault.TheVariants.{NoRun, Twice}
use Rattle.classes.specs.Names.{has_text, distinct, repeats_after, texts_of}
use Rattle.classes.specs.Members.{class_names, field_names, method_names, finals_of}
use Rattle.classes.specs.Lines.{is_on_circle, ancestor_classes, inherited, all_members, says_so}
use Rattle.classes.specs.Climbs.{HaveSameFields, have_run}
use Rattle.classes.specs.Overriding.{Heading, headings_at}
use Rattle.classes.specs.Faults.{twice_faults, field_faults, above_faults, member_all_class_faults, missing_constructor, constructor_faults, missing_run, too_many_faults, circle_faults, override_faults, is_class_in, other_faults, class_faults, class_faults_from}
use Rattle.classes.specs.Noted.{noted}
use Rattle.classes.proofs.Noting.{noted_append}
use Rattle.classes.proofs.Leasts.{same_tests}

two : (first f g : Option ClassFault) (xs ys : List ClassFault) → f ≡ noted first xs → g ≡ noted f ys → g ≡ noted first (xs ++ ys)
two first f g xs ys a b = b ∙ ap (λ z. noted z ys) a ∙ sym (noted_append first xs ys)

-- the faults of a class but for the names of its fields, by what they are found from
abbrev others : ClassTree → (List ℕ → Bool) → List MemberTree → Bool → Bool → (ℕ → List Heading) → List ℕ → ℕ → List ClassFault
others c test ms counting circular methods along k =
    twice_faults (method_names c.members)
    ++ above_faults test c.above
    ++ flat_map (member_all_class_faults test) c.members
    ++ missing_constructor c.name (finals_of ms) c.members
    ++ constructor_faults c.name (finals_of ms) false c.members
    ++ missing_run c.name counting ms
    ++ too_many_faults (slice_get (field_names ms) most_class_fields)
    ++ circle_faults c.name circular
    ++ override_faults methods along (methods k)

pub others_noted : (tree : ProgramTree) (k : ℕ) (c : ClassTree) (members : List MemberTree) (names : List (List ℕ)) (ms : List MemberTree) (counting running circular : Bool) (methods : ℕ → List Heading) (along : List ℕ)
    (f0 f1 f2 f3 f4 f5 f6 f7 f8 f9 : Option ClassFault)
    → members ≡ c.members → names ≡ distinct (class_names tree) → HaveSameFields ms (all_members tree k) → counting ≡ says_so tree k → running ≡ have_run (all_members tree k) → circular ≡ is_on_circle tree k → methods ≡ headings_at tree → along ≡ ancestor_classes tree k
    → f1 ≡ noted f0 (twice_faults (method_names members))
    → f2 ≡ noted f1 (above_faults (has_text names) c.above)
    → f3 ≡ noted f2 (flat_map (member_all_class_faults (has_text names)) members)
    → f4 ≡ noted f3 (missing_constructor c.name (finals_of ms) members)
    → f5 ≡ noted f4 (constructor_faults c.name (finals_of ms) false members)
    → f6 ≡ noted f5 (if not counting || running then [] else NoRun c.name.at ∷ [])
    → f7 ≡ noted f6 (too_many_faults (slice_get (field_names ms) most_class_fields))
    → f8 ≡ noted f7 (circle_faults c.name circular)
    → f9 ≡ noted f8 (override_faults methods along (methods k))
    → f9 ≡ noted f0 (other_faults tree k c)
others_noted tree k c members names ms counting running circular methods along f0 f1 f2 f3 f4 f5 f6 f7 f8 f9 own e m n run o r l h1 h2 h3 h4 h5 h6 h7 h8 h9 =
    let x1 = twice_faults (method_names c.members) in
    let x2 = above_faults (has_text names) c.above in
    let x3 = flat_map (member_all_class_faults (has_text names)) c.members in
    let all = all_members tree k in
    let x4 = missing_constructor c.name (finals_of all) c.members in
    let x5 = constructor_faults c.name (finals_of all) false c.members in
    let x6 = missing_run c.name counting all in
    let x7 = too_many_faults (slice_get (field_names all) most_class_fields) in
    let x8 = circle_faults c.name circular in
    let x9 = override_faults methods along (methods k) in
    let g1 : f1 ≡ noted f0 x1 = h1 ∙ ap (λ z. noted f0 (twice_faults (method_names z))) own in
    let g3 : f3 ≡ noted f2 x3 = h3 ∙ ap (λ z. noted f2 (flat_map (member_all_class_faults (has_text names)) z)) own in
    let g4 : f4 ≡ noted f3 x4 = h4 ∙ ap (λ z. noted f3 (missing_constructor c.name (finals_of ms) z)) own ∙ ap (λ z. noted f3 (missing_constructor c.name z c.members)) m.finals in
    let g5 : f5 ≡ noted f4 x5 = h5 ∙ ap (λ z. noted f4 (constructor_faults c.name (finals_of ms) false z)) own ∙ ap (λ z. noted f4 (constructor_faults c.name z false c.members)) m.finals in
    let g6 : f6 ≡ noted f5 x6 = h6 ∙ ap (λ b. noted f5 (if not counting || b then [] else NoRun c.name.at ∷ [])) run in
    let g7 : f7 ≡ noted f6 x7 = h7 ∙ ap (λ z. noted f6 (too_many_faults (slice_get z most_class_fields))) m.names in
    let t2 = two f0 f1 f2 x1 x2 g1 h2 in
    let t3 = two f0 f2 f3 (x1 ++ x2) x3 t2 g3 in
    let t4 = two f0 f3 f4 (x1 ++ x2 ++ x3) x4 t3 g4 in
    let t5 = two f0 f4 f5 (x1 ++ x2 ++ x3 ++ x4) x5 t4 g5 in
    let t6 = two f0 f5 f6 (x1 ++ x2 ++ x3 ++ x4 ++ x5) x6 t5 g6 in
    let t7 = two f0 f6 f7 (x1 ++ x2 ++ x3 ++ x4 ++ x5 ++ x6) x7 t6 g7 in
    let t8 = two f0 f7 f8 (x1 ++ x2 ++ x3 ++ x4 ++ x5 ++ x6 ++ x7) x8 t7 h8 in
    let t9 : f9 ≡ noted f0 (others c (has_text names) all counting circular methods along k) = two f0 f8 f9 (x1 ++ x2 ++ x3 ++ x4 ++ x5 ++ x6 ++ x7 ++ x8) x9 t8 h9 in
    let tests : has_text names ≡ is_class_in tree = ap has_text e ∙ same_tests (class_names tree) in
    t9
    ∙ ap (λ z. noted f0 (others c z all counting circular methods along k)) tests
    ∙ ap (λ z. noted f0 (others c (is_class_in tree) (all_members tree k) z circular methods along k)) n
    ∙ ap (λ z. noted f0 (others c (is_class_in tree) (all_members tree k) (says_so tree k) z methods along k)) o
    ∙ ap (λ z. noted f0 (others c (is_class_in tree) (all_members tree k) (says_so tree k) (is_on_circle tree k) z along k)) r
    ∙ ap (λ z. noted f0 (others c (is_class_in tree) (all_members tree k) (says_so tree k) (is_on_circle tree k) (headings_at tree) z k)) l

pub class_noted : (tree : ProgramTree) (k : ℕ) (c : ClassTree) (members before : List MemberTree) (first f g : Option ClassFault) → members ≡ c.members → field_names before ≡ field_names (inherited tree k)
    → f ≡ noted first (field_faults before members) → g ≡ noted f (other_faults tree k c) → g ≡ noted first (class_faults tree k c)
class_noted tree k c members before first f g own is one later =
    two first f g (field_faults (inherited tree k) c.members) (other_faults tree k c)
    (one ∙ ap (λ z. noted first (map Twice (repeats_after (texts_of z) (field_names members)))) is ∙ ap (λ z. noted first (field_faults (inherited tree k) z)) own) later

pub class_result : {E : Type 0} (tree : ProgramTree) (k : ℕ) (c : ClassTree) (members before : List MemberTree) (first f : Option ClassFault) (result : Result (Option ClassFault) E)
    → members ≡ c.members → field_names before ≡ field_names (inherited tree k) → f ≡ noted first (field_faults before members) → IfOk result (λ g. g ≡ noted f (other_faults tree k c))
    → IfOk result (λ g. g ≡ noted first (class_faults tree k c))
class_result tree k c members before first f (Ok g) own is one later = class_noted tree k c members before first f g own is one later
class_result tree k c members before first f (Err e) own is one later = tt

next_classes : (xs : List Class) (i : ℕ) (x : Class) → i < length xs → get_or xs i x ≡ x → map class_of (drop i xs) ≡ class_of x ∷ map class_of (drop (i + 1) xs)
next_classes xs i x within at =
    let next : suc i ≡ i + 1 = omega arith in
    ap (map class_of) (drop-cons xs i x within ∙ ap (λ z. z ∷ drop (suc i) xs) at ∙ ap (λ n. x ∷ drop n xs) next)

pub classes_step : (tree : ProgramTree) (xs : List Class) (i : ℕ) (x : Class) (found next all : Option ClassFault) → i < length xs → get_or xs i x ≡ x
    → noted found (class_faults_from tree i (map class_of (drop i xs))) ≡ all → next ≡ noted found (class_faults tree i (class_of x))
    → noted next (class_faults_from tree (i + 1) (map class_of (drop (i + 1) xs))) ≡ all
classes_step tree xs i x found next all within at so_far is =
    ap (λ z. noted z (class_faults_from tree (i + 1) (map class_of (drop (i + 1) xs)))) is
    ∙ sym (noted_append found (class_faults tree i (class_of x)) (class_faults_from tree (i + 1) (map class_of (drop (i + 1) xs))))
    ∙ ap (λ z. noted found (class_faults_from tree i z)) (sym (next_classes xs i x within at))
    ∙ so_far
