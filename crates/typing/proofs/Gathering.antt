-- Parts that are gathered one after the other, and what the rest of them gives.
use Rattle.std.proofs.Common.{◌≡◌, List, [], ◌∷◌, ◌++◌, Option, Some, None, option_map, map, refl, ap, sym, ◌∙◌}
use Rattle.std.proofs.lemmas.List.{append_assoc, map-append}
use Rattle.typing.specs.Rulings.{both}
use Rattle.typing.specs.Gathered.{one_more, appended}
use Rattle.typing.specs.Programs.{all_there}

module _ {A B R : Type 0} (view : A → B) (link : B × R → R) where
  -- a part before what the rest gives
  abbrev pub linked : Option A → Option R → Option R
  linked part rest = option_map link (both (option_map view part) rest)

  abbrev pub before_rest : List A → Option R → Option R
  before_rest [] rest = rest
  before_rest (a ∷ parts) rest = linked (Some a) (before_rest parts rest)

  -- parts that were gathered, before what the rest gives
  abbrev pub so_far : Option (List A) → Option R → Option R
  so_far None rest = None
  so_far (Some parts) rest = before_rest parts rest

  missing_part : (parts : List A) → before_rest parts None ≡ None
  missing_part [] = refl
  missing_part (a ∷ parts) = ap (linked (Some a)) (missing_part parts)

  part_after : (parts : List A) (a : A) (rest : Option R) → before_rest (parts ++ a ∷ []) rest ≡ before_rest parts (linked (Some a) rest)
  part_after [] a rest = refl
  part_after (b ∷ parts) a rest = ap (linked (Some b)) (part_after parts a rest)

  pub so_far_more : (parts : Option (List A)) (part : Option A) (rest : Option R) → so_far (one_more parts part) rest ≡ so_far parts (linked part rest)
  so_far_more None part rest = refl
  so_far_more (Some parts) None rest = sym (missing_part parts)
  so_far_more (Some parts) (Some a) rest = part_after parts a rest

-- ---- lists none of whose parts may be missing

abbrev pub joined : {T : Type 0} → Option T → Option (List T) → Option (List T)
joined part rest = option_map (λ p. p.0 ∷ p.1) (both part rest)

pub appended_more : {T : Type 0} (parts : Option (List T)) (part : Option T) (rest : Option (List T)) → appended (one_more parts part) rest ≡ appended parts (joined part rest)
appended_more None part rest = refl
appended_more (Some parts) None rest = refl
appended_more (Some parts) (Some a) None = refl
appended_more (Some parts) (Some a) (Some rest) = ap Some (append_assoc parts (a ∷ []) rest)

pub none_appended : {T : Type 0} (parts : Option (List T)) → appended (Some []) parts ≡ parts
none_appended None = refl
none_appended (Some parts) = refl

pub appended_assoc : {T : Type 0} (a b c : Option (List T)) → appended (appended a b) c ≡ appended a (appended b c)
appended_assoc None b c = refl
appended_assoc (Some a) None c = refl
appended_assoc (Some a) (Some b) None = refl
appended_assoc (Some a) (Some b) (Some c) = ap Some (append_assoc a b c)

appended_joined : {T : Type 0} (a : Option T) (b c : Option (List T)) → appended (joined a b) c ≡ joined a (appended b c)
appended_joined None b c = refl
appended_joined (Some a) None c = refl
appended_joined (Some a) (Some b) None = refl
appended_joined (Some a) (Some b) (Some c) = refl

pub all_there_append : {T : Type 0} (xs ys : List (Option T)) → all_there (xs ++ ys) ≡ appended (all_there xs) (all_there ys)
all_there_append [] ys = sym (none_appended (all_there ys))
all_there_append (x ∷ xs) ys = ap (joined x) (all_there_append xs ys) ∙ sym (appended_joined x (all_there xs) (all_there ys))

pub viewed_more : {A B : Type 0} (view : A → B) (parts : Option (List A)) (part : Option A) → option_map (map view) (one_more parts part) ≡ one_more (option_map (map view) parts) (option_map view part)
viewed_more view None part = refl
viewed_more view (Some parts) None = refl
viewed_more view (Some parts) (Some a) = ap Some (map-append view parts (a ∷ []))
