-- Reducible words and their test.
use Rattle.std.proofs.Common.{◌≡◌, true, List, [], ◌∷◌, ◌++◌, ◌&&◌, length, refl, sym, ap, subst, ◌∙◌, ◌≤◌, arith, append-nil}
use Rattle.std.specs.List.{list_all}
use Rattle.state.specs.declared.value.StepKind.{StepKind}
use Rattle.state.specs.declared.value.StepKind.TheVariants.{Both, Right, Left, Other, Bare}
use Rattle.semantics.specs.Words.{IsReducible, IsReduciblePrefix, is_reducible, moves_right, moves_left, is_other}

-- one more kind before a reducible word
one_more : (k : StepKind) (ks : List StepKind) → moves_right k ≡ true → IsReducible ks → IsReducible (k ∷ ks)
one_more k ks right r = record {
  before = k ∷ r.before;
  middle = r.middle;
  after = r.after;
  is = ap (λ w. k ∷ w) r.is;
  before_right = subst (λ b. (b && list_all moves_right r.before) ≡ true) (sym right) r.before_right;
  middle_one = r.middle_one;
  middle_other = r.middle_other;
  after_left = r.after_left;
}

pub reducible_is : (word : List StepKind) → is_reducible word ≡ true → IsReducible word
reducible_is [] e = record { before = []; middle = []; after = []; is = refl; before_right = refl; middle_one = omega arith; middle_other = refl; after_left = refl }
reducible_is (Both ∷ ks) e = one_more Both ks refl (reducible_is ks e)
reducible_is (Right ∷ ks) e = one_more Right ks refl (reducible_is ks e)
reducible_is (Left ∷ ks) e = record { before = []; middle = []; after = Left ∷ ks; is = refl; before_right = refl; middle_one = omega arith; middle_other = refl; after_left = e }
reducible_is (Other ∷ ks) e = record { before = []; middle = Other ∷ []; after = ks; is = refl; before_right = refl; middle_one = omega arith; middle_other = refl; after_left = e }
reducible_is (Bare ∷ ks) e = absurd cc

pub left_reducible : (after : List StepKind) → list_all moves_left after ≡ true → is_reducible after ≡ true
left_reducible [] e = refl
left_reducible (Both ∷ ks) e = left_reducible ks e
left_reducible (Left ∷ ks) e = e
left_reducible (Right ∷ ks) e = absurd cc
left_reducible (Other ∷ ks) e = absurd cc
left_reducible (Bare ∷ ks) e = absurd cc

middle_reducible : (middle after : List StepKind) → length middle ≤ 1 → list_all is_other middle ≡ true → list_all moves_left after ≡ true → is_reducible (middle ++ after) ≡ true
middle_reducible [] after one other left = left_reducible after left
middle_reducible (Other ∷ []) after one other left = left
middle_reducible (Other ∷ k ∷ ks) after one other left = absurd (omega arith)
middle_reducible (Both ∷ ks) after one other left = absurd cc
middle_reducible (Left ∷ ks) after one other left = absurd cc
middle_reducible (Right ∷ ks) after one other left = absurd cc
middle_reducible (Bare ∷ ks) after one other left = absurd cc

parts_reducible : (before middle after : List StepKind) → list_all moves_right before ≡ true → length middle ≤ 1 → list_all is_other middle ≡ true → list_all moves_left after ≡ true → is_reducible (before ++ (middle ++ after)) ≡ true
parts_reducible [] middle after right one other left = middle_reducible middle after one other left
parts_reducible (Both ∷ ks) middle after right one other left = parts_reducible ks middle after right one other left
parts_reducible (Right ∷ ks) middle after right one other left = parts_reducible ks middle after right one other left
parts_reducible (Left ∷ ks) middle after right one other left = absurd cc
parts_reducible (Other ∷ ks) middle after right one other left = absurd cc
parts_reducible (Bare ∷ ks) middle after right one other left = absurd cc

pub is_reducible_of : (word : List StepKind) → IsReducible word → is_reducible word ≡ true
is_reducible_of word r = ap is_reducible r.is ∙ parts_reducible r.before r.middle r.after r.before_right r.middle_one r.middle_other r.after_left

left_front : (ks rest : List StepKind) → list_all moves_left (ks ++ rest) ≡ true → list_all moves_left ks ≡ true
left_front [] rest e = refl
left_front (Both ∷ ks) rest e = left_front ks rest e
left_front (Left ∷ ks) rest e = left_front ks rest e
left_front (Right ∷ ks) rest e = absurd cc
left_front (Other ∷ ks) rest e = absurd cc
left_front (Bare ∷ ks) rest e = absurd cc

front_reducible : (word rest : List StepKind) → is_reducible (word ++ rest) ≡ true → is_reducible word ≡ true
front_reducible [] rest e = refl
front_reducible (Both ∷ ks) rest e = front_reducible ks rest e
front_reducible (Right ∷ ks) rest e = front_reducible ks rest e
front_reducible (Left ∷ ks) rest e = left_front ks rest e
front_reducible (Other ∷ ks) rest e = left_front ks rest e
front_reducible (Bare ∷ ks) rest e = e

pub prefix_is : (word : List StepKind) → IsReduciblePrefix word → IsReducible word
prefix_is word p = reducible_is word (front_reducible word p.rest (is_reducible_of _ p.whole))

pub is_prefix : (word : List StepKind) → IsReducible word → IsReduciblePrefix word
is_prefix word r = record { rest = []; whole = subst IsReducible (sym (append-nil word)) r }
