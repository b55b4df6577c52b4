-- How the relevant paths of a method stand to those of one that it overrides, and what its table then says.
use Rattle.std.proofs.Common.{◌≡◌, ℕ, true, List, [], ◌∷◌, ◌++◌, sym, ap, subst, ◌∙◌, append_assoc}
use Rattle.paths.specs.Paths.{PathData, path_eq}
use Rattle.paths.proofs.PathOrder.{eq_is}
use Rattle.algebra.specs.declared.basic.Basic.{Basic}
use Rattle.algebra.specs.HeldPaths.{Held, has_path}
use Rattle.algebra.specs.Tables.{half_table}
use Rattle.rules.specs.Rules.{IsSubset, AtMost}
use Rattle.rules.specs.Search.{row_at}
use Rattle.refutation.specs.Overs.{SaysNoMore}
use Rattle.refutation.specs.Steps.{IsAlong, entry_along}
use Rattle.refutation.specs.Tables.{said_by, table_entry}
use Rattle.refutation.specs.declared.steps.Step.{Step}
use Rattle.refutation.specs.declared.steps.Step.TheVariants.{Both}
use Rattle.refutation.proofs.Reached.{said_in}

-- One step more.

module _ (whole rel its : List PathData) (old between new : List Step) where
  -- the steps up to a new one, and those behind it
  steps_are : (step : Step) (more : List Step) → between ≡ old ++ step ∷ [] → new ≡ between ++ more → new ≡ old ++ step ∷ more
  steps_are step more put are = are ∙ ap (λ steps. steps ++ more) put ∙ append_assoc old (step ∷ []) more

  -- both have the path
  pub along_both : (rest behind : List PathData) (p q : PathData) → rel ≡ p ∷ rest → its ≡ q ∷ behind → path_eq p q ≡ true → between ≡ old ++ Both ∷ [] → IsAlong whole rest behind between new → IsAlong whole rel its old new
  along_both rest behind p q is begins same put along = record {
    more = Both ∷ along.more;
    are = steps_are Both along.more put along.are;
    tells = λ table H part.
        ap (λ r. entry_along (Both ∷ along.more) r table H) is ∙ along.tells (half_table (H p) table) H part
        ∙ ap (λ x. table_entry behind (half_table (H x) table) H) (eq_is p q same) ∙ ap (λ r. table_entry r table H) (sym begins);
  }

-- from the front on
pub along_is : (rel its : List PathData) (none steps : List Step) → none ≡ [] → IsAlong rel rel its none steps → (table : List Basic) (H : Held) → IsSubset H (has_path rel) → entry_along steps rel table H ≡ table_entry its table H
along_is rel its none steps begun along table H part = ap (λ ss. entry_along ss rel table H) (along.are ∙ ap (λ ss. ss ++ along.more) begun) ∙ along.tells table H part

-- no more is said of a method than of another
pub no_more_said : (rel : ℕ → List PathData) (rows : List (List Basic)) (m n : ℕ) (its ours : List PathData) (from table : List Basic) (none steps : List Step) → its ≡ rel m → ours ≡ rel n → from ≡ row_at rows m → table ≡ row_at rows n → none ≡ []
    → IsAlong ours ours its none steps → ((H : Held) → AtMost (entry_along steps ours from H) (table_entry ours table H)) → SaysNoMore rel (said_by rel rows) m n
no_more_said rel rows m n its ours from table none steps is are put there begun along low H inside =
    subst (λ b. AtMost b (said_by rel rows n H)) (sym (said_in rel rows m H))
    (subst (λ X. X) (λ i. AtMost (table_entry (is i) (put i) H) (table_entry (are i) (there i) H))
    (subst (λ b. AtMost b (table_entry ours table H)) (along_is ours its none steps begun along from H (subst (λ ps. IsSubset H (has_path ps)) (sym are) inside)) (low H)))
