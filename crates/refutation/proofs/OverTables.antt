-- Tables of what is said of all methods that override one.
use Rattle.std.proofs.Common.{◌≡◌, ℕ, Bool, true, false, List, [], sym, ap, subst, ◌∙◌}
use Rattle.std.specs.Prelude.{if◌then◌else◌}
use Rattle.std.proofs.lemmas.Bool.{ne_eqb}
use Rattle.paths.specs.Paths.{PathData}
use Rattle.algebra.specs.declared.basic.Basic.{Basic}
use Rattle.algebra.specs.declared.basic.Basic.TheVariants.{Error}
use Rattle.algebra.specs.Basics.{join_of}
use Rattle.algebra.specs.HeldPaths.{Held, has_path}
use Rattle.core_program.specs.Core.{Program}
use Rattle.rules.specs.Effect.{Assignment}
use Rattle.rules.specs.Overriding.{AreOverriders}
use Rattle.rules.specs.Rules.{IsSubset, AtMost, held_in}
use Rattle.rules.specs.Search.{row_at}
use Rattle.rules.proofs.BasicLemmas.{below_chain, below_error, both_below}
use Rattle.refutation.specs.Lines.{LineData, floor, overriding, joined_over}
use Rattle.refutation.specs.Tables.{table_entry, said_by, consts, raised_at_subsets, IsRaised, TablesSay}
use Rattle.refutation.specs.Overs.{IsSaidOver, TellsOver, said_in_groups}
use Rattle.refutation.specs.declared.groups.Group.{Group}
use Rattle.refutation.proofs.Sets.{const_joined}
use Rattle.refutation.proofs.Over.{over_least, over_above}
use Rattle.refutation.proofs.FloorLaws.{over_falls}
use Rattle.refutation.proofs.RowLemmas.{row_same}
use Rattle.refutation.proofs.TableLemmas.{entry_consts}

-- All of them.

-- the table tells what is said of the methods that override
pub tells_all : (P : Program) (rel : ℕ → List PathData) (tables : List (List Basic)) (rows : List (List ℕ)) (m : ℕ) (ms : List ℕ) (its : List PathData) (start table : List Basic) (gs : List Group) → AreOverriders P rows → ms ≡ row_at rows m → its ≡ rel m → start ≡ consts its
    → ((H : Held) → IsSubset H (has_path its) → said_in_groups its gs H ≡ joined_over rel (said_by rel tables) ms H) → ((H : Held) → table_entry its table H ≡ join_of (table_entry its start H) (said_in_groups its gs H))
    → (H : Held) → IsSubset H (has_path (rel m)) → table_entry (rel m) table H ≡ joined_over rel (said_by rel tables) (overriding P m) H
tells_all P rel tables rows m ms its start table gs are row is begun grouped joined H part =
    ap (λ ps. table_entry ps table H) (sym is) ∙ joined H
    ∙ ap (λ b. join_of b (said_in_groups its gs H)) (ap (λ t. table_entry its t H) begun ∙ entry_consts its H)
    ∙ const_joined (said_in_groups its gs H)
    ∙ grouped H (subst (λ ps. IsSubset H (has_path ps)) (sym is) part)
    ∙ ap (λ ns. joined_over rel (said_by rel tables) ns H) row ∙ row_same rel (said_by rel tables) H P rows m are

-- and so it is of the lines
pub whole_said : (P : Program) (rel : ℕ → List PathData) (tables : List (List Basic)) (m : ℕ) (table : List Basic) (lines : List LineData)
    → ((H : Held) → IsSubset H (has_path (rel m)) → table_entry (rel m) table H ≡ joined_over rel (said_by rel tables) (overriding P m) H) → TablesSay rel tables lines → IsSaidOver P rel (floor rel lines) m table true Error
whole_said P rel tables m table lines tells says = record {
  each = λ e H part. tells H part ∙ ap (λ (A : Assignment). joined_over rel A (overriding P m) H) says.says;
  low = λ H. below_error (joined_over rel (floor rel lines) (overriding P m) H);
}

-- no table of them all: no more is said than where no path is held
pub most_only : (P : Program) (rel : ℕ → List PathData) (tables : List (List Basic)) (m : ℕ) (table : List Basic) (most : Basic) (lines : List LineData) → AtMost (joined_over rel (said_by rel tables) (overriding P m) (has_path [])) most → TablesSay rel tables lines
    → IsSaidOver P rel (floor rel lines) m table false most
most_only P rel tables m table most lines low says = record {
  each = λ e. absurd (let f : false ≡ true = e in cc);
  low = λ H. below_chain (joined_over rel (floor rel lines) (overriding P m) H) (joined_over rel (floor rel lines) (overriding P m) (has_path [])) most (over_falls rel lines H (overriding P m))
      (subst (λ (A : Assignment). AtMost (joined_over rel A (overriding P m) (has_path [])) most) says.says low);
}

pub low_both : (a b c d : Basic) → a ≡ b → c ≡ d → AtMost b d → AtMost a c
low_both a b c d e f low = subst (λ x. AtMost x c) (sym e) (subst (AtMost b) (sym f) low)

-- Lines that are added.

-- what assignments that differ at one method alone say of the methods that override it
joined_same : (P : Program) (rel : ℕ → List PathData) (A B : Assignment) (m : ℕ) (H : Held) → ((k : ℕ) → (k ≡ m → ⊥) → (K : Held) → A k K ≡ B k K) → joined_over rel A (overriding P m) H ≡ joined_over rel B (overriding P m) H
joined_same P rel A B m H same = both_below _ _ (part A B same) (part B A (λ k d K. sym (same k d K)))
  where
    part : (C D : Assignment) → ((k : ℕ) → (k ≡ m → ⊥) → (K : Held) → C k K ≡ D k K) → AtMost (joined_over rel C (overriding P m) H) (joined_over rel D (overriding P m) H)
    part C D alike = over_least P rel C m H _ (λ k over. subst (λ b. AtMost b (joined_over rel D (overriding P m) H)) (sym (alike k over.differs (held_in (rel k) H))) (over_above P rel D m H k over))

-- where the table of a method was raised, what is said of those that override it is the same
pub tells_still : (P : Program) (rel : ℕ → List PathData) (tables now : List (List Basic)) (l : LineData) (k j : ℕ) (table other : List Basic) (whole still : Bool) → IsRaised (rel l.method) tables now l → (still ≡ true → whole ≡ true) → (still ≡ true → j ≡ l.method) → j ≡ k → other ≡ table
    → TellsOver P rel (said_by rel tables) k table whole → TellsOver P rel (said_by rel now) j other still
tells_still P rel tables now l k j table other whole still raised before its same kept tells e H part =
    (λ i. table_entry (rel (same i)) (kept i) H) ∙ tells (before e) H (subst (λ n. IsSubset H (has_path (rel n))) same part) ∙ ap (λ n. joined_over rel (said_by rel tables) (overriding P n) H) (sym same)
    ∙ joined_same P rel (said_by rel tables) (said_by rel now) j H (λ n differs K. ap (λ t. table_entry (rel n) t K) (sym (raised n ∙ ap (λ b. if b then raised_at_subsets (rel l.method) l.held l.found (row_at tables n) else row_at tables n) (ne_eqb l.method n (λ d. differs (sym (its e ∙ d)))))))
