-- What was judged of a text is all that is true of it.
use Rattle.std.proofs.Common.{◌≡◌, ℕ, ◌⊎◌, inl, inr, List, [], Some, Ok, Err, ap, subst}
use Rattle.paths.specs.Paths.{PathData}
use Rattle.core_program.specs.Core.{Program}
use Rattle.books.specs.Books.{Book}
use Rattle.books.specs.Texts.{IsBookText}
use Rattle.books.specs.Faults.{first_book_fault}
use Rattle.books.specs.declared.stop.BookFault.{BookFault}
use Rattle.books.proofs.BookLaws.{complete_book}
use Rattle.books.proofs.CursorLaws.{one_book, no_fault, same_fault}
use Rattle.book_check.specs.declared.wrong.Wrong.{Wrong}
use Rattle.book_check.specs.declared.wrong.Wrong.TheVariants as wrong
use Rattle.book_check.specs.declared.wrong.TextWrong.{TextWrong}
use Rattle.book_check.specs.declared.wrong.TextWrong.TheVariants as text
use Rattle.book_check.specs.Good.{IsGoodBook}
use Rattle.book_check.specs.Faults.{IsUnjudged, IsWrongBook}
use Rattle.book_check.specs.Checks.{IsJudgedText, IsTextUnjudged}
use Rattle.book_check.proofs.OneVerdict.{one_wrong, good_no_wrong}

judged_or : (w : Wrong) → IsUnjudged w ⊎ (IsUnjudged w → ⊥)
judged_or (wrong.Shape m n) = inr (λ e. e)
judged_or (wrong.Table m) = inr (λ e. e)
judged_or (wrong.Step m n) = inr (λ e. e)
judged_or (wrong.Override m) = inr (λ e. e)
judged_or (wrong.Bound m) = inr (λ e. e)
judged_or wrong.Memory = inl tt
judged_or wrong.Work = inl tt

module _ (P : Program) (rel : ℕ → List PathData) (bytes : List ℕ) where
  same_book : (a b : Book) → IsBookText bytes a → IsBookText bytes b → a ≡ b
  same_book a b first second = one_book bytes a b (complete_book bytes a first) second

  text_no_fault : (book : Book) (fault : BookFault) → IsBookText bytes book → first_book_fault bytes ≡ Some fault → ⊥
  text_no_fault book fault is e = no_fault bytes book [] fault (complete_book bytes book is) e

  pub ok_no_fault : (u : Unit {0}) (fault : BookFault) → IsJudgedText P rel bytes (Ok u) → first_book_fault bytes ≡ Some fault → ⊥
  ok_no_fault u fault judged e = text_no_fault judged.0 fault judged.1 e

  pub ok_no_wrong : (u : Unit {0}) (book : Book) (w : Wrong) → IsJudgedText P rel bytes (Ok u) → IsBookText bytes book → (IsUnjudged w → ⊥) → IsWrongBook P rel book w → ⊥
  ok_no_wrong u book w judged is some bad =
      good_no_wrong P rel book w some (subst (IsGoodBook P rel) (same_book judged.0 book judged.1 is) judged.2) bad

  pub err_fault : (why : TextWrong) (fault : BookFault) → IsJudgedText P rel bytes (Err why) → first_book_fault bytes ≡ Some fault → why ≡ text.Book fault
  err_fault (text.Book found) fault judged e = ap (λ z. text.Book z) (same_fault found fault bytes judged e)
  err_fault (text.Wrong w) fault judged e = absurd (text_no_fault judged.0 fault judged.1 e)

  pub err_wrong : (why : TextWrong) (book : Book) (w : Wrong) → IsJudgedText P rel bytes (Err why) → IsBookText bytes book → (IsUnjudged w → ⊥) → IsWrongBook P rel book w →
      (why ≡ text.Wrong w) ⊎ IsTextUnjudged why
  err_wrong (text.Book found) book w judged is some bad = absurd (text_no_fault book found is judged)
  err_wrong (text.Wrong v) book w judged is some bad = chosen (judged_or v)
    where
      chosen : IsUnjudged v ⊎ (IsUnjudged v → ⊥) → (text.Wrong v ≡ text.Wrong w) ⊎ IsUnjudged v
      chosen (inl unjudged) = inr unjudged
      chosen (inr other) = inl (ap (λ z. text.Wrong z) (one_wrong P rel book v w other some (subst (λ b. IsWrongBook P rel b v) (same_book judged.0 book judged.1 is) judged.2) bad))

  pub err_good : (why : TextWrong) (book : Book) → IsJudgedText P rel bytes (Err why) → IsBookText bytes book → IsGoodBook P rel book → IsTextUnjudged why
  err_good (text.Book found) book judged is good = absurd (text_no_fault book found is judged)
  err_good (text.Wrong v) book judged is good = chosen (judged_or v)
    where
      chosen : IsUnjudged v ⊎ (IsUnjudged v → ⊥) → IsUnjudged v
      chosen (inl unjudged) = unjudged
      chosen (inr other) = absurd (good_no_wrong P rel book v other good (subst (λ b. IsWrongBook P rel b v) (same_book judged.0 book judged.1 is) judged.2))

-- what was judged of a book is all that is true of it
module _ (P : Program) (rel : ℕ → List PathData) (book : Book) where
  pub taken_no_wrong : (w : Wrong) → IsGoodBook P rel book → (IsUnjudged w → ⊥) → IsWrongBook P rel book w → ⊥
  taken_no_wrong w good some bad = good_no_wrong P rel book w some good bad

  pub refused_wrong : (v w : Wrong) → IsWrongBook P rel book v → (IsUnjudged w → ⊥) → IsWrongBook P rel book w → (v ≡ w) ⊎ IsUnjudged v
  refused_wrong v w judged some bad = chosen (judged_or v)
    where
      chosen : IsUnjudged v ⊎ (IsUnjudged v → ⊥) → (v ≡ w) ⊎ IsUnjudged v
      chosen (inl unjudged) = inr unjudged
      chosen (inr other) = inl (one_wrong P rel book v w other some judged bad)

  pub refused_good : (v : Wrong) → IsWrongBook P rel book v → IsGoodBook P rel book → IsUnjudged v
  refused_good v judged good = chosen (judged_or v)
    where
      chosen : IsUnjudged v ⊎ (IsUnjudged v → ⊥) → IsUnjudged v
      chosen (inl unjudged) = unjudged
      chosen (inr other) = absurd (good_no_wrong P rel book v other good judged)
