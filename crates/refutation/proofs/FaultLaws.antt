-- The first fault of a text is where a rule is broken, else where no text goes on.
use Rattle.std.proofs.Common.{◌≡◌, ◌⊎◌, inl, inr, ℕ, zero, suc, ◌+◌, ◌-◌, ◌<◌, ◌≤◌, List, [], ◌∷◌, ◌++◌, length, length-append, length-drop, take, drop, take-append-drop, Option, Some, None, Ok, Err, refl, sym, ◌∙◌, ap, subst, arith, append_assoc}
use Rattle.std.proofs.lemmas.Bool.{cases_order}
use Rattle.std.proofs.Math.Seq.{take-append_seam}
use Rattle.std.proofs.lemmas.Option.{same_Some}
use Rattle.std.specs.List.{AllByRecursion}
use Rattle.books.specs.Combine.{Res, ◌>>=◌, exactly}
use Rattle.books.proofs.There.{take_front, drop_front}
use Rattle.refutation.specs.Lines.{LineData}
use Rattle.refutation.specs.Reading.{count_at, line_at, end_at, blame_at, stop_of, first_certificate_fault}
use Rattle.refutation.specs.Texts.{blame_text, IsWritableLine, IsCertificateText}
use Rattle.refutation.specs.FirstFaults.{IsFittingLine, IsFront, BreaksRule, IsBrokenAt, IsStuckAt, IsFirstFault}
use Rattle.refutation.proofs.TextLaws.{lines_text_is, no_fault}
use Rattle.books.proofs.Stops.{Fails, StopsOn, IsJudged}
use Rattle.refutation.proofs.StopLines.{loose_blame, Anything, BlameFits, judged_blame}
use Rattle.refutation.proofs.BrokenRules.{rule_stops, rule_there, complete_any}

-- less of a front is one
fewer_bytes : (bytes : List ℕ) (k n : ℕ) → k ≤ n → IsFront (take n bytes) → IsFront (take k bytes)
fewer_bytes bytes k n less f = record { more = (cut bytes k n less).0 ++ f.more; lines = f.lines; few = f.few; fit = f.fit; whole = sym (append_assoc (take k bytes) (cut bytes k n less).0 f.more) ∙ ap (λ z. z ++ f.more) (sym (cut bytes k n less).1) ∙ f.whole }
  where
    cut : (bytes : List ℕ) (k n : ℕ) → k ≤ n → (ys : List ℕ) × (take n bytes ≡ take k bytes ++ ys)
    cut bytes zero n less = (take n bytes, refl)
    cut [] (suc k) zero less = absurd (omega (arith, less))
    cut [] (suc k) (suc n) less = ([], refl)
    cut (b ∷ bytes) (suc k) zero less = absurd (omega (arith, less))
    cut (b ∷ bytes) (suc k) (suc n) less = let rest = cut bytes k n (omega (arith, less)) in (rest.0, ap (λ z. b ∷ z) rest.1)

-- what is seen of a fault
record FaultSeen (bytes : List ℕ) (place : ℕ) : Type 0 where
  before : IsFront (take place bytes)
  within : place ≤ length bytes
  why : place < length bytes → (IsFront (take (place + 1) bytes) → ⊥) ⊎ IsBrokenAt bytes place

goes_on_not : (front : List ℕ) (b : ℕ) → ((more : List ℕ) → Fails (loose_blame (front ++ (b ∷ more)))) → IsFront (front ++ (b ∷ [])) → ⊥
goes_on_not front b stuck f =
    let whole : front ++ (b ∷ f.more) ≡ blame_text f.lines = sym (append_assoc front (b ∷ []) f.more) ∙ f.whole in
    let fails : Fails (loose_blame (blame_text f.lines)) = subst (λ z. Fails (loose_blame z)) whole (stuck f.more) in
    let no : Fails {A = List LineData} (Ok (f.lines, [])) = subst Fails (complete_any f.lines f.few f.fit) fails in
    no

why_seen : (bytes front rest : List ℕ) → bytes ≡ front ++ rest → StopsOn loose_blame front rest ⊎ BreaksRule front rest → length front < length bytes → (IsFront (take (length front + 1) bytes) → ⊥) ⊎ IsBrokenAt bytes (length front)
why_seen bytes front [] is why within = absurd (omega (arith, within, ap length is ∙ length-append front []))
why_seen bytes front (b ∷ r) is (inl s) within = inl (λ f. goes_on_not front b s (subst IsFront (ap (take (length front + 1)) is ∙ take_front front b r) f))
why_seen bytes front (b ∷ r) is (inr s) within =
    inr (subst (λ z. BreaksRule (take (length front) z) (drop (length front) z)) (sym is)
    (subst (λ z. BreaksRule z (drop (length front) (front ++ (b ∷ r)))) (sym (take-append_seam front (b ∷ r))) (subst (BreaksRule front) (sym (drop_front front (b ∷ r))) s)))

seen_by : (bytes : List ℕ) (x : Res (List LineData)) → IsJudged Anything BlameFits BreaksRule loose_blame bytes x → (place : ℕ) → stop_of (length bytes) x ≡ Some place → FaultSeen bytes place
seen_by bytes (Ok y) s place e = absurd (let no : None ≡ Some place = e in cc)
seen_by bytes (Err d) s place e =
    let at : length bytes - length d.1 ≡ place = same_Some (length bytes - length d.1) place e in
    let front : length s.front ≡ place = omega (arith, at, ap length s.whole ∙ length-append s.front d.1) in
    subst (FaultSeen bytes) front (record {
      before = subst IsFront (sym (ap (take (length s.front)) s.whole ∙ take-append_seam s.front d.1))
          (record { more = s.begun.more; lines = s.begun.value; few = s.begun.is.few; fit = s.begun.is.fit; whole = s.begun.is.text });
      within = omega (arith, ap length s.whole ∙ length-append s.front d.1);
      why = why_seen bytes s.front d.1 s.whole s.why;
    })

seen : (bytes : List ℕ) (place : ℕ) → first_certificate_fault bytes ≡ Some place → FaultSeen bytes place
seen bytes place e = seen_by bytes (blame_at bytes) (judged_blame bytes).at place e

pub broken : (bytes : List ℕ) (place : ℕ) → IsBrokenAt bytes place → first_certificate_fault bytes ≡ Some place
broken bytes place is =
    let whole : take place bytes ++ drop place bytes ≡ bytes = take-append-drop place bytes in
    let some = rule_there (take place bytes) (drop place bytes) is in
    let size : length (drop place bytes) ≡ length bytes - place = length-drop place bytes in
    let at : length bytes - length (drop place bytes) ≡ place = omega (arith, some, size) in
    ap first_certificate_fault (sym whole) ∙ (λ i. stop_of (length (whole i)) (rule_stops (take place bytes) (drop place bytes) is i)) ∙ ap Some at

one_place : (a b : ℕ) (o : Option ℕ) → o ≡ Some a → o ≡ Some b → a ≡ b
one_place a b o e d = same_Some a b (sym e ∙ d)

-- at a fault a rule is broken, or no text goes on
there_by : (bytes : List ℕ) (place : ℕ) → first_certificate_fault bytes ≡ Some place → FaultSeen bytes place → IsBrokenAt bytes place ⊎ IsStuckAt bytes place
there_by bytes place e s = at (split place (length bytes) s.within)
  where
    split : (a n : ℕ) → a ≤ n → (a < n) ⊎ (a ≡ n)
    split zero zero less = inr refl
    split zero (suc n) less = inl (omega arith)
    split (suc a) zero less = absurd (omega (arith, less))
    split (suc a) (suc n) less = next a n (split a n (omega (arith, less)))
      where
        next : (a n : ℕ) → (a < n) ⊎ (a ≡ n) → (suc a < suc n) ⊎ (suc a ≡ suc n)
        next a n (inl less) = inl (omega (arith, less))
        next a n (inr same) = inr (ap suc same)

    given : place < length bytes → (IsFront (take (place + 1) bytes) → ⊥) ⊎ IsBrokenAt bytes place → IsBrokenAt bytes place ⊎ IsStuckAt bytes place
    given within (inl stuck) = inr (inl (within, stuck))
    given within (inr is) = inl is

    at : (place < length bytes) ⊎ (place ≡ length bytes) → IsBrokenAt bytes place ⊎ IsStuckAt bytes place
    at (inl within) = given within (s.why within)
    at (inr same) = inr (inr (same, λ lines text. no_fault bytes lines place text e))

pub found : (bytes : List ℕ) (place : ℕ) → first_certificate_fault bytes ≡ Some place → IsFirstFault bytes place
found bytes place e =
    let s = seen bytes place e in
    record {
      before = s.before;
      first = λ k less is. (let same = one_place k place (first_certificate_fault bytes) (broken bytes k is) e in omega (arith, less, same));
      there = there_by bytes place e s;
    }

-- lines that can be written fit
fitting : (ls : List LineData) → AllByRecursion IsWritableLine ls → AllByRecursion IsFittingLine ls
fitting [] are = tt
fitting (l ∷ ls) are = (record { method = are.0.method; paths = are.0.paths }, fitting ls are.1)

-- a text is the front of one, and so is each part of it
whole_front : (bytes : List ℕ) (lines : List LineData) (n : ℕ) → IsCertificateText bytes lines → IsFront (take n bytes)
whole_front bytes lines n is = record { more = drop n bytes; lines = lines; few = is.few; fit = fitting lines is.lines; whole = take-append-drop n bytes ∙ is.text_is }

-- the place of a fault is not behind one at which no text goes on, nor before it
no_later_stuck : (bytes : List ℕ) (p place : ℕ) → p < place → IsFront (take place bytes) → IsStuckAt bytes p → place ≤ length bytes → ⊥
no_later_stuck bytes p place less front (inl stuck) within = stuck.1 (fewer_bytes bytes (p + 1) place (omega (arith, less)) front)
no_later_stuck bytes p place less front (inr stuck) within = omega (arith, stuck.0, less, within)

-- where there is no fault, the bytes are a text
record TextOf (bytes : List ℕ) : Type 0 where
  lines : List LineData
  text : IsCertificateText bytes lines

ended : (bytes : List ℕ) (n : ℕ) (first behind : List ℕ) (ls : List LineData) (p : Res (Unit {0})) → count_at bytes ≡ Ok (n, first) → exactly n line_at first ≡ Ok (ls, behind) → end_at behind ≡ p →
    stop_of (length bytes) (p >>= λ u ts. Ok (ls, ts)) ≡ None → TextOf bytes
ended bytes n first behind ls (Ok y) c l e none = record { lines = ls; text = lines_text_is bytes n first behind ls y.0 y.1 c l e }
ended bytes n first behind ls (Err d) c l e none = absurd (let no : Some (length bytes - length d.1) ≡ None = none in cc)

lined : (bytes : List ℕ) (n : ℕ) (first : List ℕ) (p : Res (List LineData)) → count_at bytes ≡ Ok (n, first) → exactly n line_at first ≡ p →
    stop_of (length bytes) (p >>= λ ls ts. end_at ts >>= λ u ts. Ok (ls, ts)) ≡ None → TextOf bytes
lined bytes n first (Ok y) c l none = ended bytes n first y.1 y.0 (end_at y.1) c l refl none
lined bytes n first (Err d) c l none = absurd (let no : Some (length bytes - length d.1) ≡ None = none in cc)

counted : (bytes : List ℕ) (p : Res ℕ) → count_at bytes ≡ p → stop_of (length bytes) (p >>= λ n ts. exactly n line_at ts >>= λ ls ts. end_at ts >>= λ u ts. Ok (ls, ts)) ≡ None → TextOf bytes
counted bytes (Ok y) c none = lined bytes y.0 y.1 (exactly y.0 line_at y.1) c refl none
counted bytes (Err d) c none = absurd (let no : Some (length bytes - length d.1) ≡ None = none in cc)

no_fault_text : (bytes : List ℕ) → first_certificate_fault bytes ≡ None → TextOf bytes
unfolding blame_at
no_fault_text bytes none = counted bytes (count_at bytes) refl none

-- ---- the first fault is at the only place of which its definition is so

text_not_stuck : (bytes : List ℕ) (place : ℕ) → TextOf bytes → IsStuckAt bytes place → ⊥
text_not_stuck bytes place is (inl stuck) = stuck.1 (whole_front bytes is.lines (place + 1) is.text)
text_not_stuck bytes place is (inr stuck) = stuck.1 is.lines is.text

stuck_within : (bytes : List ℕ) (place : ℕ) → IsStuckAt bytes place → place ≤ length bytes
stuck_within bytes place (inl stuck) = omega (arith, stuck.0)
stuck_within bytes place (inr stuck) = omega (arith, stuck.0)

not_before : (bytes : List ℕ) (p place : ℕ) → p < place → IsFirstFault bytes place → IsStuckAt bytes place → IsBrokenAt bytes p ⊎ IsStuckAt bytes p → ⊥
not_before bytes p place less f stuck (inl is) = f.first p less is
not_before bytes p place less f stuck (inr other) = no_later_stuck bytes p place less f.before other (stuck_within bytes place stuck)

same_fault : (bytes : List ℕ) (place : ℕ) → IsFirstFault bytes place → IsStuckAt bytes place → (o : Option ℕ) → first_certificate_fault bytes ≡ o → o ≡ Some place
same_fault bytes place f stuck None e = absurd (text_not_stuck bytes place (no_fault_text bytes e) stuck)
same_fault bytes place f stuck (Some p) e = at (cases_order p place)
  where
    at : (p ≡ place) ⊎ ((p < place) ⊎ (place < p)) → Some p ≡ Some place
    at (inl same) = ap Some same
    at (inr (inl less)) = absurd (not_before bytes p place less f stuck (found bytes p e).there)
    at (inr (inr less)) = absurd (no_later_stuck bytes place p less (found bytes p e).before stuck (seen bytes p e).within)

first_by : (bytes : List ℕ) (place : ℕ) → IsFirstFault bytes place → IsBrokenAt bytes place ⊎ IsStuckAt bytes place → first_certificate_fault bytes ≡ Some place
first_by bytes place f (inl is) = broken bytes place is
first_by bytes place f (inr stuck) = same_fault bytes place f stuck (first_certificate_fault bytes) refl

pub only : (bytes : List ℕ) (place : ℕ) → IsFirstFault bytes place → first_certificate_fault bytes ≡ Some place
only bytes place f = first_by bytes place f f.there
