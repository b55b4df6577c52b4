-- A text gives one list of levels, or has one first fault.
use Rattle.std.proofs.Common.{◌≡◌, ℕ, suc, ◌+◌, ◌<◌, ◌≤◌, ◌⊎◌, Bool, true, false, List, [], ◌∷◌, ◌++◌, length, Option, Some, None, Result, Ok, Err, MatchResult, IfOk, IfErr, Contains, slice_get, get_or, bytes_eq, if◌then◌else◌, refl, sym, ◌∙◌, ap, subst, arith, inl, inr}
use Rattle.std.proofs.lemmas.Bool.{cases_lt, eqb-true, eq-eqb}
use Rattle.std.proofs.lemmas.List.Elements.{Contains-append_left, Contains-append_right}
use Rattle.std.proofs.lemmas.List.Quantifiers.{position-Some}
use Rattle.std.proofs.lemmas.Option.{same_Some}
use Rattle.std.proofs.lemmas.Slice.Eq.{bytes_eq-Decides}
use Rattle.base.proofs.Lists.{contains_cases, get_below}
use Rattle.classes.specs.Table.{TableData, class_number}
use Rattle.core_program.specs.Core.{Program}
use Rattle.levels.specs.declared.levels.Levels.{Levels}
use Rattle.level_check.specs.declared.lines.Flaw.{Flaw}
use Rattle.level_check.specs.declared.lines.Flaw.TheVariants as flaw
use Rattle.level_check.specs.declared.reader.LevelsFault.{LevelsFault}
use Rattle.level_check.specs.declared.reader.LevelsFault.TheVariants as faults
use Rattle.level_check.specs.Texts.{LevelLine}
use Rattle.level_check.specs.Faults.{HasStood, AreNew, BeginsWithLines, HasFlaw, HasGivenLevel, AreLevelsTold, AreLevels, IsMissing, Differs, IsUnequal, IsFirstLevelsFault}
use Rattle.level_check.specs.Kept.{is_at, level_on, IsLevelsAnswer}
use Rattle.level_check.proofs.Fronts.{one_text, one_flaw, ends_or_not}

-- two names of one class are one
pub same_name : (t : TableData) (a b : List ℕ) (c : ℕ) → class_number t a ≡ Some c → class_number t b ≡ Some c → a ≡ b
same_name t a b c e f =
    let first = position-Some (bytes_eq a) t.names c [] e in
    let second = position-Some (bytes_eq b) t.names c [] f in
    (bytes_eq-Decides a (get_or t.names c [])).0 first.1 ∙ sym ((bytes_eq-Decides b (get_or t.names c [])).0 second.1)

pub class_within : (t : TableData) (name : List ℕ) (c : ℕ) → class_number t name ≡ Some c → c < length t.names
class_within t name c e = (position-Some (bytes_eq name) t.names c [] e).0

-- the name of a line behind others isn't theirs
pub later_name : (t : TableData) (before ls : List LevelLine) (l : LevelLine) → AreNew t before ls → Contains ls l → HasStood before l.name → ⊥
later_name t before [] l are among stood = absurd (omega (arith, among.1))
later_name t before (x ∷ xs) l are among stood =
    by (contains_cases x l xs among) (λ c. later_name t (before ++ x ∷ []) xs l are.2 c (stood.0, Contains-append_left before (x ∷ []) stood.0 stood.1, stood.2))
  where
    by : (x ≡ l) ⊎ Contains xs l → (Contains xs l → ⊥) → ⊥
    by (inl e) later = are.1.first (stood.0, stood.1, stood.2 ∙ ap (λ z. z.name) (sym e))
    by (inr c) later = later c

-- the level on the lines of a class is that of any line of it
chosen_level : (b : Bool) (x y n : ℕ) → (b ≡ true → x ≡ n) → (b ≡ false → y ≡ n) → (if b then x else y) ≡ n
chosen_level true x y n h k = h refl
chosen_level false x y n h k = k refl

at_itself : (o : Option ℕ) (c : ℕ) → is_at o c ≡ true → o ≡ Some c
at_itself None c e = absurd (let no : false ≡ true = e in cc)
at_itself (Some d) c e = ap Some (eqb-true d c e)

is_at_its : (o : Option ℕ) (c : ℕ) → o ≡ Some c → is_at o c ≡ true
is_at_its None c e = absurd (let no : None ≡ Some c = e in cc)
is_at_its (Some d) c e = eq-eqb d c (same_Some d c e)

pub level_is_on : (t : TableData) (before ls : List LevelLine) (c : ℕ) (l : LevelLine) → AreNew t before ls → Contains ls l → class_number t l.name ≡ Some c → level_on t ls c ≡ l.level
level_is_on t before [] c l are among named = absurd (omega (arith, among.1))
level_is_on t before (x ∷ xs) c l are among named = by (contains_cases x l xs among) (λ k. level_is_on t (before ++ x ∷ []) xs c l are.2 k named)
  where
    by : (x ≡ l) ⊎ Contains xs l → (Contains xs l → level_on t xs c ≡ l.level) → level_on t (x ∷ xs) c ≡ l.level
    by (inl e) later = chosen_level (is_at (class_number t x.name) c) x.level (level_on t xs c) l.level (λ h. ap (λ z. z.level) e)
        (λ h. absurd (let no : true ≡ false = sym (is_at_its (class_number t x.name) c (ap (λ z. class_number t z.name) e ∙ named)) ∙ h in cc))
    by (inr k) later = chosen_level (is_at (class_number t x.name) c) x.level (level_on t xs c) l.level
        (λ h. absurd (later_name t (before ++ x ∷ []) xs l are.2 k (
          x,
          Contains-append_right before (x ∷ []) x (0, omega arith, refl),
          same_name t x.name l.name c (at_itself (class_number t x.name) c h) named,
        )))
        (λ h. later k)

pub has_level_on : (t : TableData) (ls : List LevelLine) (c n : ℕ) → AreNew t [] ls → HasGivenLevel t ls c n → n ≡ level_on t ls c
has_level_on t ls c n are h = h.level_is ∙ sym (level_is_on t [] ls c h.line are h.among h.named)

-- lists that read alike are one
same_lists : (xs ys : List ℕ) → length xs ≡ length ys → ((k x y : ℕ) → slice_get xs k ≡ Some x → slice_get ys k ≡ Some y → x ≡ y) → xs ≡ ys
same_lists [] [] e same = refl
same_lists [] (y ∷ ys) e same = absurd (omega (arith, e))
same_lists (x ∷ xs) [] e same = absurd (omega (arith, e))
same_lists (x ∷ xs) (y ∷ ys) e same =
    let tail = same_lists xs ys (omega (arith, e)) (λ k v w f g. same (suc k) v w f g) in
    λ i. same 0 x y refl refl i ∷ tail i

-- the lines of a whole text are one list
whole_lines : (t : TableData) (bytes : List ℕ) (ls ks : List LevelLine) → BeginsWithLines t bytes ls [] → BeginsWithLines t bytes ks [] → ls ≡ ks
whole_lines t bytes ls ks first second = (one_text t bytes ls ks [] [] first second (inl refl) (inl refl)).0

moved : (t : TableData) (ls ks : List LevelLine) (c n : ℕ) → ls ≡ ks → HasGivenLevel t ls c n → HasGivenLevel t ks c n
moved t ls ks c n e h = subst (λ ls. HasGivenLevel t ls c n) e h

pub one_told : (t : TableData) (bytes xs ys : List ℕ) → AreLevelsTold t bytes xs → AreLevelsTold t bytes ys → xs ≡ ys
one_told t bytes xs ys a b =
    let lines = whole_lines t bytes a.lines b.lines a.begins b.begins in
    same_lists xs ys (a.count ∙ sym b.count) (λ k x y e f.
    has_level_on t b.lines k x b.begins.are_new (moved t a.lines b.lines k x lines (a.each k x e)) ∙ sym (has_level_on t b.lines k y b.begins.are_new (b.each k y f)))

told_or_missing : (t : TableData) (bytes xs : List ℕ) (c : ℕ) → AreLevelsTold t bytes xs → IsMissing t bytes c → ⊥
told_or_missing t bytes xs c a m =
    let lines = whole_lines t bytes a.lines m.lines a.begins m.begins in
    let at = get_below xs c (omega (arith, m.there, a.count)) in
    m.none at.0 (moved t a.lines m.lines c at.0 lines (a.each c at.0 at.1))

one_missing : (t : TableData) (bytes : List ℕ) (c d : ℕ) → IsMissing t bytes c → IsMissing t bytes d → c ≡ d
one_missing t bytes c d m n =
    let lines = whole_lines t bytes m.lines n.lines m.begins n.begins in
    by (cases_lt c d) (cases_lt d c) lines
  where
    by : (c < d) ⊎ (d ≤ c) → (d < c) ⊎ (c ≤ d) → m.lines ≡ n.lines → c ≡ d
    by (inl e) k lines = let h = n.earlier c e in absurd (m.none h.0 (moved t n.lines m.lines c h.0 (sym lines) h.1))
    by (inr e) (inl k) lines = let h = m.earlier d k in absurd (n.none h.0 (moved t m.lines n.lines d h.0 lines h.1))
    by (inr e) (inr k) lines = omega (arith, e, k)

one_unequal : (t : TableData) (P : Program) (bytes : List ℕ) (c d : ℕ) → IsUnequal t P bytes c → IsUnequal t P bytes d → c ≡ d
one_unequal t P bytes c d m n =
    let levels = one_told t bytes m.levels n.levels m.told n.told in
    by (cases_lt c d) (cases_lt d c) levels
  where
    by : (c < d) ⊎ (d ≤ c) → (d < c) ⊎ (c ≤ d) → m.levels ≡ n.levels → c ≡ d
    by (inl e) k levels = absurd (n.earlier c e (subst (λ z. Differs P z c) levels m.differs))
    by (inr e) (inl k) levels = absurd (m.earlier d k (subst (λ z. Differs P z d) (sym levels) n.differs))
    by (inr e) (inr k) levels = omega (arith, e, k)

equal_or_not : (t : TableData) (P : Program) (bytes xs : List ℕ) (c : ℕ) → AreLevels t P bytes xs → IsUnequal t P bytes c → ⊥
equal_or_not t P bytes xs c a u =
    let levels = one_told t bytes u.levels xs u.told a.told in
    let d = subst (λ z. Differs P z c) levels u.differs in
    d.2 (a.same c d.0 d.1)

flaw_or_missing : (t : TableData) (bytes : List ℕ) (k : Flaw) (p c : ℕ) → HasFlaw t bytes k p → IsMissing t bytes c → ⊥
flaw_or_missing t bytes k p c f m = ends_or_not t bytes m.lines k p m.begins f

flaw_or_unequal : (t : TableData) (P : Program) (bytes : List ℕ) (k : Flaw) (p c : ℕ) → HasFlaw t bytes k p → IsUnequal t P bytes c → ⊥
flaw_or_unequal t P bytes k p c f u = ends_or_not t bytes u.told.lines k p u.told.begins f

missing_or_unequal : (t : TableData) (P : Program) (bytes : List ℕ) (c d : ℕ) → IsMissing t bytes c → IsUnequal t P bytes d → ⊥
missing_or_unequal t P bytes c d m u = told_or_missing t bytes u.levels c u.told m

-- levels, and a fault
pub levels_or_fault : (t : TableData) (P : Program) (bytes xs : List ℕ) (f : LevelsFault) → AreLevels t P bytes xs → IsFirstLevelsFault t P bytes f → ⊥
levels_or_fault t P bytes xs (faults.Form p) a f = ends_or_not t bytes a.told.lines flaw.Form p a.told.begins f
levels_or_fault t P bytes xs (faults.Unknown p) a f = ends_or_not t bytes a.told.lines flaw.Unknown p a.told.begins f
levels_or_fault t P bytes xs (faults.Twice p) a f = ends_or_not t bytes a.told.lines flaw.Twice p a.told.begins f
levels_or_fault t P bytes xs (faults.Missing c) a f = told_or_missing t bytes xs c a.told f
levels_or_fault t P bytes xs (faults.Unequal c) a f = equal_or_not t P bytes xs c a f
levels_or_fault t P bytes xs faults.NoMemory a f = f

other_flaw : (t : TableData) (bytes : List ℕ) (k j : Flaw) (p q : ℕ) → (k ≡ j → ⊥) → HasFlaw t bytes k p → HasFlaw t bytes j q → ⊥
other_flaw t bytes k j p q other f g = other (one_flaw t bytes k j p q f g).0

pub one_fault : (t : TableData) (P : Program) (bytes : List ℕ) (f g : LevelsFault) → IsFirstLevelsFault t P bytes f → IsFirstLevelsFault t P bytes g → f ≡ g
one_fault t P bytes (faults.Form p) (faults.Form q) f g = ap faults.Form (one_flaw t bytes flaw.Form flaw.Form p q f g).1
one_fault t P bytes (faults.Form p) (faults.Unknown q) f g = absurd (other_flaw t bytes flaw.Form flaw.Unknown p q (λ e. absurd cc) f g)
one_fault t P bytes (faults.Form p) (faults.Twice q) f g = absurd (other_flaw t bytes flaw.Form flaw.Twice p q (λ e. absurd cc) f g)
one_fault t P bytes (faults.Form p) (faults.Missing c) f g = absurd (flaw_or_missing t bytes flaw.Form p c f g)
one_fault t P bytes (faults.Form p) (faults.Unequal c) f g = absurd (flaw_or_unequal t P bytes flaw.Form p c f g)
one_fault t P bytes (faults.Unknown p) (faults.Form q) f g = absurd (other_flaw t bytes flaw.Unknown flaw.Form p q (λ e. absurd cc) f g)
one_fault t P bytes (faults.Unknown p) (faults.Unknown q) f g = ap faults.Unknown (one_flaw t bytes flaw.Unknown flaw.Unknown p q f g).1
one_fault t P bytes (faults.Unknown p) (faults.Twice q) f g = absurd (other_flaw t bytes flaw.Unknown flaw.Twice p q (λ e. absurd cc) f g)
one_fault t P bytes (faults.Unknown p) (faults.Missing c) f g = absurd (flaw_or_missing t bytes flaw.Unknown p c f g)
one_fault t P bytes (faults.Unknown p) (faults.Unequal c) f g = absurd (flaw_or_unequal t P bytes flaw.Unknown p c f g)
one_fault t P bytes (faults.Twice p) (faults.Form q) f g = absurd (other_flaw t bytes flaw.Twice flaw.Form p q (λ e. absurd cc) f g)
one_fault t P bytes (faults.Twice p) (faults.Unknown q) f g = absurd (other_flaw t bytes flaw.Twice flaw.Unknown p q (λ e. absurd cc) f g)
one_fault t P bytes (faults.Twice p) (faults.Twice q) f g = ap faults.Twice (one_flaw t bytes flaw.Twice flaw.Twice p q f g).1
one_fault t P bytes (faults.Twice p) (faults.Missing c) f g = absurd (flaw_or_missing t bytes flaw.Twice p c f g)
one_fault t P bytes (faults.Twice p) (faults.Unequal c) f g = absurd (flaw_or_unequal t P bytes flaw.Twice p c f g)
one_fault t P bytes (faults.Missing c) (faults.Form q) f g = absurd (flaw_or_missing t bytes flaw.Form q c g f)
one_fault t P bytes (faults.Missing c) (faults.Unknown q) f g = absurd (flaw_or_missing t bytes flaw.Unknown q c g f)
one_fault t P bytes (faults.Missing c) (faults.Twice q) f g = absurd (flaw_or_missing t bytes flaw.Twice q c g f)
one_fault t P bytes (faults.Missing c) (faults.Missing d) f g = ap faults.Missing (one_missing t bytes c d f g)
one_fault t P bytes (faults.Missing c) (faults.Unequal d) f g = absurd (missing_or_unequal t P bytes c d f g)
one_fault t P bytes (faults.Unequal c) (faults.Form q) f g = absurd (flaw_or_unequal t P bytes flaw.Form q c g f)
one_fault t P bytes (faults.Unequal c) (faults.Unknown q) f g = absurd (flaw_or_unequal t P bytes flaw.Unknown q c g f)
one_fault t P bytes (faults.Unequal c) (faults.Twice q) f g = absurd (flaw_or_unequal t P bytes flaw.Twice q c g f)
one_fault t P bytes (faults.Unequal c) (faults.Missing d) f g = absurd (missing_or_unequal t P bytes d c g f)
one_fault t P bytes (faults.Unequal c) (faults.Unequal d) f g = ap faults.Unequal (one_unequal t P bytes c d f g)
one_fault t P bytes faults.NoMemory g f h = absurd f
one_fault t P bytes (faults.Form p) faults.NoMemory f g = absurd g
one_fault t P bytes (faults.Unknown p) faults.NoMemory f g = absurd g
one_fault t P bytes (faults.Twice p) faults.NoMemory f g = absurd g
one_fault t P bytes (faults.Missing c) faults.NoMemory f g = absurd g
one_fault t P bytes (faults.Unequal c) faults.NoMemory f g = absurd g

-- what follows of an answer that is right

pub answer_levels : (t : TableData) (P : Program) (bytes : List ℕ) (r : Result Levels LevelsFault) → IsLevelsAnswer t P bytes r → IfOk r (λ levels. AreLevels t P bytes levels.of.items)
answer_levels t P bytes (Ok levels) is = is
answer_levels t P bytes (Err fault) is = tt

pub answer_fault : (t : TableData) (P : Program) (bytes : List ℕ) (r : Result Levels LevelsFault) → IsLevelsAnswer t P bytes r → IfErr r (λ fault. (fault ≡ faults.NoMemory) ⊎ IsFirstLevelsFault t P bytes fault)
answer_fault t P bytes (Ok levels) is = tt
answer_fault t P bytes (Err fault) is = is

pub only_levels : (t : TableData) (P : Program) (bytes found : List ℕ) (r : Result Levels LevelsFault) → IsLevelsAnswer t P bytes r → AreLevels t P bytes found
    → MatchResult r (λ levels. levels.of.items ≡ found) (λ fault. fault ≡ faults.NoMemory)
only_levels t P bytes found (Ok levels) is a = one_told t bytes levels.of.items found is.told a.told
only_levels t P bytes found (Err fault) (inl e) a = e
only_levels t P bytes found (Err fault) (inr f) a = absurd (levels_or_fault t P bytes found fault a f)

pub only_fault : (t : TableData) (P : Program) (bytes : List ℕ) (found : LevelsFault) (r : Result Levels LevelsFault) → IsLevelsAnswer t P bytes r → IsFirstLevelsFault t P bytes found
    → MatchResult r (λ _. ⊥) (λ fault. (fault ≡ found) ⊎ (fault ≡ faults.NoMemory))
only_fault t P bytes found (Ok levels) is f = levels_or_fault t P bytes levels.of.items found is f
only_fault t P bytes found (Err fault) (inl e) f = inr e
only_fault t P bytes found (Err fault) (inr g) f = inl (one_fault t P bytes fault found g f)
