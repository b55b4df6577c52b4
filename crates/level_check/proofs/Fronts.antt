-- Lines at the front of a text: a text has one list of them, up to its end or up to where it stops.
use Rattle.std.proofs.Common.{◌≡◌, ℕ, ◌-◌, ◌<◌, ◌⊎◌, List, [], ◌∷◌, ◌++◌, length, decimal, Some, None, Ok, refl, sym, ◌∙◌, ap, subst, arith, append_assoc, append-nil, inl, inr}
use Rattle.books.specs.declared.stop.Kind.TheVariants.{Form}
use Rattle.classes.specs.Table.{TableData, class_number}
use Rattle.level_check.specs.declared.lines.Flaw.{Flaw}
use Rattle.level_check.specs.Texts.{LevelLine, level_line_text, level_lines_text, IsLevelLine}
use Rattle.level_check.specs.Reading.{name_at, level_at}
use Rattle.level_check.specs.Faults.{IsNew, AreNew, BeginsWithLines, Stops, no_name, unknown, twice, no_level, HasFlaw}
use Rattle.level_check.proofs.Parts.{complete_name, complete_level, nothing_named, same_read, same_fault, read_or_not}

-- one more line

pub text_more : (ls : List LevelLine) (l : LevelLine) → level_lines_text (ls ++ l ∷ []) ≡ level_lines_text ls ++ level_line_text l
text_more [] l = append-nil (level_line_text l)
text_more (x ∷ xs) l = ap (λ z. level_line_text x ++ z) (text_more xs l) ∙ sym (append_assoc (level_line_text x) (level_lines_text xs) (level_line_text l))

pub new_more : (t : TableData) (before ls : List LevelLine) (l : LevelLine) → AreNew t before ls → IsLevelLine l → IsNew t (before ++ ls) l.name → AreNew t before (ls ++ l ∷ [])
new_more t before [] l are is new = (is, subst (λ b. IsNew t b l.name) (append-nil before) new, tt)
new_more t before (x ∷ xs) l are is new =
    (are.0, are.1, new_more t (before ++ x ∷ []) xs l are.2 is (subst (λ b. IsNew t b l.name) (sym (append_assoc before (x ∷ []) xs)) new))

-- a line that stands first is read

line_before : (l : LevelLine) (more : List ℕ) → level_line_text l ++ more ≡ l.name ++ (32 ∷ (decimal l.level ++ (10 ∷ more)))
line_before l more =
    append_assoc l.name (32 ∷ (decimal l.level ++ (10 ∷ []))) more ∙ ap (λ z. l.name ++ (32 ∷ z)) (append_assoc (decimal l.level) (10 ∷ []) more)

reads_name : (l : LevelLine) (more : List ℕ) → IsLevelLine l → name_at (level_line_text l ++ more) ≡ Ok (l.name, decimal l.level ++ (10 ∷ more))
reads_name l more is = ap name_at (line_before l more) ∙ complete_name l.name (decimal l.level ++ (10 ∷ more)) is.name

reads_level : (l : LevelLine) (more : List ℕ) → IsLevelLine l → level_at (decimal l.level ++ (10 ∷ more)) ≡ Ok (l.level, more)
reads_level l more is = complete_level l.level more is.positive is.fits

-- a name that stands first is that of the line
its_name : (l : LevelLine) (more name behind : List ℕ) → IsLevelLine l → name_at (level_line_text l ++ more) ≡ Ok (name, behind) → (l.name ≡ name) × (decimal l.level ++ (10 ∷ more) ≡ behind)
its_name l more name behind is e = same_read (name_at (level_line_text l ++ more)) l.name name (decimal l.level ++ (10 ∷ more)) behind (reads_name l more is) e

-- where a new line stands first, nothing stops
not_stopped : (t : TableData) (before : List LevelLine) (l : LevelLine) (more : List ℕ) (kind : Flaw) (wrong text : List ℕ) → text ≡ level_line_text l ++ more → IsLevelLine l → IsNew t before l.name
    → Stops t before text kind wrong → ⊥
not_stopped t before l more _ _ text whole is new (no_name kind rest e) =
    read_or_not (name_at text) l.name (decimal l.level ++ (10 ∷ more)) (kind, rest) (ap name_at whole ∙ reads_name l more is) e
not_stopped t before l more _ _ text whole is new (unknown name behind e none) =
    let same = its_name l more name behind is (sym (ap name_at whole) ∙ e) in
    let no : None ≡ Some new.class = sym none ∙ ap (class_number t) (sym same.0) ∙ new.named in absurd (cc)
not_stopped t before l more _ _ text whole is new (twice name behind class e named stood) =
    let same = its_name l more name behind is (sym (ap name_at whole) ∙ e) in
    new.first (stood.0, stood.1, stood.2 ∙ sym same.0)
not_stopped t before l more _ _ text whole is new (no_level name behind kind rest e other f) =
    let same = its_name l more name behind is (sym (ap name_at whole) ∙ e) in
    read_or_not (level_at behind) l.level more (kind, rest) (sym (ap level_at same.1) ∙ reads_level l more is) f

-- the text ends, or stops
abbrev pub IsEnd : TableData → List LevelLine → List ℕ → Type 0
IsEnd t before rest = (rest ≡ []) ⊎ ((kind : Flaw) × (wrong : List ℕ) × Stops t before rest kind wrong)

no_line : (t : TableData) (before : List LevelLine) (l : LevelLine) (more rest : List ℕ) → rest ≡ level_line_text l ++ more → IsLevelLine l → IsNew t before l.name → IsEnd t before rest → ⊥
no_line t before l more rest whole is new (inl none) =
    read_or_not (name_at rest) l.name (decimal l.level ++ (10 ∷ more)) (Form, []) (ap name_at whole ∙ reads_name l more is) (ap name_at none ∙ nothing_named)
no_line t before l more rest whole is new (inr s) = not_stopped t before l more s.0 s.1 rest whole is new s.2

-- two lists of lines at the front of a text are one
pub same_lines : (t : TableData) (before ls ks : List LevelLine) (r s : List ℕ) → level_lines_text ls ++ r ≡ level_lines_text ks ++ s → AreNew t before ls → AreNew t before ks
    → IsEnd t (before ++ ls) r → IsEnd t (before ++ ks) s → (ls ≡ ks) × (r ≡ s)
same_lines t before [] [] r s whole first second ends other = (refl, whole)
same_lines t before [] (b ∷ ks) r s whole first second ends other =
    absurd (no_line t before b (level_lines_text ks ++ s) r (whole ∙ append_assoc (level_line_text b) (level_lines_text ks) s) second.0 second.1 (subst (λ z. IsEnd t z r) (append-nil before) ends))
same_lines t before (a ∷ ls) [] r s whole first second ends other =
    absurd (no_line t before a (level_lines_text ls ++ r) s (sym whole ∙ append_assoc (level_line_text a) (level_lines_text ls) r) first.0 first.1 (subst (λ z. IsEnd t z s) (append-nil before) other))
same_lines t before (a ∷ ls) (b ∷ ks) r s whole first second ends other =
    let A = level_lines_text ls ++ r in let B = level_lines_text ks ++ s in
    let texts : level_line_text a ++ A ≡ level_line_text b ++ B = sym (append_assoc (level_line_text a) (level_lines_text ls) r) ∙ whole ∙ append_assoc (level_line_text b) (level_lines_text ks) s in
    let names = its_name a A b.name (decimal b.level ++ (10 ∷ B)) first.0 (ap name_at texts ∙ reads_name b B second.0) in
    let levels = same_read (level_at (decimal a.level ++ (10 ∷ A))) a.level b.level A B (reads_level a A first.0) (ap level_at names.1 ∙ reads_level b B second.0) in
    let line : a ≡ b = λ i. record { name = names.0 i; level = levels.0 i } in
    let later = same_lines t (before ++ a ∷ []) ls ks r s levels.1 first.2 (subst (λ x. AreNew t (before ++ x ∷ []) ks) (sym line) second.2)
    (subst (λ z. IsEnd t z r) (sym (append_assoc before (a ∷ []) ls)) ends)
    (subst (λ x. IsEnd t ((before ++ x ∷ []) ++ ks) s) (sym line) (subst (λ z. IsEnd t z s) (sym (append_assoc before (b ∷ []) ks)) other)) in
    ((λ i. line i ∷ later.0 i), later.1)

-- a text stops in one way

known_or_not : (t : TableData) (a b : List ℕ) (c : ℕ) → a ≡ b → class_number t a ≡ Some c → class_number t b ≡ None → ⊥
known_or_not t a b c same e f = let no : Some c ≡ None = sym e ∙ ap (class_number t) same ∙ f in absurd (cc)

pub same_stops : (t : TableData) (before : List LevelLine) (text : List ℕ) (k j : Flaw) (v w : List ℕ) → Stops t before text k v → Stops t before text j w → (k ≡ j) × (v ≡ w)
same_stops t before text _ _ _ _ (no_name kind rest e) (no_name other left f) = (refl, same_fault (name_at text) kind other rest left e f)
same_stops t before text _ _ _ _ (no_name kind rest e) (unknown name behind f none) = absurd (read_or_not (name_at text) name behind (kind, rest) f e)
same_stops t before text _ _ _ _ (no_name kind rest e) (twice name behind class f named stood) = absurd (read_or_not (name_at text) name behind (kind, rest) f e)
same_stops t before text _ _ _ _ (no_name kind rest e) (no_level name behind other left f new g) = absurd (read_or_not (name_at text) name behind (kind, rest) f e)
same_stops t before text _ _ _ _ (unknown name behind e none) (no_name kind rest f) = absurd (read_or_not (name_at text) name behind (kind, rest) e f)
same_stops t before text _ _ _ _ (unknown name behind e none) (unknown other left f also) = (refl, refl)
same_stops t before text _ _ _ _ (unknown name behind e none) (twice other left class f named stood) = absurd (known_or_not t other name class (same_read (name_at text) other name left behind f e).0 named none)
same_stops t before text _ _ _ _ (unknown name behind e none) (no_level other left kind rest f new g) = absurd (known_or_not t other name new.class (same_read (name_at text) other name left behind f e).0 new.named none)
same_stops t before text _ _ _ _ (twice name behind class e named stood) (no_name kind rest f) = absurd (read_or_not (name_at text) name behind (kind, rest) e f)
same_stops t before text _ _ _ _ (twice name behind class e named stood) (unknown other left f none) = absurd (known_or_not t name other class (same_read (name_at text) name other behind left e f).0 named none)
same_stops t before text _ _ _ _ (twice name behind class e named stood) (twice other left c f also again) = (refl, refl)
same_stops t before text _ _ _ _ (twice name behind class e named stood) (no_level other left kind rest f new g) =
    absurd (new.first (stood.0, stood.1, stood.2 ∙ (same_read (name_at text) name other behind left e f).0))
same_stops t before text _ _ _ _ (no_level name behind kind rest e new g) (no_name other left f) = absurd (read_or_not (name_at text) name behind (other, left) e f)
same_stops t before text _ _ _ _ (no_level name behind kind rest e new g) (unknown other left f none) = absurd (known_or_not t name other new.class (same_read (name_at text) name other behind left e f).0 new.named none)
same_stops t before text _ _ _ _ (no_level name behind kind rest e new g) (twice other left class f named stood) =
    absurd (new.first (stood.0, stood.1, stood.2 ∙ (same_read (name_at text) other name left behind f e).0))
same_stops t before text _ _ _ _ (no_level name behind kind rest e new g) (no_level other left sort end f also h) =
    let same = same_read (name_at text) name other behind left e f in
    (refl, same_fault (level_at behind) kind sort rest end g (ap level_at same.1 ∙ h))

-- a text that begins with lines and then ends, or stops, is so in one way

pub one_text : (t : TableData) (bytes : List ℕ) (ls ks : List LevelLine) (r s : List ℕ) → BeginsWithLines t bytes ls r → BeginsWithLines t bytes ks s → IsEnd t ls r → IsEnd t ks s → (ls ≡ ks) × (r ≡ s)
one_text t bytes ls ks r s first second ends other = same_lines t [] ls ks r s (sym first.whole ∙ second.whole) first.are_new second.are_new ends other

pub one_flaw : (t : TableData) (bytes : List ℕ) (k j : Flaw) (p q : ℕ) → HasFlaw t bytes k p → HasFlaw t bytes j q → (k ≡ j) × (p ≡ q)
one_flaw t bytes k j p q f g =
    let same = one_text t bytes f.lines g.lines f.rest g.rest f.begins g.begins (inr (k, f.wrong, f.stops)) (inr (j, g.wrong, g.stops)) in
    let stops = same_stops t g.lines g.rest k j f.wrong g.wrong (subst (λ r. Stops t g.lines r k f.wrong) same.1 (subst (λ ls. Stops t ls f.rest k f.wrong) same.0 f.stops)) g.stops in
    (stops.0, f.place_is ∙ ap (λ w. length bytes - length w) stops.1 ∙ sym g.place_is)

pub ends_or_not : (t : TableData) (bytes : List ℕ) (lines : List LevelLine) (k : Flaw) (p : ℕ) → BeginsWithLines t bytes lines [] → HasFlaw t bytes k p → ⊥
ends_or_not t bytes lines k p begins f =
    let same = one_text t bytes lines f.lines [] f.rest begins f.begins (inl refl) (inr (k, f.wrong, f.stops)) in
    let none : 0 < length {A = ℕ} [] = subst (λ r. 0 < length r) (sym same.1) f.goes_on in absurd (omega (arith, none))
