-- Lists of names: whether they have a text, and which of them stand again.
use Rattle.std.specs.Prelude.{ℕ, Bool, List, [], ◌∷◌, ◌++◌, map, bytes_eq, if◌then◌else◌}
use Rattle.std.specs.List.{list_any}
use Rattle.syntax.specs.declared.tree.Name.{Name}

-- the texts of names, without their offsets
abbrev pub texts_of : List Name → List (List ℕ)
texts_of names = map (λ n. n.text) names

-- whether a list of texts has this one
abbrev pub has_text : List (List ℕ) → List ℕ → Bool
has_text texts text = list_any (bytes_eq text) texts

-- the texts with one more, each once, in order of first appearance
abbrev pub with_text : List (List ℕ) → List ℕ → List (List ℕ)
with_text texts text = if has_text texts text then texts else texts ++ text ∷ []

-- the offsets of the names that stand again, after names with these texts
abbrev pub repeats_after : List (List ℕ) → List Name → List ℕ
repeats_after seen [] = []
repeats_after seen (n ∷ ns) =
    if has_text seen n.text then n.at ∷ repeats_after seen ns else repeats_after (seen ++ n.text ∷ []) ns

-- the offsets of the names that stand again
abbrev pub repeats : List Name → List ℕ
repeats names = repeats_after [] names

-- the texts of names added to these, each once, in order of first appearance
abbrev pub distinct_after : List (List ℕ) → List Name → List (List ℕ)
distinct_after seen [] = seen
distinct_after seen (n ∷ ns) = distinct_after (with_text seen n.text) ns

-- the texts of names, each once, in order of first appearance
abbrev pub distinct : List Name → List (List ℕ)
distinct names = distinct_after [] names
