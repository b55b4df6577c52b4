-- Classes that extend none.
use Rattle.std.proofs.Common.{◌≡◌, ℕ, ◌==◌, ◌∷◌, None, length, flat_map, ap, ◌∙◌}
use Rattle.std.specs.Prelude.{reverse}
use Rattle.std.proofs.Math.Path.{fun_ext}
use Rattle.std.proofs.lemmas.List.{append-nil}
use Rattle.classes.specs.Lines.{ancestors}
use Rattle.classes.specs.Table.{TableData, above_in_table, is_of_kind}
use Rattle.classes.proofs.Higher.{plain_kind}
use Rattle.typing.specs.Rules.{own_fields, all_fields_of_class}

pub plain_fields : (t : TableData) (c : ℕ) → above_in_table t c ≡ None → all_fields_of_class t c ≡ own_fields t c
plain_fields t c none =
    ap (λ o. flat_map (own_fields t) (reverse (c ∷ ancestors (above_in_table t) (length t.classes) o))) none
    ∙ append-nil (own_fields t c)

pub plain_kinds : (t : TableData) → ((c : ℕ) → above_in_table t c ≡ None) → is_of_kind t ≡ (λ c d. c == d)
plain_kinds t none = fun_ext (λ c. fun_ext (λ d. plain_kind t c d (none c)))
