-- The pieces of the line, one behind the other.
use Rattle.std.proofs.Common.{◌++◌, codes, decimal, ap, ◌∙◌}
use Rattle.report.proofs.refused.refused_at_text.Goals as goal

pub returns : goal.returns
returns c =
    let at = codes " refused at byte " in
    let place = decimal c.args.place in
    let colon = codes ": " in
    let kind = c.args.kind.now in
    let end = codes "\n" in
    c.in_ok-push_str-4.ensures.bytes
    ∙ ap (λ z. z ++ end) c.in_ok-push_str-3.ensures.bytes
    ∙ ap (λ z. (z ++ kind) ++ end) c.in_ok-push_str-2.ensures.bytes
    ∙ ap (λ z. ((z ++ colon) ++ kind) ++ end) c.in_ok-write_number.ensures.written
    ∙ ap (λ z. (((z ++ place) ++ colon) ++ kind) ++ end) c.in_ok-push_str.ensures.bytes
    ∙ ap (λ z. ((((z ++ at) ++ place) ++ colon) ++ kind) ++ end) c.in_ok-line.ensures.ok
