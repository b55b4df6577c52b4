-- The pieces of the line, one behind the other.
use Rattle.std.proofs.Common.{◌++◌, codes, ap, ◌∙◌}
use Rattle.lexer.specs.Places.{place_text}
use Rattle.explain_commands.proofs.lines.fault_text.Goals as goal

pub returns : goal.returns
returns c =
    let colon = codes ":" in
    let place = place_text c.args.place.line c.args.place.column in
    let error = codes ": error: " in
    let words = c.kind.result.now in
    let feed = codes "\n" in
    c.in_ok-push_str-4.ensures.bytes
    ∙ ap (λ z. z ++ feed) c.in_ok-push_str-3.ensures.bytes
    ∙ ap (λ z. (z ++ words) ++ feed) c.in_ok-push_str-2.ensures.bytes
    ∙ ap (λ z. ((z ++ error) ++ words) ++ feed) c.in_ok-write_place.ensures
    ∙ ap (λ z. (((z ++ place) ++ error) ++ words) ++ feed) c.in_ok-push_str.ensures.bytes
    ∙ ap (λ z. ((((z ++ colon) ++ place) ++ error) ++ words) ++ feed) c.in_ok-line.ensures.ok
    ∙ ap (λ z. ((((c.args.name.now ++ colon) ++ place) ++ error) ++ z) ++ feed) c.kind.ensures
