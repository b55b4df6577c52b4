use Rattle.std.proofs.Common.{ℕ, ◌+◌, Some, take, drop, refl, sym, ap, ◌∙◌, option_map}
use Rattle.core_program.proofs.NamedPlaces.{own_counted}
use Rattle.core_program.proofs.overriding.named_among.Goals as goal

pub returns-in-Some : goal.returns-in-Some
returns-in-Some c =
    let part = c.window-own.ensures ∙ ap (λ (k : ℕ). take c.args.count (drop k c.args.names.now)) c.first.view_is in
    ap (λ (k : ℕ). Some (k + c.in-Some.place)) c.first.view_is
    ∙ sym (own_counted c.args.names.now c.args.names.now c.window-own.result.now c.args.name c.args.first c.args.count c.place_of.result refl part c.place_of.ensures.place
    ∙ ap (option_map (λ n. c.args.first + n)) c.in-Some.is)

pub returns-in-None : goal.returns-in-None
returns-in-None c =
    let part = c.window-own.ensures ∙ ap (λ (k : ℕ). take c.args.count (drop k c.args.names.now)) c.first.view_is in
    sym (own_counted c.args.names.now c.args.names.now c.window-own.result.now c.args.name c.args.first c.args.count c.place_of.result refl part c.place_of.ensures.place
    ∙ ap (option_map (λ n. c.args.first + n)) c.in-None.is)
