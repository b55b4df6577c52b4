use Rattle.std.proofs.Common.{sym, subst}
use Rattle.std.specs.Prelude.{IsSome}
use Rattle.typing.proofs.NameSets.{is_placed}
use Rattle.typing.proofs.numbers.place_in.Goals as goal

pub unwrap-requires : goal.unwrap-requires
unwrap-requires c = subst IsSome (sym c.number_of.ensures) (is_placed c.args.names.now c.args.name.now c.requires)
