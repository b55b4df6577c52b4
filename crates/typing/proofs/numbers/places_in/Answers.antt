use Rattle.std.proofs.Common.{length, refl}
use Rattle.std.proofs.lemmas.Option.{slice_get_read}
use Rattle.classes.specs.Views.{method_data}
use Rattle.classes.proofs.Parts.{mapped_at}
use Rattle.typing.proofs.NameSets.{one_placed}
use Rattle.typing.proofs.numbers.places_in.Goals as goal

pub place_in-requires : goal.place_in-requires
place_in-requires c =
    c.requires c.loop-method.method-index (method_data c.method-item.result)
    (mapped_at method_data c.args.methods.now c.loop-method.method-index c.method-item.result
    (slice_get_read c.args.methods.now (length c.args.methods.now) c.loop-method.method-index c.method-item.result refl c.loop-method-test.true c.method-item.is))

pub loop-method-preserved : goal.loop-method-preserved
loop-method-preserved c =
    one_placed method_data c.args.names.now c.args.methods.now c.loop-method.method-index c.method-item.result c.loop-method.numbers.items c.push.new.self.items c.place_in.result c.in_ok-number.number
    c.loop-method-test.true c.method-item.is c.place_in.ensures c.in_ok-number.ensures c.in_ok-push.ensures.items c.loop-method.invariant
