use Rattle.std.proofs.Common.{map, string_bytes}
use Rattle.classes.specs.Views.{table_data}
use Rattle.core_program.specs.Views.{program_of}
use Rattle.explain_commands.specs.Explained.{page_of}
use Rattle.explain_commands.proofs.Writing.{all_listed}
use Rattle.rules.specs.Near.{rel_of}
use Rattle.syntax.specs.Views.{member_of}
use Rattle.explain_commands.proofs.listing.listed.Goals as goal

pub returns : goal.returns
returns g c =
    let told = c.args.told.now in
    let walk = c.args.walk.now in
    all_listed (program_of walk.program.now) (rel_of walk.sets.now) (g.A.Assigned.assigned walk.assigned.now)
    (page_of told.file.now told.index.now (table_data told.source.now.table) (map (λ m. member_of m.now) told.methods.now.items))
    c.methods-method-items.result.now c.loop-k.k (string_bytes c.loop-k.text) c.loop-k-test.false c.methods-method-items.ensures c.loop-k.invariant
