-- The lines of one method more.
use Rattle.std.proofs.Common.{◌≡◌, arith, length, map, string_bytes, sym, ◌∙◌}
use Rattle.std.proofs.lemmas.Bool.{eqb-true}
use Rattle.classes.specs.Views.{table_data}
use Rattle.core_program.specs.Views.{program_of}
use Rattle.explain_commands.specs.Explained.{page_of}
use Rattle.explain_commands.proofs.Writing.{all_so_far, more_so_far, none_so_far, within_at}
use Rattle.rules.specs.Near.{rel_of}
use Rattle.rules.specs.Search.{row_at}
use Rattle.syntax.specs.Views.{member_of}
use Rattle.explain_commands.proofs.explaining.lines_of.Goals as goal

pub loop-x-init : goal.loop-x-init
loop-x-init g c =
    let told = c.args.told.now in
    let walk = c.args.walk.now in
    record {
      texts = none_so_far (program_of walk.program.now) (rel_of walk.sets.now) (g.A.Assigned.assigned walk.assigned.now)
          (page_of told.file.now told.index.now (table_data told.source.now.table) (map (λ m. member_of m.now) told.methods.now.items)) (row_at c.args.over.now)
          c.args.all.now (string_bytes c.new-text.result) c.new-text.ensures.bytes;
      finals = c.in_ok-finals.ensures;
    }

pub add_block-requires : goal.add_block-requires
add_block-requires g c = record {
  there = within_at (length c.args.told.now.methods.now.items) c.args.all.now c.loop-x.x-index c.x-item.result c.loop-x-test.true c.x-item.is c.requires;
  finals = c.loop-x.invariant.finals;
}

pub loop-x-preserved : goal.loop-x-preserved
loop-x-preserved g c =
    let told = c.args.told.now in
    let walk = c.args.walk.now in
    let added = c.in_ok-add_block.ensures.lines in
    record {
      texts = more_so_far (program_of walk.program.now) (rel_of walk.sets.now) (g.A.Assigned.assigned walk.assigned.now)
          (page_of told.file.now told.index.now (table_data told.source.now.table) (map (λ m. member_of m.now) told.methods.now.items)) (row_at c.args.over.now)
          c.args.all.now c.loop-x.x-index c.x-item.result (string_bytes c.loop-x.text) (string_bytes c.add_block.new.text) added.0 c.loop-x-test.true c.x-item.is added.1 added.2 c.loop-x.invariant.texts;
      finals = c.add_block.ensures.kept ∙ c.loop-x.invariant.finals;
    }

-- none are told
pub returns-then-is_empty : goal.returns-then-is_empty
returns-then-is_empty g c =
    let told = c.args.told.now in
    let walk = c.args.walk.now in
    let page = page_of told.file.now told.index.now (table_data told.source.now.table) (map (λ m. member_of m.now) told.methods.now.items) in
    let none : length c.args.all.now ≡ 0 = eqb-true (length c.args.all.now) 0 (sym c.is_empty.ensures ∙ c.if-is_empty.true) in
    all_so_far (program_of walk.program.now) (rel_of walk.sets.now) (g.A.Assigned.assigned walk.assigned.now) page (row_at c.args.over.now)
    c.args.all.now 0 (string_bytes c.new-text.result) (omega (arith, none))
    (none_so_far (program_of walk.program.now) (rel_of walk.sets.now) (g.A.Assigned.assigned walk.assigned.now) page (row_at c.args.over.now)
    c.args.all.now (string_bytes c.new-text.result) c.new-text.ensures.bytes)

pub returns : goal.returns
returns g c =
    let told = c.args.told.now in
    let walk = c.args.walk.now in
    all_so_far (program_of walk.program.now) (rel_of walk.sets.now) (g.A.Assigned.assigned walk.assigned.now)
    (page_of told.file.now told.index.now (table_data told.source.now.table) (map (λ m. member_of m.now) told.methods.now.items)) (row_at c.args.over.now)
    c.args.all.now c.loop-x.x-index (string_bytes c.loop-x.text) c.loop-x-test.false c.loop-x.invariant.texts
