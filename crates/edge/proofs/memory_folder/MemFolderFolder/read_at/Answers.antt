-- A fault of one name leaves the counts of the other files as they were.
use Rattle.std.proofs.Common.{◌≡◌, ℕ, Some, ◌∙◌, sym, ap, subst, arith, length, length-set, slice_index, slice_set}
use Rattle.std.proofs.lemmas.List.{with_items_is}
use Rattle.std.specs.Vec.{with_items}
use Rattle.edge.specs.Faults.{next_count}
use Rattle.edge.specs.InMemory.{FolderInMemory, stored_files, stored_place}
use Rattle.edge.proofs.FileLemmas.{faults_of-others, faults_of-told}
use Rattle.edge.proofs.memory_folder.MemFolderFolder.read_at.Goals as goal

pub returns-in_default-clause-others : goal.returns-in_default-clause-others
returns-in_default-clause-others c = λ other differs told.
    let after : FolderInMemory = record {
      files = stored_files c.self.inside.files.items;
      most = c.self.inside.most;
      failing = c.self.inside.failing.items;
      calls = c.saturating_add-self-inside.result;
      file_faults = c.self.inside.file_faults.items;
      missing_faults = c.saturating_add-self-inside-in_default.result;
    } in
    faults_of-told c.args.self.now after other (ap (λ (s : FolderInMemory). s.files) c.self.view_is) (ap (λ (s : FolderInMemory). s.file_faults) c.self.view_is) told

pub returns-then-fails-clause-others : goal.returns-then-fails-clause-others
returns-then-fails-clause-others c = λ other differs told.
    let faults = (with_items c.self.inside.file_faults c.count_fault.new.faults).items in
    let after : FolderInMemory = record {
      files = stored_files c.self.inside.files.items;
      most = c.self.inside.most;
      failing = c.self.inside.failing.items;
      calls = c.saturating_add-self-inside.result;
      file_faults = faults;
      missing_faults = c.self.inside.missing_faults;
    } in
    let place : stored_place (stored_files c.self.inside.files.items) c.args.name.now ≡ Some c.in-Some.place =
    ap (λ fs. stored_place (stored_files fs) c.args.name.now) (sym c.deref-2.ensures.value) ∙ c.in-Some.ensures.place in
    let counts : c.deref_mut.result.now ≡ c.args.self.now.file_faults = c.deref_mut.ensures.value ∙ ap (λ (s : FolderInMemory). s.file_faults) c.self.view_is in
    let count : length c.count_fault.new.faults ≡ c.self.inside.file_faults.len =
    omega (arith, ap length c.count_fault.ensures.counted, length-set {A = ℕ}, ap length c.deref_mut.ensures.value, c.self.inside.file_faults.ok) in
    let counted : faults ≡ slice_set c.args.self.now.file_faults c.in-Some.place (next_count (slice_index c.args.self.now.file_faults c.in-Some.place)) =
    with_items_is c.self.inside.file_faults c.count_fault.new.faults count ∙ subst (λ xs. c.count_fault.new.faults ≡ slice_set xs c.in-Some.place (next_count (slice_index xs c.in-Some.place))) counts c.count_fault.ensures.counted in
    faults_of-others c.args.self.now after c.args.name.now other c.in-Some.place (next_count (slice_index c.args.self.now.file_faults c.in-Some.place)) place (ap (λ (s : FolderInMemory). s.files) c.self.view_is) counted differs told
