-- What stands at the place of the name.
use Rattle.std.proofs.Common.{ℕ, Some, String, Vec, ◌∙◌, ap, sym}
use Rattle.std.specs.Global.{Global}
use Rattle.edge.specs.InMemory.{stored_files}
use Rattle.edge.proofs.FileLemmas.{bytes_of-stored, bytes_of-None}
use Rattle.edge.proofs.memory_folder.find_file.Goals as goal

pub returns-in_default-clause-no_bytes : goal.returns-in_default-clause-no_bytes
returns-in_default-clause-no_bytes c = bytes_of-None (stored_files c.args.files.now) c.args.name.now (sym c.in_default.ensures)

pub returns-clause-bytes : goal.returns-clause-bytes
returns-clause-bytes c =
    bytes_of-stored c.args.files.now c.args.name.now c.in-Some.place c.index-files-place.result (sym c.in-Some.ensures) c.index-files-place.is ∙ ap (λ (f : String Global × Vec ℕ Global). Some f.1.items) c.index-files-place.is ∙ ap Some (sym c.as_slice.ensures.value)
