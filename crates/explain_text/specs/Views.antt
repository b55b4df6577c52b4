-- What the lines are written with, as plain data.
use Rattle.classes.specs.Views.{table_data}
use Rattle.explain_text.specs.declared.page.Page.{Page}
use Rattle.explain_text.specs.Pages.{PageData}

-- what the lines of a file are written with, as plain data: its name, its text, its class table, the names of slots, the offsets of nodes and the
-- variable that should be final
abbrev pub page_data : Page → PageData
page_data p = record { file = p.file.now; text = p.index.now; table = table_data p.table.now; slots = p.slots.now; offsets = p.offsets.now; fitting = p.fitting }
