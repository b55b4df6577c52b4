mod TraceCommandsAnswering
mod Judging
mod Found
mod Ways
mod Exactness
mod Serials
mod NoteLines
