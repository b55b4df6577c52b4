-- The source for a number of workers, in three lines.
use Rattle.std.specs.Prelude.{ℕ, zero, suc, List, [], ◌++◌, codes}

-- a text so many times
abbrev pub repeated : ℕ → List ℕ → List ℕ
repeated zero text = []
repeated (suc n) text = text ++ repeated n text

-- the class of what the workers share: a number that its lock guards
abbrev pub cell_line : List ℕ
cell_line = codes "class Cell { int v guarded_by this; atomic void inc() { synchronized (this) { this.v = this.v + 1; } } }\n"

-- the class of the workers, each of which counts up eight times
abbrev pub worker_line : List ℕ
worker_line = codes "class W implements Runnable { final Cell c; W(Cell c) { this.c = c; } public void run() {" ++ repeated 8 (codes " this.c.inc();") ++ codes " } }\n"

-- the class with `main`, which starts so many workers
abbrev pub main_line : ℕ → List ℕ
main_line n = codes "class Main { void main() { final Cell c = new Cell();" ++ repeated n (codes " new Thread(new W(c)).start();") ++ codes " } }\n"

-- the three lines as one text: the cell, the worker, and a main class that starts n workers
abbrev pub generated_source : ℕ → List ℕ
generated_source n = cell_line ++ worker_line ++ main_line n
