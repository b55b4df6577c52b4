-- Lemmas by which examples compute: maps (Maps), relevant sets (Sweep), and which programs are accepted (Judging).
mod Maps
mod Sweep
mod Judging
