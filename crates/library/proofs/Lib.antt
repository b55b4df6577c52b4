-- Lemmas on safe states, runs and words.
mod WatchedSteps
mod Neighbours
