-- Reading the files, when it ends how, what the clauses of the top call say, and the sentence.
pub mod ReadingLemmas
pub mod Endings
pub mod SearchEndings
pub mod Runs
pub mod Stages
