-- What witnesses are: Witness. Walks has runs that interrupt nobody, step by step, and sets of nodes that no such run leaves.
pub mod Walks
pub mod Witness
-- What the contracts of the judge cite. A reader of the public calls needs Judging and Verdicts; Nodes and Searching say what the search knows.
pub mod Tables
pub mod Judging
pub mod Nodes
-- Steps that nobody else sees, and where the search goes on alone.
pub mod Unseen
pub mod Searching
pub mod Verdicts
-- What the search for a witness answers.
pub mod Findings
