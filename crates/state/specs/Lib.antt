-- What the contracts of the machine's state cite, in this order: values (Values), the heap and the held locks (Memory), what a frame
-- has still to do (Work), and states (States). Stored, Slots and Codes say how the heap and the held locks are kept. Of proofs/ the
-- files Addresses, MemoryLemmas and Numbering are public: crates above cite them.
pub mod Values
pub mod Memory
pub mod Work
pub mod States
pub mod Slots
pub mod Codes
pub mod Stored
-- What the contracts of frames and threads cite: Frames. ThreadCodes says how they are stored.
pub mod Frames
pub mod ThreadCodes
