-- What the contracts of the core program cite, in this order: the core program (Core), which method the receiver's class chooses
-- (Dispatch), lock paths of expressions (Locks), types of expressions (Types), heights and sizes (Sizes), and typed programs (Typed).
-- Views says what a program in memory is: what it keeps of its classes (Kept), and the pairs that this tells (Pairs). Overridden says what its
-- methods override, and Examples has programs. Of proofs/ crates above cite what is public.
pub mod Core
pub mod Dispatch
pub mod Pairs
pub mod Kept
pub mod Views
pub mod Overridden
pub mod Locks
pub mod Types
pub mod Sizes
pub mod Typed
pub mod Examples
