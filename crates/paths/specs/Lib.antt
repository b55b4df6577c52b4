-- What the contracts of lock paths cite: Paths, then Renamings. Of proofs/ the file PathOrder is public: crates above cite its laws of
-- the order.
pub mod Paths
pub mod Renamings
