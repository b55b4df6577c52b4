-- What the law of typed runs cites, in this order: types of slots and operands (SlotTypes), lists of work that are suited to them
-- (Suited), and typed states (TypedStates).
pub mod SlotTypes
pub mod Suited
pub mod TypedStates
-- What the laws of lock levels cite, in this order: walks through bodies (Walks), the contexts that methods are called in and ordered
-- programs (Contexts), and circles of threads (Circles).
pub mod Walks
pub mod Contexts
pub mod Circles
