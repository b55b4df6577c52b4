-- What the contracts of the machine cite, in this order: holds of locks (Locking), one step (Step), waiting for a lock (Waiting),
-- runs (Run), units and the written order (Units), and reducible words (Words). Asks and Changes are what the exchange of steps rests
-- on, Sorted has the written order as a sorted list of entries, and Examples has schedules.
pub mod Sorted
pub mod Locking
pub mod Step
pub mod Waiting
pub mod Asks
pub mod Changes
pub mod Run
pub mod Words
pub mod Units
pub mod Examples
