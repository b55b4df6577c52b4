-- What the contracts of the compiler cite. A reader of `compile` needs Standing, Rooms and IsCode, in this order; Emission has the lines
-- of each expression and statement.
pub mod Emission
pub mod Standing
pub mod Rooms
pub mod IsCode
