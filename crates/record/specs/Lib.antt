-- The step record of document 01, in its order: the bytes, the fields, the kinds, what a record says, what a step must fit, and what is
-- refused.
pub mod Bytes
pub mod Form
pub mod Kinds
pub mod Record
pub mod Ranged
pub mod WellFormed
