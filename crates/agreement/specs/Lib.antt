-- Demand 3 and what follows from it, and document 01's examples.
pub mod Kinds
pub mod Laws
