-- From the job of a text that is not refused to its image: read back, passing the check, and giving the same turns.
pub mod Kinds
pub mod Proper
pub mod Laws
