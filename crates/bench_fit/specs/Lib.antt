pub mod FitRounds
pub mod Laws
