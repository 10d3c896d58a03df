-- What is proved of the turns lap by lap: nothing here has to be believed. It stands here, and not in specs/Laws, so that an edit of what
-- a schedule leaves is refused by it.
pub mod Laps
pub mod Single
