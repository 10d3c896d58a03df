-- What is proved of the definitions of specs/Proper: nothing here has to be believed. It stands here, and not in specs/Laws, so that an
-- edit of such a definition is refused by it.
pub mod Rows
pub mod ReadBack
pub mod Passes
pub mod Same
