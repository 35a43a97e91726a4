-- What a table's nodes stand for and when it is refused, in the page's words.
pub mod Trees
pub mod Check
-- What the code is held to on the way there.
pub mod Computed
