-- Lists of which one element changes, and the nodes of pages.
pub mod NodesOf
pub mod Fills
pub mod Places
pub mod Looks
pub mod AtMostOne
pub mod NodeRows
