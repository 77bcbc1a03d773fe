-- Laws of what a message hands out, which the proofs of the functions cite.
pub mod Fronts
pub mod CutShort
pub mod Causes
pub mod Handouts
pub mod Openings
pub mod OneKind
pub mod FromCursor
pub mod WalksAgree
pub mod SpansHold
pub mod LongsOpened
pub mod ElementsOpened
pub mod ToTheEnd
