pub mod UniqueReplies
pub mod OrderedMaps
pub mod HeldMultiplicities
