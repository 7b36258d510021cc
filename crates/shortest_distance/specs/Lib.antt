pub mod ParentWords
pub mod NodeSlots
pub mod Relaxation
pub mod Handed
pub mod Outcome
pub mod Promise
pub mod Sound
