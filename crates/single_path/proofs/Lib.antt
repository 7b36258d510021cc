pub mod WayTurns
pub mod EndLaws
pub mod WayLaws
pub mod WriteTurns
pub mod WayBytes
pub mod SingleLaws
