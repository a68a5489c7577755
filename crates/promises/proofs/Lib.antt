pub mod Demand3Laws
pub mod ForeignLaws
pub mod LookLaws
pub mod LookaheadLaws
pub mod ProfileLaws
pub mod SmallTablesLaws
pub mod StreamLaws
