pub mod Slots
pub mod SlotsLaws
