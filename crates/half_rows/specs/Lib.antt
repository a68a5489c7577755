pub mod Half
pub mod HalfLaws
