pub mod Desks
pub mod RoomLaws
pub mod SpentLaws
pub mod HeldLaws
pub mod FitLaws
