pub mod EnginesLaws
