pub mod Count
pub mod CountLaws
pub mod CutLaws
