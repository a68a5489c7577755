pub mod FormatLaws
pub mod ParseLaws
pub mod PadLaws
