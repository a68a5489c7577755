pub mod StaysLaws
