pub mod Rescan
pub mod OldWordsLaws
