pub mod Call
pub mod Own
pub mod OwnLaws
pub mod MirrorLaws
pub mod BesideLaws
pub mod CallLaws
