pub mod Pools
pub mod Formats
pub mod PoolsLaws
pub mod FormatsLaws
pub mod CallsLaws
