pub mod Bytes
pub mod Tables
pub mod Clusters
pub mod CallsLaws
