pub mod Decimal
pub mod Over
pub mod DecimalLaws
