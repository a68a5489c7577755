pub mod ConsumeSymbol
