-- The laws: columns exchanged, the column rule turn by turn, the pivots of a block; the rule is that of the definition.
pub mod Exchanges
pub mod Rule
pub mod Taking
pub mod Ruled
