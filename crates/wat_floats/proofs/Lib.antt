mod Decimals
mod Digits
mod HexadecimalParts
mod Rounds
mod Scaling
mod Underscores
