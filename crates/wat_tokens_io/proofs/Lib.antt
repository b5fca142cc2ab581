mod Decimals
mod JsonLaws
mod LineLaws
mod PositionLaws
