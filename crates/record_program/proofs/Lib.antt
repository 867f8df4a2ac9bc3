-- Laws on hex and on numbers that fit.
pub mod HexLaws
pub mod NumberLaws
