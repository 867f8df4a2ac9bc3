-- Laws on commands and on the stores.
pub mod PlayLaws
pub mod StoreLaws
