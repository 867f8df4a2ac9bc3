-- Laws on bytes, words, numbers and lines.
pub mod Appends
pub mod LineLaws
pub mod Lists
pub mod Numbers
pub mod ReadBack
pub mod ReaderLaws
pub mod Takes
pub mod WordLaws
