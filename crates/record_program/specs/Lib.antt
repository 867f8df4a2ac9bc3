-- What the record commands read and show: Fields, Hex, Numbers, Readings.
pub mod Fields
pub mod Hex
pub mod Numbers
pub mod Readings
