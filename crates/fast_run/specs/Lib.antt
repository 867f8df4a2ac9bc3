-- A run that changes nothing but the session: Settle, and Quick where only numbers of it change.
pub mod Settle
pub mod Quick
