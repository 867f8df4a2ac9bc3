-- What a run of a session comes to: Cases; and in the middle of a transfer: Steps.
pub mod Cases
pub mod Steps
