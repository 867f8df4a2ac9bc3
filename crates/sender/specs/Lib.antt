-- What the code's calls make of their records, what they mean, and what is promised of them.
pub mod EncoderCalls
pub mod EncoderPromises
pub mod SessionCalls
pub mod FdtSessionCalls
pub mod SessionMeans
pub mod SenderCalls
pub mod SetupCalls
pub mod SenderRuns
