-- One transfer sent once: its calls, and the text of its lines.
pub mod DrainCalls
pub mod Lines
