pub mod Ways
mod SoundWays
