pub mod WatchedLemmas
