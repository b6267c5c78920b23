pub mod StrikeLemmas
pub mod StoreLemmas
pub mod PlaceLemmas
pub mod HistoryLemmas
