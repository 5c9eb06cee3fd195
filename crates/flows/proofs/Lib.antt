-- Lemmas for the answers of this crate.
pub mod ReadingLemmas
pub mod PrefixLemmas
pub mod SettingLemmas
pub mod StoryLemmas
pub mod MapLemmas
pub mod RankLemmas
