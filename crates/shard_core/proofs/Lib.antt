pub mod shared
mod FlagLemmas
mod RoomLemmas
mod EpochLemmas
mod ReaderLemmas
mod MirrorLemmas
mod StateLemmas
mod KeyLemmas
mod AskedLemmas
mod ContentLemmas
mod RetireLemmas
mod StepLemmas
mod ChangeLemmas
mod OpeningLemmas
mod FewHeldLemmas
mod OwnKeyLemmas
mod ListingLemmas
