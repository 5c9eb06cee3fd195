-- Where the journals of all shards are legal, as those of shards that ran are, their text is their file.
use Rattle.journals.specs.JournalsView.{JournalsView}
use Rattle.journals.specs.LegalJournals.{AreLegal}
use Rattle.journals.specs.JournalText.{journals_text}
use Rattle.journals.specs.JournalReading.{IsJournalsFile}

-- the text of legal journals is their file
abbrev pub ReadBackWhereLegal : JournalsView → Type 0
ReadBackWhereLegal journals = AreLegal journals → IsJournalsFile journals.maps (journals_text journals) journals
