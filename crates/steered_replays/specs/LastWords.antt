-- The numbers that the last Updates which were done put at the front of the values of the lookup table and of the backends, as a replay's
-- journals have them. Stores are not looked at.
use Rattle.std.specs.Prelude.{◌≡◌, ℕ, zero, suc, ◌+◌, ◌*◌, ◌<◌, nat_lt, List, [], ◌∷◌, Some, length, replicate, set, slice_get}
use Rattle.std.specs.Prelude.{slice_index, if◌then◌else◌}
use Rattle.wire.specs.declared.records.Sent.{Sent}
use Rattle.semantics.specs.declared.call.Call.{Call}
use Rattle.semantics.specs.declared.call.Call.TheVariants.{Update}
use Rattle.semantics.specs.declared.call.Entry.{Entry}
use Rattle.semantics.specs.declared.call.Reply.{Reply}
use Rattle.semantics.specs.declared.options.Options.{Options}
use Rattle.semantics.specs.LeastRecentlyUsed.{is_done}
use Rattle.semantics.specs.LittleEndian.{number_of_bytes}
use Rattle.journals.specs.JournalsView.{JournalsView, entries_at}
use Rattle.maglev.specs.Population.{share_of}
use Rattle.maglev.specs.RingSize.{IsRingSize}
use Rattle.conntrack.specs.declared.steering_maps.SteeringMap.{SteeringMap}
use Rattle.conntrack.specs.declared.steering_maps.SteeringMap.TheVariants.{Ring, Backends}
use Rattle.conntrack.specs.Layouts.{owner_word}
use Rattle.conntrack.specs.SteeringMaps.{map_place}
use Rattle.control.specs.declared.command.Action.{Action}
use Rattle.control.specs.declared.command.Command.{Command}
use Rattle.control.specs.Controlling.{IsTable}
use Rattle.actors.specs.declared.outcome.Outcome.{Outcome}
use Rattle.steered_replays.specs.TablesAtEnd.{IsPlainReplay, carried_out, no_record, record_left, up_left}

-- ---- by the journals

-- the number in the first four bytes, the lowest first; 0 where there are fewer
abbrev pub front_number : List ℕ → ℕ
front_number bytes =
    if nat_lt (length bytes) 4 then 0
    else number_of_bytes (slice_index bytes 0 ∷ slice_index bytes 1 ∷ slice_index bytes 2 ∷ slice_index bytes 3 ∷ [])

-- a word is put in its place, if there is one
abbrev pub with_word : List ℕ → ℕ → ℕ → List ℕ
with_word words place word = if nat_lt place (length words) then set words place word else words

-- an Update that was done puts a word in the place that its key says
abbrev pub word_put : List ℕ → Call → Reply → List ℕ
word_put words (Update shard key value flags) reply =
    if is_done reply then with_word words (front_number key) (front_number value) else words
word_put words call reply = words

-- the words after these entries, which are the oldest first
abbrev pub words_after : List ℕ → List Entry → List ℕ
words_after words [] = words
words_after words (entry ∷ later) = words_after (word_put words entry.call entry.reply) later

-- and after those of this many shards from one on
abbrev pub words_over : JournalsView → ℕ → ℕ → List ℕ → List ℕ
words_over journals first zero words = words
words_over journals first (suc count) words = words_after (words_over journals first count words) (entries_at journals (first + count))

-- the words of this many places of a map: 0 where there was no Update
abbrev pub last_words : JournalsView → SteeringMap → ℕ → List ℕ
last_words journals map count = words_over journals (map_place map * journals.options.shards) journals.options.shards (replicate count 0)

-- ---- by the script

-- The words of the lookup table are those of the owners by the population of the backends that these commands leave up, so each backend has as
-- many of them as slots; and those of the backends are the addresses that the last commands gave them.
pub record AreLastWords (size : ℕ) (done : List Action) (words records : List ℕ) : Type 0 where
  pub owners : List ℕ
  pub table : IsTable size (up_left [] done) owners
  pub as_many : length words ≡ size
  pub owned : (slot : ℕ) → slot < size → slice_get words slot ≡ Some (owner_word (slice_get owners slot))
  pub shares : (number : ℕ) → share_of (number + 1) words ≡ share_of number owners
  pub addresses :
      (number : ℕ) → number < 256 → slice_get records number ≡ Some (number_of_bytes (record_left number no_record done).address.0)

-- so it is at the end of each replay without updates in which no command met a full journal
abbrev pub LastWordsFollow : Type 0
LastWordsFollow =
    (notes size : ℕ) → IsRingSize size → (script : List Command) (options : Options) (records : List Sent) (outcome : Outcome) →
    IsPlainReplay notes size script options records outcome →
    AreLastWords size (carried_out outcome.refused.items 0 script) (last_words outcome.journals Ring size)
    (last_words outcome.journals Backends 256)
