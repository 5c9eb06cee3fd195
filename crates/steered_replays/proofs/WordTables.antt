-- The words of the lookup table and of the backends at the end of a replay are those that the commands have left.
use Rattle.std.proofs.Common.{◌≡◌, ◌≢◌, ℕ, zero, suc, ◌+◌, ◌*◌, ◌/◌, ◌%◌, ◌^◌, ◌<◌, ◌≤◌, ◌==◌, Bool, true, false, List, [], ◌∷◌, ◌++◌, length, replicate, refl, sym, ◌∙◌, ap, subst, arith}
use Rattle.std.specs.Prelude.{Option, Some, fold, slice_get, if◌then◌else◌}
use Rattle.std.specs.List.{AllByRecursion}
use Rattle.std.proofs.Math.Nat.{mod-lt}
use Rattle.std.proofs.lemmas.Bool.{eqb-true, eqb-false, le-ltb}
use Rattle.std.proofs.lemmas.Bool.Decides.{nat_tests}
use Rattle.std.proofs.lemmas.List.{length-replicate}
use Rattle.std.proofs.lemmas.Nat.{mod-mul-add}
use Rattle.ebpf_decode.specs.declared.map.MapDef.{MapDef}
use Rattle.ebpf_decode.specs.declared.map.MapKind.TheVariants.{Array}
use Rattle.wire.specs.declared.records.Sent.{Sent}
use Rattle.semantics.specs.declared.call.Entry.{Entry}
use Rattle.semantics.specs.declared.options.Options.{Options}
use Rattle.semantics.specs.declared.plan.ShardPlan.{ShardPlan}
use Rattle.semantics.specs.LittleEndian.{number_of_bytes, bytes_of_number}
use Rattle.semantics.specs.ShardPlan.{plan_for_map}
use Rattle.journals.specs.JournalsView.{JournalsView, entries_at}
use Rattle.maglev.specs.declared.backend.Backend.{Backend as Server}
use Rattle.maglev.specs.Population.{share_of}
use Rattle.maglev.specs.RingSize.{IsRingSize}
use Rattle.conntrack.specs.declared.steering_maps.SteeringMap.TheVariants.{Ring, Backends}
use Rattle.conntrack.specs.Layouts.{owner_word, padded_word}
use Rattle.conntrack.specs.SteeringMaps.{defined, ring_entries, sized_maps}
use Rattle.steer.specs.SteeringLaws.{of_size, shipped_program}
use Rattle.control.specs.declared.command.Action.{Action}
use Rattle.control.specs.declared.command.Command.{Command}
use Rattle.control.specs.Controlling.{IsTable, has_number}
use Rattle.actors.specs.declared.outcome.Outcome.{Outcome}
use Rattle.actors.specs.Accounted.{IsAccounted}
use Rattle.steered_replays.specs.LastWords.{front_number, words_over, last_words, AreLastWords, LastWordsFollow}
use Rattle.steered_replays.specs.SteeredRuns.{IsSteeredReplay, ReplaysAreSteered}
use Rattle.steered_replays.specs.TablesAtEnd.{IsPlainReplay, IsRecordedUp, carried_out, last_histories, no_record, record_left, up_left}
use Rattle.steered_replays.proofs.ArrayShards.{last_put}
use Rattle.steered_replays.proofs.FleetLemmas.{owner_up}
use Rattle.steered_replays.proofs.PlaceLemmas.{part_place, some_shard}
use Rattle.steered_replays.proofs.TableLemmas.{AreLastPuts, IsPlanOf, below_all, last_puts, planned_of}
use Rattle.steered_replays.proofs.WordLemmas.{after_keeps, after_puts, as_many_after}
use Rattle.steered_replays.proofs.CommandTables.{found_one}

-- ---- the front of a value

front_of : (front rest : List ℕ) → length front ≡ 4 → front_number (front ++ rest) ≡ number_of_bytes front
front_of (a ∷ b ∷ c ∷ d ∷ []) rest four =
    ap (λ (test : Bool). if test then 0 else number_of_bytes (a ∷ b ∷ c ∷ d ∷ [])) (le-ltb (length (a ∷ b ∷ c ∷ d ∷ rest)) 4 (omega arith))
front_of [] rest four = absurd cc
front_of (a ∷ []) rest four = absurd cc
front_of (a ∷ b ∷ []) rest four = absurd cc
front_of (a ∷ b ∷ c ∷ []) rest four = absurd cc
front_of (a ∷ b ∷ c ∷ d ∷ e ∷ more) rest four = absurd cc

word_back : (word : ℕ) → word < 2 ^ 32 → number_of_bytes (bytes_of_number 4 word) ≡ word
word_back word small = omega (arith, small)

front_word : (word : ℕ) → word < 2 ^ 32 → front_number (padded_word word) ≡ word
front_word word small = front_of (bytes_of_number 4 word) (0 ∷ 0 ∷ 0 ∷ 0 ∷ []) refl ∙ word_back word small

nothing_put : (count index : ℕ) → index < count → slice_get {X = ℕ} (replicate count 0) index ≡ Some 0
nothing_put zero index within = absurd (omega (arith, within))
nothing_put (suc count) zero within = refl
nothing_put (suc count) (suc index) within = nothing_put count index (omega (arith, within))

as_many_over : (journals : JournalsView) (first count : ℕ) (words : List ℕ) → length (words_over journals first count words) ≡ length words
as_many_over journals first zero words = refl
as_many_over journals first (suc count) words =
    as_many_after (words_over journals first count words) (entries_at journals (first + count)) ∙ as_many_over journals first count words

-- ---- the words of an array's shards, one after the other

module _ (notes size : ℕ) (script : List Command) (options : Options) (records : List Sent) (outcome : Outcome)
    (accounted : IsAccounted (shipped_program notes (of_size options.shards size)) script options records outcome) (some : 0 < options.shards)
    (place entries : ℕ) (known : slice_get (sized_maps notes size) place ≡ Some (defined Array 4 8 entries))
    (high : (part : ℕ) → part < options.shards → place * options.shards + part < 5 * options.shards) where
  abbrev first : ℕ
  first = place * options.shards

  abbrev history : ℕ → List Entry
  history number = last_histories outcome.journals number

  abbrev plan : ℕ → ShardPlan
  plan part = accounted.plan (first + part)

  record IsPart (part : ℕ) : Type 0 where
    within : first + part < accounted.count
    of_map : IsPlanOf options (defined Array 4 8 entries) (plan part)
    part_is : (plan part).part ≡ part

  part_of : (part : ℕ) → part < options.shards → IsPart part
  part_of part below =
      let within : first + part < accounted.count = below_all (first + part) options.shards accounted.count (high part below) accounted.plans.count_is in
      let planned : plan_for_map options (first + part) (Some (defined Array 4 8 entries)) ≡ Some (plan part) =
      sym (ap (plan_for_map options (first + part)) (ap (slice_get (sized_maps notes size)) (part_place options.shards place part below) ∙ known))
      ∙ accounted.plans.each (first + part) within in
      let same : record {
        number = first + part;
        part = (first + part) % options.shards;
        parts = options.shards;
        definition = defined Array 4 8 entries;
        workers = options.workers;
        reserve = options.journal;
      } ≡ plan part = cc planned in
      record {
        within = within;
        of_map = planned_of options (first + part) (defined Array 4 8 entries) (plan part) planned;
        part_is = ap (λ (p : ShardPlan). p.part) (sym same) ∙ mod-mul-add place options.shards part below;
      }

  module _ (count : ℕ) where
    abbrev words : ℕ → List ℕ
    words done = words_over outcome.journals first done (replicate count 0)

    as_many : (done : ℕ) → length (words done) ≡ count
    as_many done = as_many_over outcome.journals first done (replicate count 0) ∙ length-replicate count 0

    module _ (index : ℕ) (inside : index < count) where
      abbrev part : ℕ
      part = index % options.shards

      abbrev LastIs : List ℕ → Type 0
      LastIs list =
          slice_get list index ≡ Some (front_number (last_put options.shards (index / options.shards) (replicate 8 0) (history (first + part))))

      record IsCovered (done : ℕ) : Type 0 where
        put : part < done → LastIs (words done)
        left : done ≤ part → slice_get (words done) index ≡ Some 0

      other_keeps : (done : ℕ) → done < options.shards → part ≢ done → slice_get (words (suc done)) index ≡ slice_get (words done) index
      other_keeps done below other =
          let it = part_of done below in
          after_keeps (plan done) (ap (λ (d : MapDef). d.kind) it.of_map.definition_is) (ap (λ (d : MapDef). d.key_size) it.of_map.definition_is) index (words done)
          (λ same. other (ap (λ (n : ℕ). index % n) (sym it.of_map.parts_are) ∙ same ∙ it.part_is)) (entries_at outcome.journals (first + done))
          (accounted.legal (first + done) it.within)

      own_puts : (done : ℕ) → done < options.shards → part ≡ done → slice_get (words done) index ≡ Some 0 → LastIs (words (suc done))
      own_puts done below own has =
          let it = part_of done below in
          let puts : slice_get (words (suc done)) index
          ≡ Some (front_number (last_put (plan done).parts (index / (plan done).parts) (replicate 8 0) (history (first + done)))) =
          after_puts (plan done) (ap (λ (d : MapDef). d.kind) it.of_map.definition_is) (ap (λ (d : MapDef). d.key_size) it.of_map.definition_is) index (words done)
          (replicate 8 0) (ap (λ (n : ℕ). index % n) it.of_map.parts_are ∙ own ∙ sym it.part_is)
          (let all = as_many done in omega (arith, all, inside)) has (entries_at outcome.journals (first + done)) (accounted.legal (first + done) it.within) in
          puts
          ∙ ap (λ (n : ℕ). Some (front_number (last_put n (index / n) (replicate 8 0) (history (first + done))))) it.of_map.parts_are
          ∙ ap (λ (n : ℕ). Some (front_number (last_put options.shards (index / options.shards) (replicate 8 0) (history (first + n))))) (sym own)

      next : (done : ℕ) → done < options.shards → IsCovered done → (here : Bool) → (part == done) ≡ here → IsCovered (suc done)
      next done below before true is =
          let own : part ≡ done = eqb-true part done is in
          record {
            put = λ within. own_puts done below own (before.left (omega (arith, own)));
            left = λ past. absurd (omega (arith, past, own));
          }
      next done below before false is =
          let other : part ≢ done = eqb-false part done is in
          record {
            put = λ within. other_keeps done below other ∙ before.put (omega (arith, within, other));
            left = λ past. other_keeps done below other ∙ before.left (omega (arith, past));
          }

      covered : (done : ℕ) → done ≤ options.shards → IsCovered done
      covered zero few = record { put = λ within. absurd (omega (arith, within)); left = λ past. nothing_put count index inside }
      covered (suc done) few = next done (omega (arith, few)) (covered done (omega (arith, few))) (part == done) refl

      pub last_at : LastIs (words options.shards)
      last_at = (covered options.shards (omega arith)).put (mod-lt index some)

-- ---- shares

-- as many places have a word as have its owner
abbrev AreOwnerWords : List ℕ → List ℕ → Type 0
AreOwnerWords words owners = (slot : ℕ) → slot < length words → slice_get words slot ≡ Some (owner_word (slice_get owners slot))

later_words : (word : ℕ) (words : List ℕ) → AreOwnerWords (word ∷ words) [] → AreOwnerWords words []
later_words word words are = λ slot within. are (suc slot) (omega (arith, within))

-- this many and those of the list that are this number
abbrev and_those : ℕ → ℕ → List ℕ → ℕ
and_those number first list = fold (λ (sum item : ℕ). sum + (if item == number then 1 else 0)) first list

no_more : (words : List ℕ) → AreOwnerWords words [] → (number first : ℕ) → and_those (number + 1) first words ≡ first
no_more [] are number first = refl
no_more (word ∷ words) are number first =
    let known : Some word ≡ Some 0 = are 0 (omega arith) in
    let none : word ≡ 0 = cc known in
    let test : (word == number + 1) ≡ false = grind (arith, nat_tests, none) in
    let same : first + 0 ≡ first = omega arith in
    ap (λ (t : Bool). and_those (number + 1) (first + (if t then 1 else 0)) words) test
    ∙ no_more words (later_words word words are) number (first + 0)
    ∙ same

as_many_more : (words owners : List ℕ) → length owners ≡ length words → AreOwnerWords words owners → (number first : ℕ) →
    and_those (number + 1) first words ≡ and_those number first owners
as_many_more [] [] long are number first = refl
as_many_more [] (owner ∷ owners) long are number first = absurd cc
as_many_more (word ∷ words) [] long are number first = absurd cc
as_many_more (word ∷ words) (owner ∷ owners) long are number first =
    let known : Some word ≡ Some (owner + 1) = are 0 (omega arith) in
    let is : word ≡ owner + 1 = cc known in
    let test : (word == number + 1) ≡ (owner == number) = grind (arith, nat_tests, is) in
    ap (λ (t : Bool). and_those (number + 1) (first + (if t then 1 else 0)) words) test
    ∙ as_many_more words owners (omega (arith, long)) (λ slot within. are (suc slot) (omega (arith, within))) number
    (first + (if owner == number then 1 else 0))

no_shares : (words : List ℕ) → AreOwnerWords words [] → (number : ℕ) → share_of (number + 1) words ≡ 0
no_shares words are number = no_more words are number 0

same_shares : (words owners : List ℕ) → length owners ≡ length words → AreOwnerWords words owners → (number : ℕ) →
    share_of (number + 1) words ≡ share_of number owners
same_shares words owners long are number = as_many_more words owners long are number 0

-- ---- a replay

module _ (notes size : ℕ) (is : IsRingSize size) (script : List Command) (options : Options) (records : List Sent) (outcome : Outcome)
    (plain : IsPlainReplay notes size script options records outcome)
    (replayed : IsSteeredReplay size (shipped_program notes (of_size options.shards size)) script options records outcome plain.accounted) where
  abbrev done : List Action
  done = carried_out outcome.refused.items 0 script

  some : 0 < options.shards
  some = some_shard options.shards plain.fit.power_of_two

  puts : AreLastPuts size options.shards done (last_histories outcome.journals)
  puts = last_puts notes size is script options records outcome plain replayed

  ring_high : (part : ℕ) → part < options.shards → 2 * options.shards + part < 5 * options.shards
  ring_high part below = omega (arith, below)

  backend_high : (part : ℕ) → part < options.shards → 3 * options.shards + part < 5 * options.shards
  backend_high part below = omega (arith, below)

  ring_is : last_words outcome.journals Ring size ≡ words_over outcome.journals (2 * options.shards) options.shards (replicate size 0)
  ring_is = ap (λ (o : Options). words_over outcome.journals (2 * o.shards) o.shards (replicate size 0)) plain.accounted.options_are

  backends_are : last_words outcome.journals Backends 256 ≡ words_over outcome.journals (3 * options.shards) options.shards (replicate 256 0)
  backends_are = ap (λ (o : Options). words_over outcome.journals (3 * o.shards) o.shards (replicate 256 0)) plain.accounted.options_are

  -- the number of an owner fits
  few_owners : (up : List Server) → IsTable size up puts.owners → AllByRecursion (IsRecordedUp done) up → (slot : ℕ) → slot < size →
      owner_word (slice_get puts.owners slot) < 2 ^ 32
  few_owners [] table all slot within =
      subst (λ (l : List ℕ). owner_word (slice_get l slot) < 2 ^ 32) (sym table) (omega arith)
  few_owners (server ∷ up) table all slot within =
      let has = owner_up size server up puts.owners table slot within in
      let one = found_one (IsRecordedUp done) (has_number has.number) (server ∷ up) has.server has.found all in
      let at : has.server.number ≡ has.number = eqb-true has.server.number has.number one.0 in
      let few : has.number < 256 = subst (λ n. n < 256) at one.1.few in
      subst (λ (o : Option ℕ). owner_word o < 2 ^ 32) (sym has.owner_is) (omega (arith, few))

  owned : (slot : ℕ) → slot < size → slice_get (last_words outcome.journals Ring size) slot ≡ Some (owner_word (slice_get puts.owners slot))
  owned slot within =
      ap (λ (l : List ℕ). slice_get l slot) ring_is
      ∙ last_at notes size script options records outcome plain.accounted some 2 (ring_entries size) refl ring_high size slot within
      ∙ ap (λ (value : List ℕ). Some (front_number value)) (puts.ring slot within)
      ∙ ap Some (front_word (owner_word (slice_get puts.owners slot)) (few_owners (up_left [] done) puts.table puts.up slot within))

  as_many_words : length (last_words outcome.journals Ring size) ≡ size
  as_many_words =
      ap (λ (l : List ℕ). length l) ring_is
      ∙ as_many notes size script options records outcome plain.accounted some 2 (ring_entries size) refl ring_high size options.shards

  shared : (up : List Server) → IsTable size up puts.owners → (number : ℕ) →
      share_of (number + 1) (last_words outcome.journals Ring size) ≡ share_of number puts.owners
  shared [] table number =
      no_shares (last_words outcome.journals Ring size)
      (λ slot within. owned slot (let all = as_many_words in omega (arith, all, within)) ∙ ap (λ (l : List ℕ). Some (owner_word (slice_get l slot))) table) number
      ∙ ap (share_of number) (sym table)
  shared (server ∷ up) table number =
      same_shares (last_words outcome.journals Ring size) puts.owners (table.0.slots ∙ sym as_many_words)
      (λ slot within. owned slot (let all = as_many_words in omega (arith, all, within))) number

  addressed : (number : ℕ) → number < 256 →
      slice_get (last_words outcome.journals Backends 256) number ≡ Some (number_of_bytes (record_left number no_record done).address.0)
  addressed number few =
      ap (λ (l : List ℕ). slice_get l number) backends_are
      ∙ last_at notes size script options records outcome plain.accounted some 3 256 refl backend_high 256 number few
      ∙ ap (λ (value : List ℕ). Some (front_number value)) (puts.backends number few)
      ∙ ap Some (front_of (record_left number no_record done).address.0 _ (puts.four number few))

  are_last_words : AreLastWords size done (last_words outcome.journals Ring size) (last_words outcome.journals Backends 256)
  are_last_words = record {
    owners = puts.owners;
    table = puts.table;
    as_many = as_many_words;
    owned = owned;
    shares = shared (up_left [] done) puts.table;
    addresses = addressed;
  }

pub last_words_follow : ReplaysAreSteered → LastWordsFollow
last_words_follow steered notes size is script options records outcome plain =
    are_last_words notes size is script options records outcome plain (steered notes size is script options records outcome plain.fit plain.captured plain.accounted)
