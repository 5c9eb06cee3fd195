-- The rule of a shard's word, which is the length of the shard's one history and the shard's lock: four times the number of entries, and
-- the phase of the lock. The shard is the one slot of the word's table. Who takes the lock takes the slot, and who gives it back brings the
-- entries that were made in between, which are all of one caller. Each caller has one seat, which knows all entries of that caller and a
-- beginning of the history.
use Rattle.std.specs.Prelude.{◌≡◌, ◌≤◌, ◌<◌, ◌+◌, ◌*◌, ◌==◌, ℕ, zero, suc, true, false, List, [], ◌∷◌, length, reverse, slice_index}
use Rattle.std.specs.Prelude.{MatchBool}
use mathlib.Core.Option.{Option, some}
use lib.ListN.{get_elem?}
use Rattle.atomic_table.specs.Seated.{TableId}
use Rattle.atomic_table.specs.Table.{State, Me, Step}
use Rattle.semantics.specs.declared.call.Caller.{Caller}
use Rattle.semantics.specs.declared.call.Caller.TheVariants.{Worker, Controller, Reclaimer}
use Rattle.semantics.specs.declared.call.Entry.{Entry}
use Rattle.semantics.specs.declared.plan.ShardPlan.{ShardPlan}
use Rattle.semantics.specs.CallerLaws.{own_entries}
use Rattle.shards.specs.CallerView.{BeginsWith}
use Rattle.shards.specs.GuardedView.{KeyedPlan, GuardedView, keyed}
use Rattle.shards.specs.declared.rule.Known.{Known}
use Rattle.ebpf_decode.specs.declared.map.MapKind.TheVariants.{Array}

-- ---- callers by number: seats are dealt in this order

abbrev pub caller_at : ℕ → Caller
caller_at zero = Controller
caller_at (suc zero) = Reclaimer
caller_at (suc (suc number)) = Worker number

abbrev pub caller_place : Caller → ℕ
caller_place Controller = 0
caller_place Reclaimer = 1
caller_place (Worker number) = suc (suc number)

-- ---- what a seat knows

-- the seat that deals the others
abbrev pub dealer_of : KeyedPlan → ℕ → Known
dealer_of key dealt = record {
  key = key;
  seated = true;
  deals = true;
  dealt = dealt;
  acts = false;
  who = Controller;
  own = [];
  seen = [];
  holds = false;
  ended = false;
  all = [];
}

-- a caller's seat
abbrev pub pass_of : KeyedPlan → Caller → List Entry → List Entry → Known
pass_of key who own seen = record {
  key = key;
  seated = true;
  deals = false;
  dealt = 0;
  acts = true;
  who = who;
  own = own;
  seen = seen;
  holds = false;
  ended = false;
  all = [];
}

-- a seat that makes no call, without the shard, and with a shard of this history
abbrev pub visitor_of : KeyedPlan → Known
visitor_of key = record {
  key = key;
  seated = true;
  deals = false;
  dealt = 0;
  acts = false;
  who = Controller;
  own = [];
  seen = [];
  holds = false;
  ended = false;
  all = [];
}

abbrev pub visiting : KeyedPlan → List Entry → Known
visiting key all = record {
  key = key;
  seated = true;
  deals = false;
  dealt = 0;
  acts = false;
  who = Controller;
  own = [];
  seen = [];
  holds = true;
  ended = false;
  all = all;
}

-- the plan of no shard
abbrev pub no_plan : ShardPlan
no_plan = record {
  number = 0;
  part = 0;
  parts = 1;
  definition = record { kind = Array; key_size = 4; value_size = 8; max_entries = 1 };
  workers = 1;
  reserve = 16;
}

-- the name of no table
abbrev pub no_table : TableId
no_table = record { words = 0; slots = 0; views_name = 0; atom = 0; block = 0; offset = 0; slot_names = [] }

abbrev pub no_key : KeyedPlan
no_key = keyed no_plan no_table

-- what is left of a seat that another took in
abbrev pub nobody : Known
nobody = record {
  key = no_key;
  seated = false;
  deals = false;
  dealt = 0;
  acts = false;
  who = Controller;
  own = [];
  seen = [];
  holds = false;
  ended = false;
  all = [];
}

-- ---- the rule

-- which of the table's words it is: what is before it and behind it keeps all else off its cache lines
abbrev pub lock_place : ℕ
lock_place = 16

pub record DealerFits (dealer dealt id : ℕ) (v : Known) : Type 0 where
  pub one : id ≡ dealer
  pub count : v.dealt ≡ dealt

-- own entries are all of the caller's, and what was seen is a beginning
pub record IsKnownIn (log : List Entry) (v : Known) : Type 0 where
  pub own : v.own ≡ own_entries v.who log
  pub begins : BeginsWith log v.seen

pub record PassFits (dealt : ℕ) (seat : ℕ → ℕ) (log : List Entry) (id : ℕ) (v : Known) : Type 0 where
  pub one : seat (caller_place v.who) ≡ id
  pub given : caller_place v.who < dealt
  pub known : IsKnownIn log v

-- the one that has the shard: the lock is taken, and it took it with this history
pub record HolderFits (holder phase : ℕ) (log : List Entry) (id : ℕ) (v : Known) : Type 0 where
  pub one : id ≡ holder
  pub taken : 0 < phase
  pub unclosed : phase < 3
  pub all : v.all ≡ log

-- the one that closed the shard
pub record EndFits (phase : ℕ) (log : List Entry) (v : Known) : Type 0 where
  pub closed : phase ≡ 3
  pub all : v.all ≡ log

pub record SeatFits (key : KeyedPlan) (dealer dealt : ℕ) (seat : ℕ → ℕ) (holder phase : ℕ) (log : List Entry) (id : ℕ)
    (v : Known) : Type 0 where
  pub planned : v.seated ≡ true → v.key ≡ key
  pub dealing : v.deals ≡ true → DealerFits dealer dealt id v
  pub acting : v.acts ≡ true → PassFits dealt seat log id v
  pub holding : v.holds ≡ true → HolderFits holder phase log id v
  pub ending : v.ended ≡ true → EndFits phase log v

-- the shard is in its slot, and its journal is the history
pub record IsHome (key : KeyedPlan) (homes : List (Option GuardedView)) (log : List Entry) : Type 0 where
  pub shard : GuardedView
  pub there : get_elem? homes 0 ≡ some (some shard)
  pub planned : shard.key ≡ key
  pub written : reverse shard.journal ≡ log

pub record IsLockRuleKept (key : KeyedPlan) (s : State GuardedView Known) : Type 0 where
  -- the dealing seat, how many seats were dealt, the seat of each caller, the seat that took the lock last, and the history
  pub dealer : ℕ
  pub dealt : ℕ
  pub seat : ℕ → ℕ
  pub holder : ℕ
  -- of the lock: 0 free, 1 taken, 2 taken while others may sleep, 3 closed for good
  pub phase : ℕ
  pub log : List Entry
  pub some_word : lock_place < length s.words
  pub counted : slice_index s.words lock_place ≡ 4 * length log + phase
  pub few : phase < 4
  pub free : phase ≡ 0 → IsHome key s.homes log
  pub closed : phase ≡ 3 → IsHome key s.homes log
  pub none_yet : (who : Caller) → dealt ≤ caller_place who → own_entries who log ≡ []
  pub fits : (id : ℕ) (v : Known) → get_elem? s.views id ≡ some v → SeatFits key dealer dealt seat holder phase log id v

-- ---- the steps

-- a seat for the next caller is dealt
abbrev pub one_more : Known → Known
one_more v = dealer_of v.key (suc v.dealt)

abbrev pub newcomer : Known → Known
newcomer v = pass_of v.key (caller_at v.dealt) [] []

-- a visitor comes; the table shows it the key
abbrev pub MakesVisitor : Step GuardedView → Me GuardedView Known → ℕ → Me GuardedView Known → Type 0
MakesVisitor s v found w = w ≡ (visitor_of v.0.key, [])

abbrev pub taking : Known → List Entry → Known
taking v all = record {
  key = v.key;
  seated = v.seated;
  deals = v.deals;
  dealt = v.dealt;
  acts = v.acts;
  who = v.who;
  own = v.own;
  seen = v.seen;
  holds = true;
  ended = v.ended;
  all = all;
}

-- the seat has the shard, as it was planned. If it is a caller's, it learns that its own entries are all of its caller's, and that what it
-- saw is a beginning of the history
pub record HasTaken (before after : Me GuardedView Known) : Type 0 where
  pub shard : GuardedView
  pub planned : shard.key ≡ before.0.key
  pub has : after ≡ (taking before.0 (reverse shard.journal), (0, shard) ∷ [])
  pub known : before.0.acts ≡ true → IsKnownIn (reverse shard.journal) before.0

-- the lock is taken, where the word was the one expected
abbrev pub TakesShard : Step GuardedView → Me GuardedView Known → ℕ → Me GuardedView Known → Type 0
TakesShard s v found w = MatchBool (found == s.first) (HasTaken v w) (w ≡ v)

-- the lock is marked, where the word was the one expected
abbrev pub MarksSleepers : Step GuardedView → Me GuardedView Known → ℕ → Me GuardedView Known → Type 0
MarksSleepers s v found w = w ≡ v

-- the shard is given back: its journal is the history now, and the seat has seen all of it
abbrev pub given : Known → List (ℕ × GuardedView) → Known
given v [] = v
given v (x ∷ xs) = record {
  key = v.key;
  seated = v.seated;
  deals = v.deals;
  dealt = v.dealt;
  acts = v.acts;
  who = v.who;
  own = own_entries v.who (reverse x.1.journal);
  seen = reverse x.1.journal;
  holds = false;
  ended = v.ended;
  all = [];
}

abbrev pub GivesShardBack : Step GuardedView → Me GuardedView Known → ℕ → Me GuardedView Known → Type 0
GivesShardBack s v found w = w ≡ (given v.0 v.1, [])

-- the shard is put back for good, as it was found
abbrev pub shard_closed : Known → Known
shard_closed v = record {
  key = v.key;
  seated = v.seated;
  deals = v.deals;
  dealt = v.dealt;
  acts = v.acts;
  who = v.who;
  own = v.own;
  seen = v.seen;
  holds = false;
  ended = true;
  all = v.all;
}

abbrev pub ClosesShard : Step GuardedView → Me GuardedView Known → ℕ → Me GuardedView Known → Type 0
ClosesShard s v found w = w ≡ (shard_closed v.0, [])

-- ---- a visitor's seat with a caller's, and both apart again

abbrev pub visitor_with_caller : Known → Known → Known
visitor_with_caller v w = record {
  key = v.key;
  seated = v.seated;
  deals = v.deals;
  dealt = v.dealt;
  acts = w.acts;
  who = w.who;
  own = w.own;
  seen = w.seen;
  holds = v.holds;
  ended = v.ended;
  all = v.all;
}

abbrev pub visitor_part : Known → Known
visitor_part v = visiting v.key v.all

abbrev pub pass_part : Known → Known
pass_part v = pass_of v.key v.who v.own v.seen

abbrev pub all_seen : Known → Known
all_seen v = record {
  key = v.key;
  seated = v.seated;
  deals = v.deals;
  dealt = v.dealt;
  acts = v.acts;
  who = v.who;
  own = v.own;
  seen = v.all;
  holds = v.holds;
  ended = v.ended;
  all = v.all;
}

-- the caller has seen all, and knows all of its own
abbrev pub SeesHistory : Step GuardedView → Me GuardedView Known → ℕ → Me GuardedView Known → Type 0
SeesHistory s v found w = (w ≡ (all_seen v.0, v.1)) × IsKnownIn v.0.all v.0
