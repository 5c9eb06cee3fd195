-- Two workers on one shard: the first enters, finds a key, loads its value and leaves; the second enters before the first leaves.
use Rattle.std.specs.Prelude.{◌≡◌, ℕ, List, [], ◌∷◌, length}
use Rattle.ebpf_decode.specs.declared.map.MapDef.{MapDef}
use Rattle.ebpf_decode.specs.declared.map.MapKind.TheVariants.{Array}
use Rattle.semantics.specs.declared.call.Call.TheVariants.{Enter, Leave, Lookup, Load}
use Rattle.semantics.specs.declared.call.Reply.TheVariants.{Entered, Left, Cell, Word}
use Rattle.semantics.specs.declared.call.Caller.TheVariants.{Worker, Controller, Reclaimer}
use Rattle.semantics.specs.declared.call.CellRef.{CellRef}
use Rattle.semantics.specs.declared.call.Entry.{Entry}
use Rattle.semantics.specs.declared.options.Options.{Options}
use Rattle.semantics.specs.declared.plan.ShardPlan.{ShardPlan}
use Rattle.semantics.specs.History.{IsLegalHistory}
use Rattle.shards.specs.CallerView.{CallerView, BeginsWith}
use Rattle.shards.specs.Passes.{PassView, own_at}

-- an array of one element, in one shard, whose journal has room for 16 entries
abbrev pub one_element : MapDef
one_element = record { kind = Array; key_size = 4; value_size = 8; max_entries = 1 }

abbrev pub for_two : Options
for_two = record { workers = 2; shards = 1; journal = 16 }

abbrev pub its_plan : ShardPlan
its_plan = record { number = 0; part = 0; parts = 1; definition = one_element; workers = 2; reserve = 16 }

-- ---- the entries

abbrev pub enters : ℕ → Entry
enters worker = record { who = Worker worker; call = Enter 0; reply = Entered }

abbrev pub first_cell : CellRef
first_cell = record { shard = 0; id = 0 }

-- index 0 has the first cell
abbrev pub finds : Entry
finds = record { who = Worker 0; call = Lookup 0 (0 ∷ 0 ∷ 0 ∷ 0 ∷ []); reply = Cell first_cell }

abbrev pub loads : ℕ → Entry
loads word = record { who = Worker 0; call = Load first_cell 0 8; reply = Word word }

abbrev pub leaves : Entry
leaves = record { who = Worker 0; call = Leave 0; reply = Left }

-- ---- what the passes know

-- the first has entered, found and loaded: these are its own entries, and what it has seen ends with the Load
pub record HasFoundAndLoaded (view : CallerView) (word : ℕ) : Type 0 where
  pub own : view.own ≡ loads word ∷ finds ∷ enters 0 ∷ []
  pub earlier : List Entry
  pub seen : view.seen ≡ loads word ∷ earlier
  pub legal : IsLegalHistory its_plan view.seen

-- the second has entered
pub record HasEntered (view : CallerView) : Type 0 where
  pub own : view.own ≡ enters 1 ∷ []
  pub earlier : List Entry
  pub seen : view.seen ≡ enters 1 ∷ earlier
  pub legal : IsLegalHistory its_plan view.seen

-- the first has left: its own entries are four, and what it has seen ends with the Leave and begins with what it had seen before
pub record HasLeft (before after : CallerView) (word : ℕ) : Type 0 where
  pub own : after.own ≡ leaves ∷ loads word ∷ finds ∷ enters 0 ∷ []
  pub earlier : List Entry
  pub seen : after.seen ≡ leaves ∷ earlier
  pub begins : BeginsWith earlier before.seen
  pub legal : IsLegalHistory its_plan after.seen

-- the second entered when the first had loaded, and then the first left
pub record AreBothDone (first second : CallerView) (word : ℕ) : Type 0 where
  pub before : CallerView
  pub loaded : HasFoundAndLoaded before word
  pub left : HasLeft before first word
  pub entered : HasEntered second

-- the passes of all callers that there are: the first worker made four calls and the second one, and the others none
pub record AreTheFour (passes : List PassView) : Type 0 where
  pub controller : PassView
  pub reclaimer : PassView
  pub first : PassView
  pub second : PassView
  pub all : passes ≡ controller ∷ reclaimer ∷ first ∷ second ∷ []
  pub who : (controller.who ≡ Controller) × (reclaimer.who ≡ Reclaimer) × (first.who ≡ Worker 0) × (second.who ≡ Worker 1)
  pub none : (own_at controller 0 ≡ []) × (own_at reclaimer 0 ≡ [])
  pub four : length (own_at first 0) ≡ 4
  pub one : length (own_at second 0) ≡ 1
