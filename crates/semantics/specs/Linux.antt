-- Linux's numbers that programs and maps speak in: error numbers and update flags (bpf(2)), helpers, and the fields of the
-- context, struct xdp_md.
use Rattle.std.specs.Prelude.{ℕ, ◌==◌, Bool, true, false, ℤ, pos, negsuc, List, [], ◌∷◌, Option, None, find}
use Rattle.std.specs.Ordering.{int_eq}
use Rattle.semantics.specs.declared.linux.Errno.{Errno}
use Rattle.semantics.specs.declared.linux.Errno.TheVariants.{NoEntry, TooBig, NoMemory, Exists, Invalid}
use Rattle.semantics.specs.declared.linux.UpdateFlags.{UpdateFlags}
use Rattle.semantics.specs.declared.linux.UpdateFlags.TheVariants.{Any, NoExist, Exist}
use Rattle.semantics.specs.declared.linux.Helper.{Helper}
use Rattle.semantics.specs.declared.linux.Helper.TheVariants.{MapLookupElem, MapUpdateElem, MapDeleteElem, KtimeGetNs, GetSmpProcessorId}
use Rattle.semantics.specs.declared.linux.Helper.TheVariants.{XdpAdjustHead}
use Rattle.semantics.specs.declared.linux.ContextField.{ContextField}
use Rattle.semantics.specs.declared.linux.ContextField.TheVariants.{Data, DataEnd, IngressIfindex, RxQueueIndex}

-- ---- error numbers, negated as a helper answers them

abbrev pub errno_code : Errno → ℤ
errno_code NoEntry = negsuc 1
errno_code TooBig = negsuc 6
errno_code NoMemory = negsuc 11
errno_code Exists = negsuc 16
errno_code Invalid = negsuc 21

abbrev pub errnos : List Errno
errnos = NoEntry ∷ TooBig ∷ NoMemory ∷ Exists ∷ Invalid ∷ []

-- the error of an answer
abbrev pub errno_of : ℤ → Option Errno
errno_of code = find (λ errno. int_eq code (errno_code errno)) errnos

-- the answer of a call that did what it was asked
abbrev pub success : ℤ
success = pos 0

-- ---- flags of an update

abbrev pub flags_number : UpdateFlags → ℕ
flags_number Any = 0
flags_number NoExist = 1
flags_number Exist = 2

abbrev pub all_update_flags : List UpdateFlags
all_update_flags = Any ∷ NoExist ∷ Exist ∷ []

abbrev pub update_flags_of : ℕ → Option UpdateFlags
update_flags_of number = find (λ flags. number == flags_number flags) all_update_flags

-- ---- helpers

abbrev pub helper_number : Helper → ℕ
helper_number MapLookupElem = 1
helper_number MapUpdateElem = 2
helper_number MapDeleteElem = 3
helper_number KtimeGetNs = 5
helper_number GetSmpProcessorId = 8
helper_number XdpAdjustHead = 44

abbrev pub helpers : List Helper
helpers = MapLookupElem ∷ MapUpdateElem ∷ MapDeleteElem ∷ KtimeGetNs ∷ GetSmpProcessorId ∷ XdpAdjustHead ∷ []

-- the helper of an immediate
abbrev pub helper_of : ℤ → Option Helper
helper_of (pos number) = find (λ helper. number == helper_number helper) helpers
helper_of (negsuc below) = None

-- the helper changes a map
abbrev pub changes_map : Helper → Bool
changes_map MapUpdateElem = true
changes_map MapDeleteElem = true
changes_map helper = false

-- what the helper answers depends on the worker that runs
abbrev pub helper_asks_worker : Helper → Bool
helper_asks_worker GetSmpProcessorId = true
helper_asks_worker helper = false

-- ---- fields of the context, each of four bytes

abbrev pub field_offset : ContextField → ℕ
field_offset Data = 0
field_offset DataEnd = 4
field_offset IngressIfindex = 12
field_offset RxQueueIndex = 16

abbrev pub context_fields : List ContextField
context_fields = Data ∷ DataEnd ∷ IngressIfindex ∷ RxQueueIndex ∷ []

-- the field that begins at an offset
abbrev pub field_at : ℤ → Option ContextField
field_at (pos offset) = find (λ field. offset == field_offset field) context_fields
field_at (negsuc below) = None

-- what the field holds depends on the worker that runs
abbrev pub field_asks_worker : ContextField → Bool
field_asks_worker RxQueueIndex = true
field_asks_worker field = false
