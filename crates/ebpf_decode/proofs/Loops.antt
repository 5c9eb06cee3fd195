-- Reading maps, and slots, one after the other.
use Rattle.std.proofs.Common.{◌≡◌, ℕ, suc, ◌-◌, ◌+◌, ◌≤◌, ◌<◌, List, [], ◌∷◌, ◌++◌, drop, Option, Some, None, Result, Ok, Err, refl, sym, ap, ◌∙◌, append_assoc, arith}
use Rattle.std.proofs.lemmas.List.{append-nil}
use Rattle.ebpf_decode.specs.declared.fault.DecodeFault.{DecodeFault}
use Rattle.ebpf_decode.specs.declared.fault.DecodeFault.TheVariants.{BadMap, Memory}
use Rattle.ebpf_decode.specs.declared.fault.DecodeFault.TheVariants as faults
use Rattle.ebpf_decode.specs.declared.map.MapDef.{MapDef}
use Rattle.ebpf_decode.specs.declared.insn.Insn.{Insn}
use Rattle.ebpf_decode.specs.declared.wide.WideHead.{WideHead}
use Rattle.ebpf_decode.specs.declared.wide.SlotReading.{SlotReading}
use Rattle.ebpf_decode.specs.declared.version.Version.{Version}
use Rattle.ebpf_decode.specs.SlotForm.{slot_at, slots_at}
use Rattle.ebpf_decode.specs.InstructionReading.{◌>>=◌, step_at, code_from, pending_of, finished_by}
use Rattle.ebpf_decode.specs.MapForm.{map_in_bytes}
use Rattle.ebpf_decode.specs.ImageFormat.{maps_at}

-- ---- maps

-- the maps that were read before, and those that are still read
abbrev pub with_front : List MapDef → Result (List MapDef × List ℕ) DecodeFault → Result (List MapDef × List ℕ) DecodeFault
with_front front read = read >>= λ x. Ok (front ++ x.0, x.1)

regroup : (front : List MapDef) (m : MapDef) (read : Result (List MapDef × List ℕ) DecodeFault) → with_front front (read >>= λ x. Ok (m ∷ x.0, x.1)) ≡ with_front (front ++ m ∷ []) read
regroup front m (Ok x) = ap (λ (ms : List MapDef). Ok (ms, x.1)) (simp append_assoc)
regroup front m (Err f) = refl

pub map_more : (version : Version) (front : List MapDef) (count i : ℕ) (bytes : List ℕ) (m : MapDef) (total : Result (List MapDef × List ℕ) DecodeFault) → i < count → map_in_bytes version bytes ≡ Some m
    → with_front front (maps_at version i (count - i) bytes) ≡ total → with_front (front ++ m ∷ []) (maps_at version (i + 1) (count - (i + 1)) (drop 16 bytes)) ≡ total
unfolding maps_at
map_more version front count i bytes m total lt found so_far =
    let k : count - i ≡ suc (count - (i + 1)) = omega arith in
    let one : with_front front (maps_at version i (count - i) bytes) ≡ with_front (front ++ m ∷ []) (maps_at version (i + 1) (count - (i + 1)) (drop 16 bytes)) = rw (k, found) (regroup front m (maps_at version (i + 1) (count - (i + 1)) (drop 16 bytes))) in
    sym one ∙ so_far

pub map_refused : (version : Version) (front : List MapDef) (count i : ℕ) (bytes : List ℕ) (total : Result (List MapDef × List ℕ) DecodeFault) → i < count → map_in_bytes version bytes ≡ None
    → with_front front (maps_at version i (count - i) bytes) ≡ total → total ≡ Err (BadMap i)
unfolding maps_at
map_refused version front count i bytes total lt none so_far =
    let k : count - i ≡ suc (count - (i + 1)) = omega arith in
    let one : with_front front (maps_at version i (count - i) bytes) ≡ Err (BadMap i) = rw (k, none) refl in
    sym so_far ∙ one

pub maps_done : (version : Version) (front : List MapDef) (count i : ℕ) (bytes : List ℕ) (total : Result (List MapDef × List ℕ) DecodeFault) → count ≤ i → with_front front (maps_at version i (count - i) bytes) ≡ total → total ≡ Ok (front, bytes)
unfolding maps_at
maps_done version front count i bytes total le so_far =
    let k : count - i ≡ 0 = omega arith in
    let one : with_front front (maps_at version i (count - i) bytes) ≡ Ok (front, bytes) = rw k (ap (λ (ms : List MapDef). Ok (ms, bytes)) (append-nil front)) in
    sym so_far ∙ one

-- ---- slots

abbrev pub in_front : List Insn → Result (List Insn) DecodeFault → Result (List Insn) DecodeFault
in_front front read = read >>= λ x. Ok (front ++ x)

regroup_code : (front new : List Insn) (read : Result (List Insn) DecodeFault) → in_front front (read >>= λ x. Ok (new ++ x)) ≡ in_front (front ++ new) read
regroup_code front new (Ok x) = ap (λ (c : List Insn). Ok c) (simp append_assoc)
regroup_code front new (Err f) = refl

code_step : (version : Version) (place : ℕ) (pending : Option WideHead) (n : ℕ) (bytes : List ℕ) → code_from version place pending (slots_at (suc n) bytes) ≡ (step_at version place pending (slot_at bytes) >>= λ reading. code_from version (place + 1) (pending_of reading) (slots_at n (drop 8 bytes)) >>= λ others. Ok (finished_by reading ++ others))
unfolding slots_at code_from
code_step version place None n bytes = refl
code_step version place (Some head) n bytes = refl

pub slot_more : (version : Version) (front : List Insn) (pending : Option WideHead) (count i : ℕ) (bytes : List ℕ) (reading : SlotReading) (total : Result (List Insn) DecodeFault) → i < count → step_at version i pending (slot_at bytes) ≡ Ok reading
    → in_front front (code_from version i pending (slots_at (count - i) bytes)) ≡ total → in_front (front ++ finished_by reading) (code_from version (i + 1) (pending_of reading) (slots_at (count - (i + 1)) (drop 8 bytes))) ≡ total
slot_more version front pending count i bytes reading total lt found so_far =
    let k : count - i ≡ suc (count - (i + 1)) = omega arith in
    let one : in_front front (code_from version i pending (slots_at (count - i) bytes)) ≡ in_front (front ++ finished_by reading) (code_from version (i + 1) (pending_of reading) (slots_at (count - (i + 1)) (drop 8 bytes))) = rw (k, code_step version i pending (count - (i + 1)) bytes, found) (regroup_code front (finished_by reading) (code_from version (i + 1) (pending_of reading) (slots_at (count - (i + 1)) (drop 8 bytes)))) in
    sym one ∙ so_far

pub slot_refused : (version : Version) (front : List Insn) (pending : Option WideHead) (count i : ℕ) (bytes : List ℕ) (fault : DecodeFault) (total : Result (List Insn) DecodeFault) → i < count → step_at version i pending (slot_at bytes) ≡ Err fault
    → in_front front (code_from version i pending (slots_at (count - i) bytes)) ≡ total → total ≡ Err fault
slot_refused version front pending count i bytes fault total lt found so_far =
    let k : count - i ≡ suc (count - (i + 1)) = omega arith in
    let one : in_front front (code_from version i pending (slots_at (count - i) bytes)) ≡ Err fault = rw (k, code_step version i pending (count - (i + 1)) bytes, found) refl in
    sym so_far ∙ one

-- the slots are read, and no wide instruction waits for its second
pub slots_done : (version : Version) (front : List Insn) (count i : ℕ) (bytes : List ℕ) (total : Result (List Insn) DecodeFault) → count ≤ i → in_front front (code_from version i None (slots_at (count - i) bytes)) ≡ total → total ≡ Ok front
unfolding slots_at code_from
slots_done version front count i bytes total le so_far =
    let k : count - i ≡ 0 = omega arith in
    let one : in_front front (code_from version i None (slots_at (count - i) bytes)) ≡ Ok front = rw k (ap (λ (c : List Insn). Ok c) (append-nil front)) in
    sym so_far ∙ one

pub slots_cut : (version : Version) (front : List Insn) (head : WideHead) (count i : ℕ) (bytes : List ℕ) (total : Result (List Insn) DecodeFault) → count ≤ i → in_front front (code_from version i (Some head) (slots_at (count - i) bytes)) ≡ total → total ≡ Err (faults.WideCut (i - 1))
unfolding slots_at code_from
slots_cut version front head count i bytes total le so_far =
    let k : count - i ≡ 0 = omega arith in
    let one : in_front front (code_from version i (Some head) (slots_at (count - i) bytes)) ≡ Err (faults.WideCut (i - 1)) = rw k refl in
    sym so_far ∙ one
