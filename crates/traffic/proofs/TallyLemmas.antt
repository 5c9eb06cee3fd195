-- Counts of one list after the other are the counts of both.
use Rattle.std.proofs.Common.{◌≡◌, ◌∙◌, ℕ, zero, suc, ◌+◌, ◌<◌, ◌≤◌, Bool, List, [], ◌∷◌, ◌++◌, Option, Some, None, ap, arith, filter, get_or, length, map, refl, sym, take}
use Rattle.std.proofs.lemmas.List.{append_assoc, append-nil, ext_get_or, length-append, length-map}
use Rattle.std.proofs.lemmas.List.Elements.{filter-append}
use Rattle.std.specs.Prelude.{slice_get}
use Rattle.conntrack.specs.declared.keys.Service.{Service}
use Rattle.control.specs.declared.command.Command.{Command}
use Rattle.wire.specs.declared.records.Sent.{Sent}
use Rattle.traffic.specs.declared.kind.FrameKind.{FrameKind}
use Rattle.traffic.specs.declared.not_sent.NotSent.{NotSent}
use Rattle.traffic.specs.declared.record_line.LineVerdict.{LineVerdict}
use Rattle.traffic.specs.Counting.{how_many_of_kind, is_of_kind, one_if}
use Rattle.traffic.specs.NotSent.{by_program_text, ends, how_many_ended, is_end, is_record_not_sent, line_of_command}
use Rattle.traffic.specs.NotSent.{not_sent_below, reasons, service_lines, service_named, services_text}
use Rattle.traffic.specs.SummaryText.{kinds, lines_in}
use Rattle.traffic.specs.Tallies.{count_named, counted_ends, counted_line, counted_lines, counted_reasons, end_counts, kind_counts, kind_lines}
use Rattle.traffic.specs.Tallies.{reason_counts, service_counts, sums}

-- ---- sums

length-sums : (counts others : List ℕ) → length (sums counts others) ≡ length counts
length-sums [] others = refl
length-sums (count ∷ counts) [] = refl
length-sums (count ∷ counts) (other ∷ others) = ap (λ (n : ℕ). suc n) (length-sums counts others)

get_or-sums : (counts others : List ℕ) (place : ℕ) → place < length counts
    → get_or (sums counts others) place 0 ≡ get_or counts place 0 + get_or others place 0
get_or-sums [] others place below = omega (arith, below)
get_or-sums (count ∷ counts) [] zero below = omega arith
get_or-sums (count ∷ counts) [] (suc place) below = omega arith
get_or-sums (count ∷ counts) (other ∷ others) zero below = refl
get_or-sums (count ∷ counts) (other ∷ others) (suc place) below = get_or-sums counts others place (omega (arith, below))

-- each count has the one at its place added
pub all_added : (counts others after : List ℕ) → length after ≡ length counts
    → ((place : ℕ) → place < length counts → get_or after place 0 ≡ get_or counts place 0 + get_or others place 0) → after ≡ sums counts others
all_added counts others after long each =
    ext_get_or 0 after (sums counts others) (long ∙ sym (length-sums counts others))
    (λ place below. let within : place < length counts = omega (arith, below, long) in each place within ∙ sym (get_or-sums counts others place within))

-- the sums of all counts of a vector are as many as these
pub as_many_sums : (len : ℕ) (items counts others after : List ℕ) → len ≡ length items → counts ≡ items → after ≡ sums counts others
    → length after ≡ len
as_many_sums len items counts others after long same sum =
    ap length sum ∙ (length-sums counts others ∙ (ap length same ∙ sym long))

-- where the counts of two lists are a count of both
pub sums-map : {X : Type 0} (one other both : X → ℕ) → ((x : X) → both x ≡ one x + other x) → (list : List X)
    → sums (map one list) (map other list) ≡ map both list
sums-map one other both sum [] = refl
sums-map one other both sum (x ∷ list) =
    ap (λ (n : ℕ). n ∷ sums (map one list) (map other list)) (sym (sum x)) ∙ ap (λ (more : List ℕ). both x ∷ more) (sums-map one other both sum list)

-- ---- counts of both lists

pub count-append : {X : Type 0} (counted : X → Bool) (xs ys : List X)
    → length (filter counted (xs ++ ys)) ≡ length (filter counted xs) + length (filter counted ys)
count-append counted xs ys = ap length (filter-append counted xs ys) ∙ length-append (filter counted xs) (filter counted ys)

pub named-append : (frames more : List Sent) (service : Option Service)
    → count_named (frames ++ more) service ≡ count_named frames service + count_named more service
named-append frames more None = refl
named-append frames more (Some service) = count-append _ frames more

get_before : {X : Type 0} (xs ys : List X) (place : ℕ) → place < length xs → slice_get (xs ++ ys) place ≡ slice_get xs place
get_before [] ys place below = absurd (omega (arith, below))
get_before (x ∷ xs) ys zero below = refl
get_before (x ∷ xs) ys (suc place) below = get_before xs ys place (omega (arith, below))

get_behind : {X : Type 0} (xs ys : List X) (place at : ℕ) → at ≡ length xs + place → slice_get (xs ++ ys) at ≡ slice_get ys place
get_behind [] ys place at is = let same : at ≡ place = omega (arith, is) in ap (slice_get ys) same
get_behind (x ∷ xs) ys place zero is = absurd (omega (arith, is))
get_behind (x ∷ xs) ys place (suc at) is = get_behind xs ys place at (omega (arith, is))

reasons_before : (reason : NotSent) (frames more : List Sent) (list others : List LineVerdict) (place : ℕ) → place ≤ length frames
    → length list ≡ length frames → not_sent_below reason (frames ++ more) (list ++ others) place ≡ not_sent_below reason frames list place
reasons_before reason frames more list others zero within long = refl
reasons_before reason frames more list others (suc place) within long =
    ap (λ (n : ℕ). n + one_if (is_record_not_sent reason (slice_get (frames ++ more) place) (slice_get (list ++ others) place)))
    (reasons_before reason frames more list others place (omega (arith, within)) long)
    ∙ (ap (λ (sent : Option Sent). not_sent_below reason frames list place + one_if (is_record_not_sent reason sent (slice_get (list ++ others) place)))
    (get_before frames more place (omega (arith, within)))
    ∙ ap (λ (end : Option LineVerdict). not_sent_below reason frames list place + one_if (is_record_not_sent reason (slice_get frames place) end))
    (get_before list others place (omega (arith, within, long))))

reasons_behind : (reason : NotSent) (frames more : List Sent) (list others : List LineVerdict) (place : ℕ) → length list ≡ length frames
    → not_sent_below reason (frames ++ more) (list ++ others) (length frames + place)
    ≡ not_sent_below reason frames list (length frames) + not_sent_below reason more others place
reasons_behind reason frames more list others zero long =
    let none : length frames + 0 ≡ length frames = omega arith in
    ap (not_sent_below reason (frames ++ more) (list ++ others)) none
    ∙ (reasons_before reason frames more list others (length frames) (omega arith) long ∙ omega arith)
reasons_behind reason frames more list others (suc place) long =
    let next : length frames + suc place ≡ suc (length frames + place) = omega arith in
    let at : slice_get (list ++ others) (length frames + place) ≡ slice_get others place =
    get_behind list others place (length frames + place) (omega (arith, long)) in
    ap (not_sent_below reason (frames ++ more) (list ++ others)) next
    ∙ (ap (λ (n : ℕ).
    n + one_if (is_record_not_sent reason (slice_get (frames ++ more) (length frames + place)) (slice_get (list ++ others) (length frames + place))))
    (reasons_behind reason frames more list others place long)
    ∙ (ap (λ (sent : Option Sent).
    not_sent_below reason frames list (length frames) + not_sent_below reason more others place
    + one_if (is_record_not_sent reason sent (slice_get (list ++ others) (length frames + place)))) (get_behind frames more place (length frames + place) refl)
    ∙ (ap (λ (end : Option LineVerdict).
    not_sent_below reason frames list (length frames) + not_sent_below reason more others place
    + one_if (is_record_not_sent reason (slice_get more place) end)) at ∙ omega arith)))

pub reasons-append : (reason : NotSent) (frames more : List Sent) (list others : List LineVerdict) → length list ≡ length frames
    → not_sent_below reason (frames ++ more) (list ++ others) (length (frames ++ more))
    ≡ not_sent_below reason frames list (length frames) + not_sent_below reason more others (length more)
reasons-append reason frames more list others long =
    ap (not_sent_below reason (frames ++ more) (list ++ others)) (length-append frames more)
    ∙ reasons_behind reason frames more list others (length more) long

-- ---- lines of services

next_line : (script : List Command) (counts : List ℕ) (place : ℕ) (d : Command) → place < length script → place < length counts
    → counted_lines (take (suc place) script) (take (suc place) counts)
    ≡ counted_lines (take place script) (take place counts) ++ counted_line (get_or counts place 0) (service_named (get_or script place d).action)
next_line [] counts place d below within = absurd (omega (arith, below))
next_line (first ∷ script) [] place d below within = absurd (omega (arith, within))
next_line (first ∷ script) (count ∷ counts) zero d below within = append-nil (counted_line count (service_named first.action))
next_line (first ∷ script) (count ∷ counts) (suc place) d below within =
    ap (λ (lines : List ℕ). counted_line count (service_named first.action) ++ lines)
    (next_line script counts place d (omega (arith, below)) (omega (arith, within)))
    ∙ sym (append_assoc (counted_line count (service_named first.action)) (counted_lines (take place script) (take place counts))
    (counted_line (get_or counts place 0) (service_named (get_or script place d).action)))

-- one command more
pub one_line : (old text new : List ℕ) (script : List Command) (counts : List ℕ) (place : ℕ) (d : Command) (count : ℕ) → place < length script
    → length counts ≡ length script → text ≡ old ++ counted_lines (take place script) (take place counts) → count ≡ get_or counts place 0
    → new ≡ text ++ counted_line count (service_named (get_or script place d).action)
    → new ≡ old ++ counted_lines (take (place + 1) script) (take (place + 1) counts)
one_line old text new script counts place d count below long before is put =
    let next : place + 1 ≡ suc place = omega arith in
    let line = counted_line (get_or counts place 0) (service_named (get_or script place d).action) in
    put ∙ (ap (λ (n : ℕ). text ++ counted_line n (service_named (get_or script place d).action)) is
    ∙ (ap (λ (lines : List ℕ). lines ++ line) before
    ∙ (append_assoc old (counted_lines (take place script) (take place counts)) line
    ∙ ap (λ (lines : List ℕ). old ++ lines)
    (sym (ap (λ (n : ℕ). counted_lines (take n script) (take n counts)) next
    ∙ next_line script counts place d below (omega (arith, below, long)))))))

line_of : (frames : List Sent) (service : Option Service) → counted_line (count_named frames service) service ≡ line_of_command frames service
line_of frames None = refl
line_of frames (Some service) = refl

pub lines_of : (frames : List Sent) (script : List Command) → counted_lines script (service_counts frames script) ≡ service_lines frames script
lines_of frames [] = refl
lines_of frames (command ∷ script) =
    ap (λ (line : List ℕ). line ++ counted_lines script (service_counts frames script)) (line_of frames (service_named command.action))
    ∙ ap (λ (lines : List ℕ). line_of_command frames (service_named command.action) ++ lines) (lines_of frames script)

-- ---- tallies

pub kinds_noted : (list : List FrameKind) (captured more : List Sent) (counts others after : List ℕ) → counts ≡ kind_counts captured list
    → others ≡ kind_counts more list → after ≡ sums counts others → after ≡ kind_counts (captured ++ more) list
kinds_noted list captured more counts others after is are sum =
    sum ∙ (ap (λ (n : List ℕ). sums n others) is ∙ (ap (λ (n : List ℕ). sums (kind_counts captured list) n) are
    ∙ sums-map (λ (kind : FrameKind). how_many_of_kind kind captured) (λ (kind : FrameKind). how_many_of_kind kind more)
    (λ (kind : FrameKind). how_many_of_kind kind (captured ++ more)) (λ kind. count-append (is_of_kind kind) captured more) list))

pub services_noted : (script : List Command) (captured more : List Sent) (counts others after : List ℕ) → counts ≡ service_counts captured script
    → others ≡ service_counts more script → after ≡ sums counts others → after ≡ service_counts (captured ++ more) script
services_noted script captured more counts others after is are sum =
    sum ∙ (ap (λ (n : List ℕ). sums n others) is ∙ (ap (λ (n : List ℕ). sums (service_counts captured script) n) are
    ∙ sums-map (λ (command : Command). count_named captured (service_named command.action))
    (λ (command : Command). count_named more (service_named command.action))
    (λ (command : Command). count_named (captured ++ more) (service_named command.action))
    (λ command. named-append captured more (service_named command.action)) script))

pub reasons_noted : (some : List NotSent) (frames more : List Sent) (list rest : List LineVerdict) (counts others after : List ℕ)
    → length list ≡ length frames → counts ≡ reason_counts frames list some → others ≡ reason_counts more rest some → after ≡ sums counts others
    → after ≡ reason_counts (frames ++ more) (list ++ rest) some
reasons_noted some frames more list rest counts others after long is are sum =
    sum ∙ (ap (λ (n : List ℕ). sums n others) is ∙ (ap (λ (n : List ℕ). sums (reason_counts frames list some) n) are
    ∙ sums-map (λ (reason : NotSent). not_sent_below reason frames list (length frames))
    (λ (reason : NotSent). not_sent_below reason more rest (length more))
    (λ (reason : NotSent). not_sent_below reason (frames ++ more) (list ++ rest) (length (frames ++ more)))
    (λ reason. reasons-append reason frames more list rest long) some))

pub ends_noted : (some list rest : List LineVerdict) (counts others after : List ℕ) → counts ≡ end_counts list some → others ≡ end_counts rest some
    → after ≡ sums counts others → after ≡ end_counts (list ++ rest) some
ends_noted some list rest counts others after is are sum =
    sum ∙ (ap (λ (n : List ℕ). sums n others) is ∙ (ap (λ (n : List ℕ). sums (end_counts list some) n) are
    ∙ sums-map (λ (end : LineVerdict). how_many_ended end list) (λ (end : LineVerdict). how_many_ended end rest)
    (λ (end : LineVerdict). how_many_ended end (list ++ rest)) (λ end. count-append (is_end end) list rest) some))

-- the lines of the counts are those of the frames
pub kinds_said : (captured : List Sent) (counts : List ℕ) → counts ≡ kind_counts captured kinds → kind_lines counts kinds ≡ lines_in captured kinds
kinds_said captured counts is = ap (λ (n : List ℕ). kind_lines n kinds) is

services_said : (old text : List ℕ) (commands script : List Command) (frames : List Sent) (counts : List ℕ) → old ≡ [] → commands ≡ script
    → counts ≡ service_counts frames script → (length counts ≡ length commands → text ≡ old ++ counted_lines commands counts)
    → text ≡ service_lines frames script
services_said old text commands script frames counts none same is put =
    let long : length counts ≡ length commands =
    ap length is ∙ (length-map script (λ (command : Command). count_named frames (service_named command.action)) ∙ ap length (sym same)) in
    put long ∙ (ap (λ (lines : List ℕ). lines ++ counted_lines commands counts) none
    ∙ (ap (λ (list : List Command). counted_lines list counts) same ∙ (ap (counted_lines script) is ∙ lines_of frames script)))

pub both_said : (old first text : List ℕ) (commands script : List Command) (frames : List Sent) (list : List LineVerdict) (counts some : List ℕ)
    → old ≡ [] → commands ≡ script → counts ≡ service_counts frames script → some ≡ reason_counts frames list reasons
    → (length counts ≡ length commands → first ≡ old ++ counted_lines commands counts) → text ≡ first ++ counted_reasons some reasons
    → text ≡ services_text frames script list
both_said old first text commands script frames list counts some none same is are put end =
    end ∙ (ap (λ (lines : List ℕ). lines ++ counted_reasons some reasons) (services_said old first commands script frames counts none same is put)
    ∙ ap (λ (n : List ℕ). service_lines frames script ++ counted_reasons n reasons) are)

pub ends_said : (old first text : List ℕ) (commands script : List Command) (frames : List Sent) (list : List LineVerdict) (counts some : List ℕ)
    → old ≡ [] → commands ≡ script → counts ≡ service_counts frames script → some ≡ end_counts list ends
    → (length counts ≡ length commands → first ≡ old ++ counted_lines commands counts) → text ≡ first ++ counted_ends some ends
    → text ≡ by_program_text frames script list
ends_said old first text commands script frames list counts some none same is are put end =
    end ∙ (ap (λ (lines : List ℕ). lines ++ counted_ends some ends) (services_said old first commands script frames counts none same is put)
    ∙ ap (λ (n : List ℕ). service_lines frames script ++ counted_ends n ends) are)
