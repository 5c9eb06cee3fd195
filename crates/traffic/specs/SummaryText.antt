-- The summary of a replay's traffic: a line for each kind of frame that there is, with how many there are, and a line for each address to
-- which frames were sent.
use Rattle.std.specs.Prelude.{◌≡◌, ℕ, ◌/◌, ◌%◌, ◌==◌, ◌++◌, List, [], ◌∷◌, codes, decimal, if◌then◌else◌}
use Rattle.std.specs.Prelude.{unwrap_or}
use Rattle.std.specs.List.{flat_map}
use Rattle.std.specs.List.Sorted.{IsStrictlySortedBy}
use Rattle.std.specs.Ordering.{nat_cmp}
use Rattle.std.specs.Map.{keys_of, lookup}
use Rattle.std.specs.BTreeMap.{is_at}
use Rattle.wire.specs.declared.records.Sent.{Sent}
use Rattle.traffic.specs.declared.kind.FrameKind.{FrameKind}
use Rattle.traffic.specs.declared.kind.FrameKind.TheVariants.{Short, Ipv6, Arp, Vlan, OtherType, Malformed, Options, Fragment, Icmp}
use Rattle.traffic.specs.declared.kind.FrameKind.TheVariants.{OtherProtocol, Expired, Large, Flow}
use Rattle.traffic.specs.Counting.{how_many_of_kind, how_many_to}
use Rattle.traffic.specs.Moving.{moves_in}

-- what a frame of the kind is, in words
abbrev pub phrase_of : FrameKind → List ℕ
phrase_of Short = codes "of fewer than 14 bytes"
phrase_of Ipv6 = codes "of IPv6"
phrase_of Arp = codes "of ARP"
phrase_of Vlan = codes "with a VLAN tag"
phrase_of OtherType = codes "of another Ethernet type"
phrase_of Malformed = codes "of IPv4, cut or with lengths that disagree"
phrase_of Options = codes "of IPv4 with options"
phrase_of Fragment = codes "of IPv4 in fragments"
phrase_of Icmp = codes "of ICMP"
phrase_of OtherProtocol = codes "of another protocol over IPv4"
phrase_of Expired = codes "of TCP or UDP with a time to live of 0"
phrase_of Large = codes "of TCP or UDP in packets of more than 1480 bytes"
phrase_of Flow = codes "of TCP or UDP that fit into a tunnel"

abbrev pub kinds : List FrameKind
kinds =
    Short ∷ Ipv6 ∷ Arp ∷ Vlan ∷ OtherType ∷ Malformed ∷ Options ∷ Fragment ∷ Icmp ∷ OtherProtocol ∷ Expired ∷ Large ∷ Flow ∷ []

-- one frame, or several
abbrev pub frames_word : ℕ → List ℕ
frames_word count = if count == 1 then codes "frame" else codes "frames"

abbrev pub count_line : ℕ → List ℕ → List ℕ → List ℕ
count_line count word phrase = decimal count ++ (codes " " ++ (word ++ (codes " " ++ (phrase ++ codes "\n"))))

-- the line with this text and the number of such frames; nothing where there are none
abbrev pub line_about : ℕ → List ℕ → List ℕ
line_about count phrase = if count == 0 then [] else count_line count (frames_word count) phrase

-- the line of a kind among these frames, and those of several kinds
abbrev pub line_in : List Sent → FrameKind → List ℕ
line_in frames kind = line_about (how_many_of_kind kind frames) (phrase_of kind)

abbrev pub lines_in : List Sent → List FrameKind → List ℕ
lines_in frames list = flat_map (line_in frames) list

-- four numbers with points between them
abbrev pub dotted : ℕ → ℕ → ℕ → ℕ → List ℕ
dotted first second third last =
    decimal first ++ (codes "." ++ (decimal second ++ (codes "." ++ (decimal third ++ (codes "." ++ decimal last)))))

-- an address as four numbers
abbrev pub address_number_text : ℕ → List ℕ
address_number_text address = dotted (address / 16777216) (address / 65536 % 256) (address / 256 % 256) (address % 256)

abbrev pub target_phrase : List ℕ → List ℕ
target_phrase address = codes "sent to " ++ address

abbrev pub target_line : ℕ × ℕ → List ℕ
target_line target = line_about target.1 (target_phrase (address_number_text target.0))

abbrev pub targets_text : List (ℕ × ℕ) → List ℕ
targets_text targets = flat_map target_line targets

-- the number that a list of addresses has for one of them
abbrev pub count_in : List (ℕ × ℕ) → ℕ → ℕ
count_in targets address = unwrap_or (lookup (is_at (nat_cmp address)) targets) 0

-- the line of frames that went elsewhere than the frame of their flow before
abbrev pub moves_line : ℕ → List ℕ
moves_line count = line_about count (codes "sent to another address than the frame of their flow before")

-- what is said of sent frames was appended to a text: its addresses are those to which frames were sent, by rising number, each once and
-- with how many
pub record IsSummaryOfSent (sent : List Sent) (before after : List ℕ) : Type 0 where
  pub targets : List (ℕ × ℕ)
  pub rising : IsStrictlySortedBy nat_cmp (keys_of targets)
  pub counted : (address : ℕ) → count_in targets address ≡ how_many_to address sent
  pub lines : after ≡ before ++ (targets_text targets ++ moves_line (moves_in sent))

-- the text is the summary of frames that were captured and of those that were sent
abbrev pub IsSummary : List Sent → List Sent → List ℕ → Type 0
IsSummary captured sent text = IsSummaryOfSent sent (lines_in captured kinds) text
