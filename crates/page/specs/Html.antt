-- The page's frame, and the commands of a script on it.
use Rattle.std.specs.Prelude.{ℕ, zero, suc, ◌+◌, ◌-◌, ◌==◌, ◌++◌, Bool, List, [], Option, Some, None, codes, decimal, if◌then◌else◌, length, map}
use Rattle.std.specs.Prelude.{slice_get, slice_index_or, take}
use Rattle.control.specs.declared.command.Action.{Action}
use Rattle.control.specs.declared.command.Action.TheVariants.{Vip, Up, Down, Gateway}
use Rattle.control.specs.declared.command.Command.{Command}
use Rattle.control.specs.ScriptText.{address_text, transport_text}
use Rattle.page.specs.Stamps.{moment_text}
use Rattle.page.specs.Tables.{more_text}
use Rattle.page.specs.Tallies.{time_slot}

-- ---- commands

-- that the flows of a service are not noted
abbrev pub notrack_word : Bool → List ℕ
notrack_word is_notrack = if is_notrack then codes " notrack" else []

abbrev pub vip_words : List ℕ → ℕ → List ℕ → List ℕ → List ℕ
vip_words address port transport notrack =
    codes "vip " ++ (address ++ (codes " " ++ (decimal port ++ (codes " " ++ (transport ++ notrack)))))

abbrev pub up_text : ℕ → List ℕ → List ℕ
up_text backend address = codes "up " ++ (decimal backend ++ (codes " " ++ address))

abbrev pub down_text : ℕ → List ℕ
down_text backend = codes "down " ++ decimal backend

abbrev pub gateway_words : List ℕ → List ℕ
gateway_words address = codes "gateway " ++ address

-- what a command does, without the tunnel's Ethernet addresses
abbrev pub command_words : Action → List ℕ
command_words (Vip service is_notrack) =
    vip_words (address_text service.address.0) service.port (transport_text service.transport) (notrack_word is_notrack)
command_words (Up backend address) = up_text backend (address_text address.0)
command_words (Down backend) = down_text backend
command_words (Gateway source source_mac destination_mac) = gateway_words (address_text source.0)

-- a command lies at the moment of the record that it comes before, and behind the last record at the last moment
abbrev pub command_moment : List ℕ → ℕ → ℕ → ℕ
command_moment moments last frame = slice_index_or moments frame last

abbrev pub command_slots : ℕ → ℕ → ℕ → List ℕ → List Command → List ℕ
command_slots first long last moments commands = map (λ command. time_slot first long (command_moment moments last command.frame)) commands

unfoldable pub command_text : ℕ → ℕ → List ℕ → List ℕ → List ℕ
command_text number before moment action =
    codes "<tr><td>" ++ (decimal number ++ (codes "</td><td>" ++ (decimal before ++ (codes "</td><td>" ++ (moment ++ (codes "</td><td>" ++ (action
    ++ codes "</td></tr>\n")))))))

abbrev pub command_row : List ℕ → ℕ → ℕ → Option Command → List ℕ
command_row moments last place None = []
command_row moments last place (Some command) =
    command_text (place + 1) (command.frame + 1) (moment_text (command_moment moments last command.frame)) (command_words command.action)

-- the rows of the first N commands
abbrev pub command_rows : List ℕ → ℕ → List Command → ℕ → List ℕ
command_rows moments last commands zero = []
command_rows moments last commands (suc place) =
    command_rows moments last commands place ++ command_row moments last place (slice_get commands place)

-- how many commands come before the first record
abbrev pub firsts_text : ℕ → List ℕ
firsts_text count = if count == 0 then [] else codes "<p>" ++ (decimal count ++ codes " commands before the first record</p>\n")

-- what comes before the rows of the table of commands
abbrev pub commands_head : List ℕ
commands_head = codes "<div class=\"wide\"><table>\n<tr><th>mark</th><th>before record</th><th>at</th><th>command</th></tr>\n"

unfoldable pub commands_table : List ℕ → List ℕ → List ℕ → List ℕ
commands_table firsts rows more = codes "<h2>Commands</h2>\n" ++ (firsts ++ (commands_head ++ (rows ++ (codes "</table></div>\n" ++ more))))

-- how many commands come before the first record, and the first hundred of the later ones
unfoldable pub commands_text : ℕ → List ℕ → ℕ → List Command → List ℕ
commands_text count moments last later =
    commands_table (firsts_text count) (command_rows moments last (take 100 later) (length (take 100 later))) (more_text (length later - 100))

-- ---- the frame

unfoldable pub head_text : List ℕ
head_text =
    codes "<!DOCTYPE html>\n<html lang=\"en\">\n<head>\n<meta charset=\"utf-8\">\n"
    ++ (codes "<meta name=\"viewport\" content=\"width=device-width, initial-scale=1\">\n<title>Replay of a capture</title>\n<style>\n"
    ++ (codes "body{font:16px/1.4 sans-serif;max-width:50em;margin:auto;padding:.5em;color:#111;background:#fff}\nh1{font-size:1.5em}\n"
    ++ (codes "h2{font-size:1.15em;margin:1.5em 0 .3em}\nsvg{display:block;width:100%;height:auto}\nsvg text{font:9px sans-serif}\n"
    ++ (codes ".end{text-anchor:end}\n.mid{text-anchor:middle}\n.axis{stroke:#777;stroke-width:.5;fill:none}\n"
    ++ (codes ".mark{stroke:#000;stroke-dasharray:3 2}\n.key{stroke:#000;stroke-width:.5}\ntable{border-collapse:collapse}\n"
    ++ (codes "th,td{border-bottom:1px solid #bbb;padding:.15em .6em;text-align:left;white-space:nowrap}\n.figures td{text-align:right}\n"
    ++ (codes ".wide{overflow-x:auto}\n@media(max-width:30em){svg text{font-size:11px}}\n</style>\n</head>\n<body>\n"
    ++ codes "<h1>Replay of a capture</h1>\n")))))))

unfoldable pub whole_text : List ℕ → List ℕ → List ℕ → List ℕ → List ℕ → List ℕ → List ℕ
whole_text figures by_backend by_fate backends commands moves =
    head_text ++ (figures ++ (by_backend ++ (by_fate ++ (backends ++ (commands ++ (moves ++ codes "</body>\n</html>\n"))))))
