-- The table of flows as CSV (RFC 4180).
use Rattle.std.specs.Prelude.{ℕ, ◌++◌, List, codes, decimal}
use Rattle.std.specs.List.{flat_map}
use Rattle.flows.specs.Stories.{Story}

-- what comes before the first line
abbrev pub table_head : List ℕ
table_head = codes "source,source_port,destination,destination_port,protocol,first,last,frames,sent,dropped,no_backend,changes,backends\n"

-- the flow, and the moments of its first and last frame
abbrev pub line_front : List ℕ → List ℕ → List ℕ → List ℕ
line_front flow first last = flow ++ (codes "," ++ (first ++ (codes "," ++ last)))

-- how many frames, how many of them were sent, how many dropped, and of these for want of a backend
abbrev pub line_counts : ℕ → ℕ → ℕ → ℕ → List ℕ
line_counts frames sent dropped no_backend =
    codes "," ++ (decimal frames ++ (codes "," ++ (decimal sent ++ (codes "," ++ (decimal dropped ++ (codes "," ++ decimal no_backend))))))

-- how many changes, and the backends
abbrev pub line_back : ℕ → List ℕ → List ℕ
line_back changes path = codes "," ++ (decimal changes ++ (codes "," ++ (path ++ codes "\n")))

-- the line of a flow
abbrev pub flow_line : Story → List ℕ
flow_line story =
    (line_front story.flow story.first story.last ++ line_counts story.frames story.sent story.dropped story.no_backend)
    ++ line_back story.changes story.path

abbrev pub table_text : List Story → List ℕ
table_text stories = table_head ++ flat_map flow_line stories
