-- The text of a reply.
use Rattle.std.specs.Prelude.{ℕ, ◌+◌, ◌-◌, ◌*◌, ◌/◌, ◌≤◌, ◌<◌, ◌^◌, Option, None, Some, List, [], ◌∷◌, ◌++◌, length, take, replicate, Ok, Err, codes, decimal}
use Rattle.std.specs.List.{flat_map, All}
use Rattle.hex.specs.Hex.{encode_lower}
use Rattle.hp_model.specs.declared.answer.Answer.{Answer}
use Rattle.hp_model.specs.declared.answer.Answer.TheVariants.{Done, Home, MapNo, Number, Bytes, Stat, Usage, Names, Numbers, PerNode}
use Rattle.hp_model.specs.declared.answer.Counts.{Counts}
use Rattle.hp_model.specs.declared.answer.NodeCount.{NodeCount}
use Rattle.hp_model.specs.text.Names.{number_of_refusal, name_of_refusal}
use Rattle.hp_model.specs.machine.Plan.{Reply}
use Rattle.hp_model.specs.Profile.{most_bytes, most_files, most_frames, most_name_bytes, most_nodes}

abbrev pub newline : List ℕ
newline = 10 ∷ []

-- ---- the parts of a line

-- numbers with a space before each
abbrev pub spaced : List ℕ → List ℕ
spaced ns = flat_map (λ n. codes " " ++ decimal n) ns

-- a limit, or `-` where none is given
abbrev pub limit_text : Option ℕ → List ℕ
limit_text None = codes "-"
limit_text (Some n) = decimal n

abbrev pub number_line : List ℕ → List ℕ
number_line ns = codes "ok" ++ spaced ns ++ newline

-- the first line of a reply of n more lines
abbrev pub heading : ℕ → List ℕ
heading n = codes "text " ++ decimal n ++ newline

-- ---- meminfo

-- a number right in eight columns, or in as many as it needs
abbrev pub in_columns : ℕ → List ℕ
in_columns n = replicate (8 - length (decimal n)) 32 ++ decimal n

-- six lines: a label left in sixteen columns, and a number; the sizes are in kB
abbrev pub meminfo_text : (page_bytes : ℕ) → Counts → List ℕ
meminfo_text page_bytes c =
    codes "HugePages_Total:" ++ in_columns c.total ++ codes "\nHugePages_Free: " ++ in_columns c.free ++ codes "\nHugePages_Rsvd: " ++ in_columns c.rsvd
    ++ codes "\nHugePages_Surp: " ++ in_columns c.surp ++ codes "\nHugepagesize:   " ++ in_columns (page_bytes / 1024)
    ++ codes " kB\nHugetlb:        " ++ in_columns (c.total * page_bytes / 1024) ++ codes " kB\n"

-- ---- nodes and names

-- one line for each of the first n rows, with its node
abbrev pub rows_text : (node : ℕ) → List NodeCount → List ℕ
rows_text node [] = []
rows_text node (r ∷ rs) = decimal node ++ spaced (r.total ∷ r.free ∷ r.surp ∷ []) ++ newline ++ rows_text (node + 1) rs

abbrev pub names_text : List (List ℕ) → List ℕ
names_text names = flat_map (λ name. name ++ newline) names

-- ---- replies

abbrev pub answer_text : (page_bytes : ℕ) → Answer → List ℕ
answer_text page_bytes Done = codes "ok\n"
answer_text page_bytes (Home home) = number_line (home ∷ [])
answer_text page_bytes (MapNo number) = number_line (number ∷ [])
answer_text page_bytes (Number n) = number_line (n ∷ [])
answer_text page_bytes (Bytes count bytes) = codes "ok " ++ encode_lower (take count bytes) ++ newline
answer_text page_bytes (Stat len pages entries maps) = number_line (len ∷ pages ∷ entries ∷ maps ∷ [])
answer_text page_bytes (Usage max min used inodes files) =
    codes "ok " ++ limit_text max ++ spaced (min ∷ used ∷ []) ++ codes " " ++ limit_text inodes ++ spaced (files ∷ []) ++ newline
answer_text page_bytes (Names names) = heading (length names) ++ names_text names
answer_text page_bytes (Numbers counts) = heading 6 ++ meminfo_text page_bytes counts
answer_text page_bytes (PerNode nodes rows) = heading nodes ++ rows_text 0 (take nodes rows)

-- the lines of a reply, where a page has that many bytes
abbrev pub line_of : (page_bytes : ℕ) → Reply → List ℕ
line_of page_bytes (Ok answer) = answer_text page_bytes answer
line_of page_bytes (Err refusal) = codes "error " ++ decimal (number_of_refusal refusal) ++ codes " " ++ name_of_refusal refusal ++ newline

-- the lines of replies, one after another
abbrev pub text : (page_bytes : ℕ) → List Reply → List ℕ
text page_bytes replies = flat_map (line_of page_bytes) replies

-- ---- the limits of what a reply says, by which there is room for its text

abbrev pub IsSmallLimit : Option ℕ → Type 0
IsSmallLimit None = Unit {0}
IsSmallLimit (Some n) = n < 2 ^ 64

abbrev pub HasSmallAnswer : Answer → Type 0
HasSmallAnswer Done = Unit {0}
HasSmallAnswer (Home home) = home < 2 ^ 64
HasSmallAnswer (MapNo number) = number < 2 ^ 64
HasSmallAnswer (Number n) = n < 2 ^ 64
HasSmallAnswer (Bytes count bytes) = count ≤ most_bytes
HasSmallAnswer (Stat len pages entries maps) = (len < 2 ^ 64) × (pages < 2 ^ 64) × (entries < 2 ^ 64) × (maps < 2 ^ 64)
HasSmallAnswer (Usage max min used inodes files) = IsSmallLimit max × (min < 2 ^ 64) × (used < 2 ^ 64) × IsSmallLimit inodes × (files < 2 ^ 64)
HasSmallAnswer (Names names) = (length names ≤ most_files) × All (λ name. length name ≤ most_name_bytes) names
HasSmallAnswer (Numbers c) = (c.total ≤ most_nodes * most_frames) × (c.free ≤ c.total) × (c.rsvd ≤ c.total) × (c.surp ≤ c.total)
HasSmallAnswer (PerNode nodes rows) = (nodes ≤ most_nodes) × All (λ r. (r.total ≤ most_frames) × (r.free ≤ r.total) × (r.surp ≤ r.total)) rows

abbrev pub IsWithinLimits : Reply → Type 0
IsWithinLimits (Ok answer) = HasSmallAnswer answer
IsWithinLimits (Err refusal) = Unit {0}
