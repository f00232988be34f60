-- The intervals of a region list, each from its start up to its end, in rising order, none touching the next.
--     AreSpansApart low xs      they are so, and begin at low or later
--     spans_hold xs q      q is in one of them
--     indices_of xs      the set of what they hold
--     range_added a b xs, range_removed a b xs      the intervals with the indices from a up to b, and without them
--     covered a b xs      how many of these they hold
use Rattle.std.specs.Prelude.{ℕ, ◌≡◌, ◌+◌, ◌-◌, ◌<◌, ◌≤◌, min, max, vec_capacity, vec_len, Bool, false, ◌||◌, List, [], ◌∷◌, ◌++◌, if◌then◌else◌, nat_lt}
use Rattle.std.specs.Prelude.{Result, IsOk, OnErr, OnOk}
use Rattle.std.specs.Global.{Vec}
use Rattle.std.specs.Ordering.{nat_cmp}
use Rattle.std.specs.FinSet as set
use Rattle.hp_model.specs.beside.Ranges.{within}
use Rattle.hp_region.specs.declared.spans.Span.{Span}
use Rattle.hp_region.specs.Region.{range_set}

abbrev pub spans_hold : List Span → ℕ → Bool
spans_hold [] q = false
spans_hold (s ∷ ss) q = within s.start s.end q || spans_hold ss q

abbrev pub AreSpansApart : ℕ → List Span → Type 0
AreSpansApart low [] = Unit {0}
AreSpansApart low (s ∷ ss) = (low ≤ s.start) × (s.start < s.end) × AreSpansApart (s.end + 1) ss

abbrev pub indices_of : List Span → set.FinSet nat_cmp
indices_of [] = set.empty
indices_of (s ∷ ss) = set.union (range_set s.start s.end) (indices_of ss)

abbrev pub range_added : ℕ → ℕ → List Span → List Span
range_added a b [] = record { start = a; end = b } ∷ []
range_added a b (s ∷ ss) =
    if nat_lt s.end a then s ∷ range_added a b ss
    else if nat_lt b s.start then record { start = a; end = b } ∷ s ∷ ss
    else range_added (min a s.start) (max b s.end) ss

-- they become others; only with no room may it ask for memory, it takes room for one at most, and at an error they stay
pub record AreEdited {E : Type 0} (wanted : List Span) (old new : Vec Span) (result : Result (Unit {0}) E) : Type 0 where
  pub ok : OnOk result (new.items ≡ wanted)
  pub err : OnErr result (new.items ≡ old.items)
  pub in_room : vec_len old < vec_capacity old → IsOk result
  pub room : vec_capacity old + vec_len new ≤ vec_capacity new + vec_len old + 1

-- what is left of an interval below a, and from b on
abbrev pub left_piece : ℕ → Span → List Span
left_piece a s = if nat_lt s.start a then record { start = s.start; end = min a s.end } ∷ [] else []

abbrev pub right_piece : ℕ → Span → List Span
right_piece b s = if nat_lt b s.end then record { start = max b s.start; end = s.end } ∷ [] else []

abbrev pub range_removed : ℕ → ℕ → List Span → List Span
range_removed a b [] = []
range_removed a b (s ∷ ss) = left_piece a s ++ (right_piece b s ++ range_removed a b ss)

abbrev pub overlap : ℕ → ℕ → Span → ℕ
overlap a b s = min b s.end - max a s.start

abbrev pub covered : ℕ → ℕ → List Span → ℕ
covered a b [] = 0
covered a b (s ∷ ss) = overlap a b s + covered a b ss

-- what is left of the first interval below a, and of all from b on, where the first goes on past b
abbrev pub left_of : ℕ → List Span → List Span
left_of a [] = []
left_of a (s ∷ ss) = left_piece a s

abbrev pub right_of : ℕ → List Span → List Span
right_of b [] = []
right_of b (s ∷ ss) = record { start = max b s.start; end = s.end } ∷ ss

abbrev pub cut : ℕ → ℕ → List Span → List Span
cut a b xs = left_of a xs ++ right_of b xs
