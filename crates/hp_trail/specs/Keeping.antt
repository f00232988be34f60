-- What a trail keeps, and the room that it has.
use Rattle.std.specs.Prelude.{◌≡◌, refl, ℕ, ◌+◌, ◌-◌, ◌*◌, Bool, true, false, Option, None, Some, is_some, List, [], ◌∷◌, ◌++◌, length, nat_lt}
use Rattle.std.proofs.lemmas.Bool.{true≢false}
use Rattle.hp_model.specs.Profile.{most_frames_in_all}

-- the entries so far, the places for entries of every kind, and those beyond for closing entries
-- alone
pub record Keeping (X : Type 0) : Type 0 where
  pub entries : List X
  pub places : ℕ
  pub extra : ℕ

-- the places that any trail may have for closing entries: two for each frame
abbrev pub most_extra : ℕ
most_extra = 2 * most_frames_in_all

-- the places that no entry has
abbrev pub places_left : {X : Type 0} → Keeping X → ℕ
places_left k = k.places + k.extra - length k.entries

-- whether another entry has room, by the places that are left, if they are counted, and those of
-- them that are for closing entries alone
abbrev pub has_room : Bool → Option ℕ → ℕ → Bool
has_room closing None extra = true
has_room true (Some left) extra = nat_lt 0 left
has_room false (Some left) extra = nat_lt extra left

-- one place less, where they are counted
abbrev pub one_less : Option ℕ → Option ℕ
one_less None = None
one_less (Some left) = Some (left - 1)

-- one entry more, where entries are kept
abbrev pub with_entry : {X : Type 0} → Option (List X) → X → Option (List X)
with_entry None e = None
with_entry (Some es) e = Some (es ++ e ∷ [])

-- ---- by whether entries are kept

abbrev pub kept_if : {X : Type 0} → Bool → Keeping X → Option (List X)
kept_if true k = Some k.entries
kept_if false k = None

abbrev pub left_if : {X : Type 0} → Bool → Keeping X → Option ℕ
left_if true k = Some (places_left k)
left_if false k = None

-- where nothing is kept, there are as many places for closing entries as any trail has
abbrev pub extra_if : {X : Type 0} → Bool → Keeping X → ℕ
extra_if true k = k.extra
extra_if false k = most_extra

-- nothing in it yet, with these places where entries are kept
abbrev pub opened_if : {X : Type 0} → Bool → (places extra : ℕ) → Keeping X
opened_if true places extra = record { entries = []; places = places; extra = extra }
opened_if false places extra = record { entries = []; places = 0; extra = 0 }

pub kept_if_keeps : {X : Type 0} (keeps : Bool) (k : Keeping X) → is_some (kept_if keeps k) ≡ keeps
kept_if_keeps true k = refl
kept_if_keeps false k = refl

pub left_if_not : {X : Type 0} (keeps : Bool) (k : Keeping X) → keeps ≡ false → left_if keeps k ≡ None
left_if_not true k none = elim (true≢false none) [ ]
left_if_not false k none = refl
