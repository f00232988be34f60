-- Places of a trail that are kept for the entries that take away.
use Rattle.std.proofs.Common.{◌≡◌, ℕ, ◌≤◌, Bool, true, false, ◌||◌, Option, None, Some, refl, arith}
use Rattle.std.proofs.lemmas.Bool.{lt-ltb, ltb-true}
use Rattle.hp_model.proofs.Words.{KeepsPlaces}
use Rattle.hp_locked.specs.Views.{HasPlaces}
use Rattle.hp_trail.specs.Keeping.{has_room, one_less}

-- one that takes away always has a place
pub has_closing : (most before after extra : ℕ) (left : Option ℕ) → KeepsPlaces most before after true → HasPlaces left before → has_room true left extra ≡ true
has_closing most before after extra None keeps places = refl
has_closing most before after extra (Some l) keeps places = (let less = keeps.less refl in lt-ltb 0 l (omega (arith, less, places)))

-- and an entry of any kind leaves as many as may be wanted
pub places_after : (most before after extra : ℕ) (is_one : Bool) (left : Option ℕ) → KeepsPlaces most before after is_one → most ≤ extra →
    HasPlaces left before → (is_one ≡ false → has_room false left extra ≡ true) → HasPlaces (one_less left) after
places_after most before after extra is_one None keeps enough places room = tt
places_after most before after extra true (Some l) keeps enough places room = (let less = keeps.less refl in omega (arith, less, places))
places_after most before after extra false (Some l) keeps enough places room = (let few = ltb-true extra l (room refl) in let most_left = keeps.enough in omega (arith, few, most_left, enough))

-- room for an entry of any kind is room for one that takes away
pub room_closing : (left : Option ℕ) (extra : ℕ) → has_room false left extra ≡ true → has_room true left extra ≡ true
room_closing None extra room = refl
room_closing (Some l) extra room = (let few = ltb-true extra l room in lt-ltb 0 l (omega (arith, few)))

pub or_room : (a b : Bool) → (a || b) ≡ true → a ≡ false → b ≡ true
or_room true b e f = cc
or_room false b e f = e
