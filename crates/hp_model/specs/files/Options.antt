-- The option text of a mount, and the limits that it gives.
use Rattle.std.specs.Prelude.{ℕ, ◌-◌, ◌*◌, ◌/◌, ◌^◌, ◌&&◌, ◌||◌, ◌==◌, Bool, true, false, Option, None, Some, Result}
use Rattle.std.specs.Prelude.{Ok, Err, List, [], ◌∷◌, length, take, drop, if◌then◌else◌, nat_lt, nat_le, codes, unwrap_or, nat_eq}
use Rattle.std.specs.Char.{is_ascii_digit}
use Rattle.std.specs.Option.{option_map, option_and_then}
use Rattle.std.specs.List.{slice_split, starts_with}
use Rattle.std.specs.Str.{all_ascii_digits}
use Rattle.std.specs.Str.Parse.{digits_value}
use Rattle.hp_model.specs.declared.refusal.Refusal.{Refusal}
use Rattle.hp_model.specs.declared.refusal.Refusal.TheVariants.{BadOption, MinOverSize}
use Rattle.hp_model.specs.declared.limits.Limits.{Limits}

-- ---- numbers

abbrev pub when : {X : Type 0} → Bool → X → Option X
when true x = Some x
when false x = None

-- 1 to 20 digits whose value is below 2^64
abbrev pub number_of : List ℕ → Option ℕ
number_of ds = when (nat_lt 0 (length ds) && nat_le (length ds) 20 && all_ascii_digits ds && nat_lt (digits_value 10 ds) (2 ^ 64)) (digits_value 10 ds)

abbrev pub scale_of : ℕ → ℕ
scale_of c =
    if (c == 71) || (c == 103) then 2 ^ 30
    else if (c == 77) || (c == 109) then 2 ^ 20
    else if (c == 75) || (c == 107) then 2 ^ 10
    else 1

abbrev pub last_of : List ℕ → ℕ
last_of [] = 0
last_of (x ∷ []) = x
last_of (x ∷ y ∷ ys) = last_of (y ∷ ys)

abbrev pub without_last : List ℕ → List ℕ
without_last xs = take (length xs - 1) xs

abbrev pub scaled : ℕ → ℕ → Option ℕ
scaled scale n = when (nat_lt (n * scale) (2 ^ 64)) (n * scale)

-- digits, with a suffix that multiplies
abbrev pub quantity_of : List ℕ → Option ℕ
quantity_of text =
    if is_ascii_digit (last_of text) then number_of text
    else if scale_of (last_of text) == 1 then None
    else option_and_then (scaled (scale_of (last_of text))) (number_of (without_last text))

-- a size in bytes, or a percentage of nr
pub data Amount : Type 0 where
  InBytes : ℕ → Amount
  Percent : ℕ → Amount

abbrev pub percent_of : ℕ → Option Amount
percent_of n = when (nat_le n 100) (Percent n)

abbrev pub amount_of : List ℕ → Option Amount
amount_of text =
    if last_of text == 37 then option_and_then percent_of (number_of (without_last text))
    else option_map InBytes (quantity_of text)

-- ---- options

pub record Wanted : Type 0 where
  pub size : Option Amount
  pub min_size : Option Amount
  pub nr_inodes : Option ℕ

abbrev pub nothing_wanted : Wanted
nothing_wanted = record { size = None; min_size = None; nr_inodes = None }

abbrev pub after_key : List ℕ → List ℕ → Option (List ℕ)
after_key key text = when (starts_with nat_eq text key) (drop (length key) text)

abbrev pub or_else : {X : Type 0} → Option X → Option X → Option X
or_else None y = y
or_else (Some x) y = Some x

-- what one option sets
abbrev pub option_of : Wanted → List ℕ → Option Wanted
option_of w text =
    or_else (option_and_then (λ t. option_map (λ a. record w { size = Some a }) (amount_of t)) (after_key (codes "size=") text))
    (or_else (option_and_then (λ t. option_map (λ a. record w { min_size = Some a }) (amount_of t)) (after_key (codes "min_size=") text))
    (option_and_then (λ t. option_map (λ n. record w { nr_inodes = Some n }) (quantity_of t)) (after_key (codes "nr_inodes=") text)))

-- the parts between commas
abbrev pub parts : List ℕ → List (List ℕ)
parts text = slice_split (λ b. b == 44) text

abbrev pub options_of : Wanted → List (List ℕ) → Option Wanted
options_of w [] = Some w
options_of w (t ∷ ts) = option_and_then (λ v. options_of v ts) (option_of w t)

abbrev pub is_dash : List ℕ → Bool
is_dash text = starts_with nat_eq text (45 ∷ []) && (length text == 1)

abbrev pub wanted_of : List ℕ → Option Wanted
wanted_of text = if is_dash text then Some nothing_wanted else options_of nothing_wanted (parts text)

-- ---- limits in pages of `size` bytes, at this nr

abbrev pub pages_for : ℕ → ℕ → Amount → ℕ
pages_for nr size (InBytes n) = n / size
pages_for nr size (Percent n) = (nr * n) / 100

abbrev pub is_below_min : Option ℕ → ℕ → Bool
is_below_min None min = false
is_below_min (Some max) min = nat_lt max min

abbrev pub limits_of : ℕ → ℕ → Wanted → Limits
limits_of nr size w =
    record {
      max = option_map (pages_for nr size) w.size;
      min = unwrap_or (option_map (pages_for nr size) w.min_size) 0;
      inodes = w.nr_inodes;
    }

abbrev pub checked : Limits → Result Limits Refusal
checked l = if is_below_min l.max l.min then Err MinOverSize else Ok l

abbrev pub limits : ℕ → ℕ → Option Wanted → Result Limits Refusal
limits nr size None = Err BadOption
limits nr size (Some w) = checked (limits_of nr size w)
