-- Pages beside their holders.
use Rattle.std.proofs.Common.{◌≡◌, ℕ, zero, suc, ◌<◌, List, [], ◌∷◌, ◌++◌, length, map, slice_index, slice_index_or, slice_set, Option, None, Some, is_some, true, false, refl, sym, ap, ◌∙◌, arith}
use Rattle.std.proofs.Common.{nat_lt, option_map}
use Rattle.std.proofs.Math.ListN.{get_or-map}
use Rattle.std.proofs.Math.Seq.{map-set_same}
use Rattle.std.proofs.lemmas.List.{get_or_read, length-map, map-append, map-set, set-get_or}
use Rattle.std.proofs.lemmas.List.Sums.{sum_by-cons}
use Rattle.std.proofs.lemmas.Bool.Decides.{nat_tests}
use Rattle.hp_model.proofs.Words.{Page}
use Rattle.hp_store.specs.Store.{Holding, at_slot, held_count, holders_of, held_page, one_if_held}
use Rattle.hp_store.specs.Kept.{held_by, holdings, one_if_page, page_count}
use Rattle.hp_store.proofs.Empty.{some_within}

length-holdings : (ps : List (Option Page)) (hs : List ℕ) → length ps ≡ length hs → length (holdings ps hs) ≡ length ps
length-holdings [] hs e = refl
length-holdings (p ∷ ps) [] e = absurd (omega (arith, e))
length-holdings (p ∷ ps) (h ∷ hs) e = ap suc (length-holdings ps hs (omega (arith, e)))

get-holdings : (ps : List (Option Page)) (hs : List ℕ) (n : ℕ) → length ps ≡ length hs → slice_index_or (holdings ps hs) n None ≡ option_map (held_by (slice_index hs n)) (slice_index_or ps n None)
get-holdings [] hs n e = refl
get-holdings (p ∷ ps) [] n e = absurd (omega (arith, e))
get-holdings (p ∷ ps) (h ∷ hs) zero e = refl
get-holdings (p ∷ ps) (h ∷ hs) (suc n) e = get-holdings ps hs n (omega (arith, e))

pub set-holdings : (ps : List (Option Page)) (hs : List ℕ) (n : ℕ) (p : Option Page) (h : ℕ) → holdings (slice_set ps n p) (slice_set hs n h) ≡ slice_set (holdings ps hs) n (option_map (held_by h) p)
set-holdings [] hs n p h = refl
set-holdings (q ∷ ps) [] zero p h = refl
set-holdings (q ∷ ps) [] (suc n) p h = refl
set-holdings (q ∷ ps) (g ∷ hs) zero p h = refl
set-holdings (q ∷ ps) (g ∷ hs) (suc n) p h = ap (λ xs. option_map (held_by g) q ∷ xs) (set-holdings ps hs n p h)

push-holdings : (ps : List (Option Page)) (hs : List ℕ) (p : Option Page) (h : ℕ) → length ps ≡ length hs → holdings (ps ++ p ∷ []) (hs ++ h ∷ []) ≡ holdings ps hs ++ option_map (held_by h) p ∷ []
push-holdings [] [] p h e = refl
push-holdings [] (g ∷ hs) p h e = absurd (omega (arith, e))
push-holdings (q ∷ ps) [] p h e = absurd (omega (arith, e))
push-holdings (q ∷ ps) (g ∷ hs) p h e = ap (λ xs. option_map (held_by g) q ∷ xs) (push-holdings ps hs p h (omega (arith, e)))

held-holdings : (ps : List (Option Page)) (hs : List ℕ) → length ps ≡ length hs → held_count (holdings ps hs) ≡ page_count ps
held-holdings [] hs e = refl
held-holdings (p ∷ ps) [] e = absurd (omega (arith, e))
held-holdings (None ∷ ps) (h ∷ hs) e = held-holdings ps hs (omega (arith, e))
held-holdings (Some p ∷ ps) (h ∷ hs) e =
    let rest = held-holdings ps hs (omega (arith, e)) in
    omega (arith, rest, sum_by-cons one_if_held (Some (held_by h p)) (holdings ps hs), sum_by-cons one_if_page (Some p) ps)

some_in_map : {A B : Type 0} (f : A → B) (o : Option A) → is_some (option_map f o) ≡ is_some o
some_in_map f None = refl
some_in_map f (Some x) = refl

positive : (h : ℕ) → nat_lt 0 h ≡ true → 0 < h
positive h e = grind (arith, nat_tests)

is_positive : (h : ℕ) → 0 < h → nat_lt 0 h ≡ true
is_positive h less = grind (arith, nat_tests)

holders_in : (o : Option Page) (h : ℕ) → is_some o ≡ nat_lt 0 h → holders_of (option_map (held_by h) o) ≡ h
holders_in None h e = grind (arith, nat_tests)
holders_in (Some p) h e = refl

changed : (o : Option Page) (f : Holding → Holding) (g h : ℕ) → ((p : Page) → f (held_by g p) ≡ held_by h p) → option_map f (option_map (held_by g) o) ≡ option_map (held_by h) o
changed None f g h each = refl
changed (Some p) f g h each = ap Some (each p)

page_in : (o : Option Page) (h : ℕ) → option_map held_page (option_map (held_by h) o) ≡ o
page_in None h = refl
page_in (Some p) h = refl

module _ (ps : List (Option Page)) (hs : List ℕ) (counted : map is_some ps ≡ map (nat_lt 0) hs) where
  pub same_length : length ps ≡ length hs
  same_length = sym (length-map ps is_some) ∙ ap length counted ∙ length-map hs (nat_lt 0)

  pub long : length (holdings ps hs) ≡ length ps
  long = length-holdings ps hs same_length

  pub held_pages : held_count (holdings ps hs) ≡ page_count ps
  held_pages = held-holdings ps hs same_length

  pub get_held : (n : ℕ) → slice_index_or (holdings ps hs) n None ≡ option_map (held_by (slice_index hs n)) (slice_index_or ps n None)
  get_held n = get-holdings ps hs n same_length

  counted_at : (n : ℕ) → is_some (slice_index_or ps n None) ≡ nat_lt 0 (slice_index hs n)
  counted_at n = sym (get_or-map is_some ps n None) ∙ ap (λ bs. slice_index_or bs n false) counted ∙ get_or-map (nat_lt 0) hs n 0

  pub some_page : (n : ℕ) → is_some (slice_index_or (holdings ps hs) n None) ≡ is_some (slice_index_or ps n None)
  some_page n = ap is_some (get_held n) ∙ some_in_map (held_by (slice_index hs n)) (slice_index_or ps n None)

  pub held_within : (n : ℕ) → is_some (slice_index_or (holdings ps hs) n None) ≡ true → n < length ps
  held_within n some = some_within ps n (sym (some_page n) ∙ some)

  pub holders_within : (n : ℕ) → is_some (slice_index_or (holdings ps hs) n None) ≡ true → n < length hs
  holders_within n some = omega (arith, same_length, held_within n some)

  pub holders_is : (n : ℕ) → slice_index hs n ≡ holders_of (slice_index_or (holdings ps hs) n None)
  holders_is n = sym (ap holders_of (get_held n) ∙ holders_in (slice_index_or ps n None) (slice_index hs n) (counted_at n))

  pub none_page : (n : ℕ) → slice_index_or (holdings ps hs) n None ≡ None → slice_index_or ps n None ≡ None
  none_page n e = sym (page_in (slice_index_or ps n None) (slice_index hs n)) ∙ ap (option_map held_page) (sym (get_held n) ∙ e)

  -- a page and its holders are replaced
  pub counted_set : (n : ℕ) (p : Option Page) (h : ℕ) → is_some p ≡ nat_lt 0 h → map is_some (slice_set ps n p) ≡ map (nat_lt 0) (slice_set hs n h)
  counted_set n p h e =
      map-set is_some ps n p
      ∙ ap (λ bs. slice_set bs n (is_some p)) counted
      ∙ ap (λ b. slice_set (map (nat_lt 0) hs) n b) e
      ∙ sym (map-set (nat_lt 0) hs n h)

  -- a page comes behind them
  pub counted_push : (p : Page) → map is_some (ps ++ Some p ∷ []) ≡ map (nat_lt 0) (hs ++ 1 ∷ [])
  counted_push p =
      map-append is_some ps (Some p ∷ [])
      ∙ ap (λ bs. bs ++ true ∷ []) counted
      ∙ sym (map-append (nat_lt 0) hs (1 ∷ []))

  pub pushed : (p : Page) → holdings (ps ++ Some p ∷ []) (hs ++ 1 ∷ []) ≡ holdings ps hs ++ Some (held_by 1 p) ∷ []
  pushed p = push-holdings ps hs (Some p) 1 same_length

-- a page is read, and may change while its holders stay
module _ (ps : List (Option Page)) (hs : List ℕ) (counted : map is_some ps ≡ map (nat_lt 0) hs) (n : ℕ) (x : Option Page)
    (some : is_some (slice_index_or (holdings ps hs) n None) ≡ true) (is : x ≡ slice_index_or ps n x) where
  slot_read : x ≡ slice_index_or ps n None
  slot_read = get_or_read ps n x (held_within ps hs counted n some) is None

  pub page_there : is_some x ≡ true
  page_there = ap is_some slot_read ∙ sym (some_page ps hs counted n) ∙ some

  pub page_read : (p : Page) → x ≡ Some p → slice_index_or (holdings ps hs) n None ≡ Some (held_by (slice_index hs n) p)
  page_read p e = get_held ps hs counted n ∙ ap (option_map (held_by (slice_index hs n))) (sym slot_read ∙ e)

  pub counted_page : (p : Page) → map is_some (slice_set ps n (Some p)) ≡ map (nat_lt 0) hs
  counted_page p = map-set_same is_some ps n (Some p) None (sym (sym (ap is_some slot_read) ∙ page_there)) ∙ counted

  pub page_set : (was p : Page) (f : Holding → Holding) → x ≡ Some was → ((h : ℕ) → f (held_by h was) ≡ held_by h p) → holdings (slice_set ps n (Some p)) hs ≡ at_slot f n (holdings ps hs)
  page_set was p f e each =
      ap (holdings (slice_set ps n (Some p))) (sym (set-get_or hs n 0))
      ∙ set-holdings ps hs n (Some p) (slice_index hs n)
      ∙ ap (slice_set (holdings ps hs) n) (sym (ap (option_map f) (page_read was e) ∙ ap Some (each (slice_index hs n))))

-- the holders of a page are read, and may change
module _ (ps : List (Option Page)) (hs : List ℕ) (counted : map is_some ps ≡ map (nat_lt 0) hs) (n x : ℕ)
    (some : is_some (slice_index_or (holdings ps hs) n None) ≡ true) (is : x ≡ slice_index_or hs n x) where
  read : x ≡ slice_index hs n
  read = get_or_read hs n x (holders_within ps hs counted n some) is 0

  pub holders_read : x ≡ holders_of (slice_index_or (holdings ps hs) n None)
  holders_read = read ∙ holders_is ps hs counted n

  counted_yes : nat_lt 0 (slice_index hs n) ≡ true
  counted_yes = sym (counted_at ps hs counted n) ∙ sym (some_page ps hs counted n) ∙ some

  pub read_some : 0 < x
  read_some = rw read (positive (slice_index hs n) counted_yes)

  pub counted_holders : (h : ℕ) → 0 < h → map is_some ps ≡ map (nat_lt 0) (slice_set hs n h)
  counted_holders h less = counted ∙ sym (map-set_same (nat_lt 0) hs n h 0 (is_positive h less ∙ sym counted_yes))

  pub holders_set : (h : ℕ) (f : Holding → Holding) → ((p : Page) → f (held_by x p) ≡ held_by h p) → holdings ps (slice_set hs n h) ≡ at_slot f n (holdings ps hs)
  holders_set h f each =
      ap (λ qs. holdings qs (slice_set hs n h)) (sym (set-get_or ps n None))
      ∙ set-holdings ps hs n (slice_index_or ps n None) h
      ∙ ap (slice_set (holdings ps hs) n) (sym (ap (option_map f) (get_held ps hs counted n
      ∙ ap (λ k. option_map (held_by k) (slice_index_or ps n None)) (sym read)) ∙ changed (slice_index_or ps n None) f x h each))
