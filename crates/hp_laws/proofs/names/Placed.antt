-- Names and numbers are found where they were, after each change that ends neither.
use Rattle.std.proofs.lemmas.Grind.{common_steps}
use Rattle.std.proofs.Common.{◌≡◌, subst, ℕ, zero, suc, ◌+◌, ◌==◌, Bool, true, false, None, Option, Some, List, [], ◌∷◌, ◌++◌, option_map, get_or, refl, sym, ap, ◌∙◌, arith, if◌then◌else◌, slice_set}
use Rattle.std.proofs.lemmas.Bool.{eqb-true, false_from_ne_true}
use Rattle.hp_model.proofs.Words.{File, Mount, Spot, file_named, found, is_map, one_on, spot}
use Rattle.hp_laws.specs.Follows.{Shape}
use Rattle.hp_laws.proofs.names.Keys.{FileKey, Where, file_key, has_key, in_key, is_key, is_named, key_places, keyed, keys, name_place, number_places, places}
use Rattle.hp_laws.proofs.lists.Places.{found_place}

-- ---- by keys

-- each name and number that is found in the first is found in the second, at the same place
pub record KeysLead (ks ls : List FileKey) : Type 0 where
  pub names : (name : List ℕ) (k : ℕ × FileKey) → found (is_named name) ks ≡ Some k → (l : ℕ × FileKey) × (found (is_named name) ls ≡ Some l) × (l.0 ≡ k.0)
  pub numbers : (task number : ℕ) (x : Where) → key_places (is_key task number) ks ≡ Some x → key_places (is_key task number) ls ≡ Some x

pub lead_same : (ks ls : List FileKey) → ls ≡ ks → KeysLead ks ls
lead_same ks ls same =
    subst (λ x. KeysLead ks x) (sym same) (record { names = λ name k e. (k, e, refl); numbers = λ task number x e. e })

-- ---- more at the end

pub found_more : {X : Type 0} (t : X → Bool) (xs ys : List X) (q : ℕ × X) → found t xs ≡ Some q → found t (xs ++ ys) ≡ Some q
found_more t [] ys q e = cc
found_more {X = X} t (x ∷ xs) ys q e = by_head (t x) (found t xs) refl (λ p w. found_more t xs ys p w) e
  where
    by_head : (b : Bool) (r : Option (ℕ × X)) → found t xs ≡ r → ((p : ℕ × X) → found t xs ≡ Some p → found t (xs ++ ys) ≡ Some p)
        → (if b then Some (0, x) else option_map one_on r) ≡ Some q → (if b then Some (0, x) else option_map one_on (found t (xs ++ ys))) ≡ Some q
    by_head true r was rest e = e
    by_head b r was rest e = grind arith

pub lead_more : (ks more : List FileKey) → KeysLead ks (ks ++ more)
lead_more ks more =
    record { names = λ name k e. (k, found_more (is_named name) ks more k e, refl); numbers = λ task number x e. numbers (is_key task number) x (found (has_key (is_key task number)) ks) refl e }
  where
    numbers : (t : Shape → Bool) (x : Where) (o : Option (ℕ × FileKey)) → found (has_key t) ks ≡ o → in_key t o ≡ Some x → key_places t (ks ++ more) ≡ Some x
    numbers t x None was e = cc
    numbers t x (Some k) was e = ap (in_key t) (found_more (has_key t) ks more k was) ∙ e

-- ---- one in the place of another

-- what was found, where another stands at the place j now
abbrev pub put_at : {X : Type 0} → ℕ → X → ℕ × X → ℕ × X
put_at j y p = (p.0, if p.0 == j then y else p.1)

suc_eq : (a b : ℕ) → (a + 1 == suc b) ≡ (a == b)
suc_eq a b = grind arith

suc_not_zero : (a : ℕ) → (a + 1 == 0) ≡ false
suc_not_zero a = false_from_ne_true (a + 1 == 0) (λ e. (let same = eqb-true (a + 1) 0 e in absurd (omega (arith, same))))

zero_not_suc : (j : ℕ) → (0 == suc j) ≡ false
zero_not_suc j = false_from_ne_true (0 == suc j) (λ e. (let same = eqb-true 0 (suc j) e in absurd (omega (arith, same))))

later : {X : Type 0} (j : ℕ) (y : X) (p : ℕ × X) → one_on (put_at j y p) ≡ put_at (suc j) y (one_on p)
later j y p = ap (λ b. (p.0 + 1, if b then y else p.1)) (sym (suc_eq p.0 j))

first_later : {X : Type 0} (y : X) (p : ℕ × X) → one_on p ≡ put_at 0 y (one_on p)
first_later y p = ap (λ b. (p.0 + 1, if b then y else p.1)) (sym (suc_not_zero p.0))

pub found_set : {X : Type 0} (t : X → Bool) (xs : List X) (j : ℕ) (y : X) → t y ≡ t (get_or xs j y) → found t (slice_set xs j y) ≡ option_map (put_at j y) (found t xs)
found_set t [] j y same = refl
found_set {X = X} t (x ∷ xs) zero y same = grind (arith, first_later)
found_set {X = X} t (x ∷ xs) (suc j) y same = by_head (t x) (found t xs) (found t (slice_set xs j y)) (found_set t xs j y same)
  where
    by_head : (b : Bool) (r s : Option (ℕ × X)) → s ≡ option_map (put_at j y) r →
        (if b then Some (0, x) else option_map one_on s) ≡ option_map (put_at (suc j) y) (if b then Some (0, x) else option_map one_on r)
    by_head true r s rest = ap (λ b. Some (0, if b then y else x)) (sym (zero_not_suc j))
    by_head b r s rest = grind (arith, later)

-- ---- a file gets one map more, of a key that is not there yet

module _ (ks : List FileKey) (j : ℕ) (k : FileKey) (new : Shape) (there : (d : FileKey) → get_or ks j d ≡ k)
    (fresh : (task number : ℕ) → is_key task number new ≡ true → key_places (is_key task number) ks ≡ None) where
  abbrev with_new : FileKey
  with_new = (k.0, k.1 ++ new ∷ [])

  still_has : (t : Shape → Bool) → t new ≡ false → has_key t with_new ≡ has_key t k
  still_has t unlike = grind (arith, common_steps)

  in_more : (t : Shape → Bool) (q : ℕ × FileKey) (x : Where) (b : Bool) → (b ≡ true → q.1 ≡ k) → in_key t (Some q) ≡ Some x → in_key t (Some (q.0, if b then with_new else q.1)) ≡ Some x
  in_more t q x b is e = grind (arith, found_more)

  pub lead_added : KeysLead ks (slice_set ks j with_new)
  lead_added = record { names = names; numbers = λ task number x e. numbers task number x (is_key task number new) refl e }
    where
      names : (name : List ℕ) (q : ℕ × FileKey) → found (is_named name) ks ≡ Some q → (l : ℕ × FileKey) × (found (is_named name) (slice_set ks j with_new) ≡ Some l) × (l.0 ≡ q.0)
      names name q e = (
        put_at j with_new q,
        found_set (is_named name) ks j with_new
            (ap (is_named name) (sym (ap (λ (f : FileKey). (f.0, k.1 ++ new ∷ [])) (there with_new)))) ∙ ap (option_map (put_at j with_new)) e,
        refl,
      )

      numbers : (task number : ℕ) (x : Where) (b : Bool) → is_key task number new ≡ b → key_places (is_key task number) ks ≡ Some x → key_places (is_key task number) (slice_set ks j with_new) ≡ Some x
      numbers task number x true is e = (let none = fresh task number is in cc)
      numbers task number x false is e = by_file (found (has_key (is_key task number)) ks) refl e
        where
          by_file : (o : Option (ℕ × FileKey)) → found (has_key (is_key task number)) ks ≡ o → in_key (is_key task number) o ≡ Some x →
              key_places (is_key task number) (slice_set ks j with_new) ≡ Some x
          by_file None was e = cc
          by_file (Some q) was e =
              let place = found_place (has_key (is_key task number)) ks q was in
              ap (in_key (is_key task number))
              (found_set (has_key (is_key task number)) ks j with_new (still_has (is_key task number) is
              ∙ ap (has_key (is_key task number)) (sym (there with_new))) ∙ ap (option_map (put_at j with_new)) was)
              ∙ in_more (is_key task number) q x (q.0 == j) (λ here. sym (place.is k) ∙ ap (λ n. get_or ks n k) (eqb-true q.0 j here) ∙ there k) e

-- ---- mounts

-- what each name and number means stands where it stood
pub record Placed (m n : Mount) : Type 0 where
  pub names : (name : List ℕ) (f : ℕ × File) → file_named m name ≡ Some f → (g : ℕ × File) × (file_named n name ≡ Some g) × (g.0 ≡ f.0)
  pub numbers : (task number : ℕ) (p : Spot) → spot m (is_map task number) ≡ Some p → (q : Spot) × (spot n (is_map task number) ≡ Some q) × (places q ≡ places p)

unkeyed : {X K Y : Type 0} (f : X → Y) (g : K → Y) (key : X → K) → ((x : X) → g (key x) ≡ f x) → (o : Option X) (k : K) → option_map key o ≡ Some k → (x : X) × (o ≡ Some x) × (f x ≡ g k)
unkeyed f g key same o k e = grind arith

pub placed : (m n : Mount) → KeysLead (keys m) (keys n) → Placed m n
placed m n lead =
    record {
      names = λ name f e.
          (let found = lead.names name (keyed file_key f) (name_place m name ∙ ap (option_map (keyed file_key)) e) in
          let there = unkeyed (λ (g : ℕ × File). g.0) (λ (k : ℕ × FileKey). k.0) (keyed file_key) (λ g. refl) (file_named n name) found.0 (sym (name_place n name) ∙ found.1) in
          (there.0, there.1, there.2 ∙ found.2));
      numbers = λ task number p e.
          (let at = lead.numbers task number (places p) (sym (number_places m task number) ∙ ap (option_map places) e) in
          unkeyed places (λ (x : Where). x) places (λ q. refl) (spot n (is_map task number)) (places p) (number_places n task number ∙ at));
    }
