-- Taking the events out of the receipts, from the last on.
use Rattle.std.proofs.lemmas.Grind.{common_steps}
use Rattle.std.proofs.Common.{◌≡◌, inl, inr, ℕ, ◌<◌, ◌==◌, cond, None, Some, List, [], ◌∷◌, ◌++◌, length, map, reverse, refl, sym, ap, ◌∙◌, subst, arith, append-nil, append_assoc, Contains}
use Rattle.std.proofs.Common.{slice_index_or, slice_set}
use Rattle.std.proofs.lemmas.Bool.{eq-eqb}
use Rattle.std.proofs.lemmas.Bool.Decides.{eqb_tells}
use Rattle.std.proofs.lemmas.List.{get_or-set_same, get_or-set_other, length-set, reverse-append}
use Rattle.std.proofs.lemmas.List.Elements.{All-contains, Contains-append_left, Contains-push}
use Rattle.hp_laws.proofs.Variants.{Event, Receipt}
use Rattle.hp_model.proofs.Words.{IsTold, Item, event_of, keep, option_cons, receipt_of, told}
use Rattle.hp_trail.proofs.Walking.{keep_snoc}

abbrev pub session_of : Item → ℕ
session_of i = i.by

abbrev pub happened : Item → Event
happened i = (event_of i.entry).0

-- the items in front are still to be taken out, and the events of the others are, last first
pub record IsEmptying (items : List Item) (sessions : ℕ) (order : List ℕ) (left : List (List Receipt)) (events : List Event) : Type 0 where
  pub front : List Item
  pub back : List Item
  pub all : items ≡ front ++ back
  pub ordered : map session_of front ≡ order
  pub count : length left ≡ sessions
  pub kept : (s : ℕ) → s < sessions → slice_index_or left s [] ≡ keep (told s) front
  pub taken : reverse events ≡ map happened back

-- a list whose images end so ends in such an element
record Ends {X Y : Type 0} (f : X → Y) (xs : List X) (ys : List Y) (y : Y) : Type 0 where
  pub init : List X
  pub last : X
  pub is : xs ≡ init ++ last ∷ []
  pub images : map f init ≡ ys
  pub image : f last ≡ y

ends : {X Y : Type 0} (f : X → Y) (xs : List X) (ys : List Y) (y : Y) → map f xs ≡ ys ++ y ∷ [] → Ends f xs ys y
ends f [] [] y e = cc
ends f [] (z ∷ ys) y e = cc
ends f (x ∷ []) [] y e = record { init = []; last = x; is = refl; images = refl; image = cc }
ends f (x ∷ w ∷ xs) [] y e = cc
ends f (x ∷ xs) (z ∷ ys) y e =
    let rest = ends f xs ys y cc in
    record {
      init = x ∷ rest.init;
      last = rest.last;
      is = ap (λ zs. x ∷ zs) rest.is;
      images = (let first : f x ≡ z = cc in ap (λ v. v ∷ map f rest.init) first ∙ ap (λ vs. z ∷ vs) rest.images);
      image = rest.image;
    }

snoc_same : {X : Type 0} (xs ys : List X) (x y : X) → xs ++ x ∷ [] ≡ ys ++ y ∷ [] → (xs ≡ ys) × (x ≡ y)
snoc_same xs ys x y e = grind (arith, common_steps)

not_empty : {X : Type 0} (xs : List X) (x : X) → xs ++ x ∷ [] ≡ [] → ⊥
not_empty xs x e = grind (arith, common_steps)

reverse_snoc : {X : Type 0} (xs : List X) (x : X) → reverse (xs ++ x ∷ []) ≡ x ∷ reverse xs
reverse_snoc xs x = reverse-append xs (x ∷ [])

module _ (receipts : List (List Receipt)) (items : List Item) (is_told : IsTold receipts items) (order rest : List ℕ) (s : ℕ) (left : List (List Receipt)) (events : List Event)
    (h : IsEmptying items (length receipts) order left events) (popped : order ≡ rest ++ s ∷ []) where
  last : Ends session_of h.front rest s
  last = ends session_of h.front rest s (h.ordered ∙ popped)

  own : told s last.last ≡ Some (receipt_of last.last)
  own = ap (λ n. cond (n == s) (Some (receipt_of last.last)) None) last.image ∙ ap (λ b. cond b (Some (receipt_of last.last)) None) (eq-eqb s s refl)

  -- the session is one of them
  pub there : s < length receipts
  there =
      let among : Contains items last.last =
      subst (λ xs. Contains xs last.last) (ap (λ xs. xs ++ h.back) (sym last.is) ∙ sym h.all)
      (Contains-append_left (last.init ++ last.last ∷ []) h.back last.last (Contains-push last.init last.last)) in
      subst (λ (n : ℕ). n < length receipts) last.image (All-contains (λ (i : Item). i.by < length receipts) items last.last is_told.by among)

  -- and has the receipt of the last item at its end
  ends_so : slice_index_or left s [] ≡ keep (told s) last.init ++ receipt_of last.last ∷ []
  ends_so = h.kept s there ∙ ap (keep (told s)) last.is ∙ keep_snoc (told s) last.init last.last ∙ ap (λ o. keep (told s) last.init ++ option_cons o []) own

  pub some_left : slice_index_or left s [] ≡ [] → ⊥
  some_left none = not_empty (keep (told s) last.init) (receipt_of last.last) (sym ends_so ∙ none)

  pub emptied : (told' : List Receipt) (r : Receipt) → slice_index_or left s [] ≡ told' ++ r ∷ [] → IsEmptying items (length receipts) rest (slice_set left s told') (events ++ r.event ∷ [])
  emptied told' r is =
      let same = snoc_same told' (keep (told s) last.init) r (receipt_of last.last) (sym is ∙ ends_so) in
      record {
        front = last.init;
        back = last.last ∷ h.back;
        all = h.all ∙ ap (λ xs. xs ++ h.back) last.is ∙ append_assoc last.init (last.last ∷ []) h.back;
        ordered = last.images;
        count = length-set left s told' ∙ h.count;
        kept = kept same.0;
        taken = reverse_snoc events r.event ∙ ap (λ x. x.event ∷ reverse events) same.1 ∙ ap (λ xs. happened last.last ∷ xs) h.taken;
      }
    where
      kept : told' ≡ keep (told s) last.init → (u : ℕ) → u < length receipts → slice_index_or (slice_set left s told') u [] ≡ keep (told u) last.init
      kept same u l =
          elim (eqb_tells u s) [
            | inl w ↦
                let below = there in
                let long = h.count in
                ap (λ n. slice_index_or (slice_set left s told') n []) w.1 ∙ get_or-set_same left s told' [] (omega (arith, below, long)) ∙ same ∙ ap (λ n. keep (told n) last.init) (sym w.1)
            | inr w ↦
                let none : told u last.last ≡ None = other u w.1 in
                get_or-set_other left s u told' [] w.1 ∙ h.kept u l ∙ ap (keep (told u)) last.is ∙ keep_snoc (told u) last.init last.last ∙ ap (λ o. keep (told u) last.init ++ option_cons o []) none
                ∙ append-nil (keep (told u) last.init)
          ]
        where
          other : (u : ℕ) → (u ≡ s → ⊥) → told u last.last ≡ None
          other u ne =
              elim (eqb_tells last.last.by u) [
                | inl w ↦ absurd (ne (sym w.1 ∙ last.image))
                | inr w ↦ ap (λ b. cond b (Some (receipt_of last.last)) None) w.0
              ]

pub none_there : {X : Type 0} (xs : List X) → length xs ≡ 0 → xs ≡ []
none_there xs e = grind (arith, common_steps)
