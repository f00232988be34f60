use Rattle.std.proofs.lemmas.Grind.{common_steps}
-- A file more, at which no number stands.
use Rattle.std.proofs.Common.{◌≡◌, ℕ, zero, suc, ◌+◌, ◌<◌, ◌≤◌, Bool, true, false, cond, List, [], ◌∷◌, ◌++◌, length, refl, sym, ap, subst, arith, All, count_by, sum_by}
use Rattle.std.proofs.lemmas.Bool.{cases_lt}
use Rattle.std.proofs.lemmas.List.{map-append}
use Rattle.std.proofs.lemmas.List.Elements.{All-append, All-cons, All-nil}
use Rattle.std.proofs.lemmas.List.Sums.{sum_by_push}
use Rattle.hp_store.specs.Store.{Store}
use Rattle.hp_lookup.proofs.Words.{AreLevel, AreNoted, IsFiles, IsHeld, IsKeyed, IsMore, Label, Noted, NumberedFile, has_key, has_label, in_cell, in_cells, in_file, in_files, is_listed}
use Rattle.hp_lookup.proofs.Words.{is_noted_as as has_noted, keys_in, label_of, labels_of, maps_for, numbered_at}

module _ (old now : Noted) (s : Store) (more maps : ℕ) (tally : ℕ → ℕ) (fs : List NumberedFile) (is : IsFiles old s more maps tally fs) (f : NumberedFile) (bare : (n : ℕ) → in_file n f ≡ 0) where
  abbrev gs : List NumberedFile
  gs = fs ++ f ∷ []

  same_holders : (n : ℕ) → in_files n gs ≡ in_files n fs
  same_holders n = (let step = sum_by_push (in_file n) fs f in let none = bare n in omega (arith, step, none))

  same_cells : (n : ℕ) → in_cells n gs ≡ in_cells n fs
  same_cells n = (let step = sum_by_push (λ (x : NumberedFile). sum_by (in_cell n) x.cells) fs f in let none = bare n in omega (arith, step, none))

  at_front : (xs : List NumberedFile) (j : ℕ) → j < length xs → numbered_at (xs ++ f ∷ []) j ≡ numbered_at xs j
  at_front [] j l = absurd (none j l)
    where
      none : (j : ℕ) → j < 0 → ⊥
      none j l = omega (arith, l)
  at_front (x ∷ xs) zero l = refl
  at_front (x ∷ xs) (suc j) l = at_front xs j (omega (arith, l))

  at_end : (xs : List NumberedFile) (n j : ℕ) → length xs ≤ j → in_file n (numbered_at (xs ++ f ∷ []) j) ≡ 0
  at_end [] n zero l = bare n
  at_end [] n (suc j) l = refl
  at_end (x ∷ xs) n zero l = absurd (omega (arith, l))
  at_end (x ∷ xs) n (suc j) l = at_end xs n j (omega (arith, l))

  apart : (n j : ℕ) → j < length gs → 0 < in_file n (numbered_at gs j) → in_files n gs ≡ in_file n (numbered_at gs j)
  apart n j l some = grind (arith, common_steps, same_holders, at_front, at_end, cases_lt)

  held : IsHeld s more gs
  held = grind (arith, common_steps, same_holders, same_cells, apart)

  abbrev own : Label
  own = label_of f

  labels : labels_of gs ≡ labels_of fs ++ own ∷ []
  labels = map-append label_of fs (f ∷ [])

  -- its name and its maps' keys are new, and so many maps each task then has
  module _ (listed : is_listed own ≡ true) (name_few : (name : List ℕ) → count_by (has_label name) (labels_of fs) ≤ 1 →
      count_by (has_label name) (labels_of fs) + cond {A = ℕ} (has_label name own) 1 0 ≤ 1)
      (keys_few : (t m : ℕ) → sum_by (keys_in t m) (labels_of fs) ≤ 1 → sum_by (keys_in t m) (labels_of fs) + keys_in t m own ≤ 1)
      (next : ℕ → ℕ) (tallied : (q : ℕ) → next q ≡ tally q + maps_for q own) where
    keyed : IsKeyed (maps + length own.keys) next (labels_of gs)
    keyed = subst (IsKeyed (maps + length own.keys) next) (sym labels) (record {
      kept = All-append (λ (l : Label). is_listed l ≡ true) (labels_of fs) (own ∷ []) is.keyed.kept
          (All-cons (λ (l : Label). is_listed l ≡ true) own [] listed (All-nil (λ (l : Label). is_listed l ≡ true)));
      names = λ name. (let step = sum_by_push (λ (l : Label). cond {A = ℕ} (has_label name l) 1 0) (labels_of fs) own in let few = name_few name (is.keyed.names name) in omega (arith, step, few));
      keys = λ t m. (let step = sum_by_push (keys_in t m) (labels_of fs) own in let few = keys_few t m (is.keyed.keys t m) in omega (arith, step, few));
      map_count = (let step = sum_by_push (λ (l : Label). length l.keys) (labels_of fs) own in let was = is.keyed.map_count in omega (arith, step, was));
      tallied = λ q. (let step = sum_by_push (maps_for q) (labels_of fs) own in let was = is.keyed.tallied q in let more = tallied q in omega (arith, step, was, more));
    })

    -- and they are noted
    module _ (grown : IsMore old now) (name_only : (name : List ℕ) → has_label name own ≡ false → has_noted name old ≡ false → has_noted name now ≡ false)
        (key_only : (t m : ℕ) → keys_in t m own ≡ 0 → has_key t m old ≡ false → has_key t m now ≡ false)
        (name_known : (name : List ℕ) → has_noted name now ≡ false → has_label name own ≡ false) (keys_known : (t m : ℕ) → has_key t m now ≡ false → keys_in t m own ≡ 0)
        (own_level : AreLevel f.maps) where
      noted : AreNoted now (labels_of gs)
      noted = subst (AreNoted now) (sym labels) (record {
        names = λ name e.
            let step = sum_by_push (λ (l : Label). cond {A = ℕ} (has_label name l) 1 0) (labels_of fs) own in
            let before = is.noted.names name (grown.names name e) in
            let last = ap (λ b. cond {A = ℕ} b 1 0) (name_known name e) in
            omega (arith, step, before, last);
        keys = λ t m e.
            let step = sum_by_push (keys_in t m) (labels_of fs) own in
            let before = is.noted.keys t m (grown.keys t m e) in
            let last = keys_known t m e in
            omega (arith, step, before, last);
        no_name = λ name e. no_name name e (has_label name own) refl (sum_by_push (λ (l : Label). cond {A = ℕ} (has_label name l) 1 0) (labels_of fs) own);
        no_key = λ t m e.
            let step = sum_by_push (keys_in t m) (labels_of fs) own in
            key_only t m (omega (arith, step, e)) (is.noted.no_key t m (omega (arith, step, e)));
      })
        where
          no_name : (name : List ℕ) → count_by (has_label name) (labels_of fs ++ own ∷ []) ≡ 0 → (b : Bool) → has_label name own ≡ b
              → count_by (has_label name) (labels_of fs ++ own ∷ []) ≡ count_by (has_label name) (labels_of fs) + cond {A = ℕ} (has_label name own) 1 0 → has_noted name now ≡ false
          no_name name e true its step = (let one = ap (λ b. cond {A = ℕ} b 1 0 + 0) its in absurd (omega (arith, e, step, one)))
          no_name name e false other step = name_only name other (is.noted.no_name name (omega (arith, e, step)))

      level : All (λ (x : NumberedFile). AreLevel x.maps) gs
      level = All-append (λ (x : NumberedFile). AreLevel x.maps) fs (f ∷ []) is.level
          (All-cons (λ (x : NumberedFile). AreLevel x.maps) f [] own_level (All-nil (λ (x : NumberedFile). AreLevel x.maps)))

      pub pushed : IsFiles now s more (maps + length own.keys) next gs
      pushed = record { held = held; keyed = keyed; noted = noted; level = level }
