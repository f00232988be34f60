use Rattle.std.proofs.Common.{rules, ◌≡◌, Bool, true, false, None, Some, IfSome, slice_get, refl, ap, subst, sym, ◌∙◌, List, ℕ, swap_remove}
use Rattle.std.specs.Bool.{⊤}
use Rattle.std.specs.Str.{bytes_eq}
use Rattle.std.proofs.lemmas.Slice.Eq.{bytes_eq-Decides}
use Rattle.std.proofs.lemmas.Option.{get_or_from_slice_get, slice_get_within}
use Rattle.indexmap.specs.IndexMap.{Updates}
use Rattle.hp_lookup.proofs.Words.{IsMoreBut, Noted, is_noted_as, names_of}
use Rattle.hp_lookup.proofs.Hinted.{key_still_out, keyed_at, not_found, others_stay, rest_stay, still_out}
use Rattle.hp_lookup.proofs.hints.Hints.forget_file.Goals as goal

-- a name is not two
not_both : (name other key : List ℕ) → bytes_eq name other ≡ false → bytes_eq name key ≡ true → bytes_eq other key ≡ false
not_both name other key apart own = by (bytes_eq other key) refl
  where
    clash : true ≡ false → ⊥
    clash e = cc

    by : (b : Bool) → bytes_eq other key ≡ b → bytes_eq other key ≡ false
    by true e = absurd (clash (sym ((bytes_eq-Decides name other).1 ((bytes_eq-Decides name key).0 own ∙ sym ((bytes_eq-Decides other key).0 e))) ∙ apart))
    by false e = e

pub returns-then-is_noted_at : goal.returns-then-is_noted_at
returns-then-is_noted_at c =
    let old = c.self.inside.files.entries in
    let new = c.swap_remove_index-entry.new.self.entries in
    let name = c.args.name.now in
    let at = c.get-at.result in
    let noted = keyed_at old at name (subst (λ (n : Noted). slice_get n.names at ≡ Some name) (sym c.self.view_is) (c.is_noted_at.ensures c.if-is_noted_at.true)) in
    let entry : List ℕ × ⊤ = (name, noted.0) in
    let is = c.swap_remove_index-entry.ensures.entry ∙ noted.1 in
    let gone = subst (λ o. IfSome o (λ p. Updates bytes_eq c.self.inside.files c.swap_remove_index-entry.new.self p.0 None)) is c.swap_remove_index-entry.ensures.updates in
    let left = subst (λ o. IfSome o (λ p. new ≡ swap_remove old at p)) is c.swap_remove_index-entry.ensures.entries in
    let rest : Noted = record { names = names_of new; table = c.self.inside.maps } in
    let dropped : c.match-entry.self ≡ rest = search rules in
    subst (λ (n : Noted). IsMoreBut name c.args.self.now n) (sym dropped)
    (subst (λ (n : Noted). IsMoreBut name n rest) c.self.view_is
    (record {
      gone = not_found (λ (k : List ℕ). k) (bytes_eq name) _ (λ k. refl) new gone.1;
      names = λ other apart e.
          rest_stay (λ (k : List ℕ). k) (bytes_eq other) old at entry (slice_get_within old at entry noted.1)
          (ap (λ p. bytes_eq other p.0) (get_or_from_slice_get old at entry entry noted.1) ∙ not_both name other name apart ((bytes_eq-Decides name name).1 refl))
          (subst (λ es. is_noted_as other (record { names = names_of es; table = c.self.inside.maps }) ≡ false) left e);
      keys = λ task number e. e;
      less = record {
        names = λ other e.
            subst (λ es. is_noted_as other (record { names = names_of es; table = c.self.inside.maps }) ≡ false) (sym left)
            (still_out (λ (k : List ℕ). k) (bytes_eq other) old at entry (slice_get_within old at entry noted.1) e);
        keys = λ task number e. e;
      };
      tally = λ q. refl;
    }))

pub returns-else-is_noted_at : goal.returns-else-is_noted_at
returns-else-is_noted_at c =
    let new = c.swap_remove-noted.new.self.entries in
    subst (λ (n : Noted). IsMoreBut c.args.name.now n (record { names = names_of new; table = c.self.inside.maps })) c.self.view_is
    (record {
      gone = not_found (λ (k : List ℕ). k) (bytes_eq c.args.name.now) _ (λ k. refl) new c.swap_remove-noted.ensures.updates.1;
      names = λ other apart e.
          others_stay (λ (k : List ℕ). k) (bytes_eq other) _ (λ k own. not_both c.args.name.now other k apart own) c.self.inside.files.entries
          (subst (λ es. is_noted_as other (record { names = names_of es; table = c.self.inside.maps }) ≡ false) c.swap_remove-noted.ensures.entries e);
      keys = λ task number e. e;
      less = record {
        names = λ other e.
            subst (λ es. is_noted_as other (record { names = names_of es; table = c.self.inside.maps }) ≡ false) (sym c.swap_remove-noted.ensures.entries)
            (key_still_out (λ (k : List ℕ). k) (bytes_eq other) _ c.self.inside.files.entries e);
        keys = λ task number e. e;
      };
      tally = λ q. refl;
    })
