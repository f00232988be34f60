use Rattle.std.proofs.Common.{◌≡◌, ℕ, List, Bool, true, false, refl, subst, sym, ◌∙◌}
use Rattle.std.specs.Bool.{⊤}
use Rattle.std.specs.Str.{bytes_eq}
use Rattle.std.proofs.lemmas.Slice.Eq.{bytes_eq-Decides}
use Rattle.hp_lookup.proofs.Words.{IsMoreByName, Noted, is_noted_as, names_of}
use Rattle.hp_lookup.proofs.Hinted.{other_in, put_in, stays}
use Rattle.hp_lookup.proofs.hints.Hints.note_file.Goals as goal

-- names are compared either way
flipped : (name other : List ℕ) → bytes_eq name other ≡ false → bytes_eq other name ≡ false
flipped name other apart = by (bytes_eq other name) refl
  where
    clash : true ≡ false → ⊥
    clash e = cc

    by : (b : Bool) → bytes_eq other name ≡ b → bytes_eq other name ≡ false
    by true e = absurd (clash (sym ((bytes_eq-Decides name other).1 (sym ((bytes_eq-Decides other name).0 e))) ∙ apart))
    by false e = e

pub returns-clause-more : goal.returns-clause-more
returns-clause-more c =
    let new = c.insert_full.new.self.entries in
    subst (λ (n : Noted). IsMoreByName c.args.name n (record { names = names_of new; table = c.self.inside.maps })) c.self.view_is
    (record {
      more = record {
        names = λ name e. stays (λ (k : List ℕ). k) (bytes_eq name) _ c.new-key.result _ c.self.inside.files.entries
            (subst (λ es. is_noted_as name (record { names = names_of es; table = c.self.inside.maps }) ≡ false) c.in-Ok.ensures.entries e);
        keys = λ task number e. e;
      };
      names = λ other apart e.
          subst (λ es. is_noted_as other (record { names = names_of es; table = c.self.inside.maps }) ≡ false) (sym c.in-Ok.ensures.entries)
          (other_in (λ (k : List ℕ). k) (bytes_eq other) _ c.new-key.result _
          (subst (λ q. bytes_eq other q ≡ false) (sym c.new-key.ensures) (flipped c.args.name other apart)) c.self.inside.files.entries e);
      keys = λ task number e. e;
      tally = λ q. refl;
    })

pub returns-clause-noted : goal.returns-clause-noted
returns-clause-noted c =
    let key = c.new-key.result in
    let shown = λ (q : List ℕ) (es : List (List ℕ × ⊤)). is_noted_as q (record { names = names_of es; table = c.self.inside.maps }) ≡ true in
    subst (λ q. shown q c.insert_full.new.self.entries) c.new-key.ensures (subst (shown key) (sym c.in-Ok.ensures.entries)
    (put_in (λ (k : List ℕ). k) (bytes_eq key) _ key _ (λ y e. e) ((bytes_eq-Decides key key).1 refl) c.self.inside.files.entries))
