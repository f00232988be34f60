-- The values of options, given as references to their texts.
use Rattle.std.proofs.Common.{◌≡◌, ◌∙◌, ℕ, true, false, Option, Some, None, Ok, MatchOption, IsSomeAnd, option_map, sym, ap, subst}
use Rattle.std.specs.Borrow.{Bor}
use Rattle.std.specs.Int.{is_power_of_two}
use lib.Count.{ones}
use Rattle.clap.specs.Words.{Text}
use Rattle.hp_model.proofs.Words.{number_read}
use Rattle.hp_words.specs.Asked.{CanBe, page_bytes}

bad_shown : (given : Option (Bor Text)) (Fits : Text → Type 0) → IsSomeAnd given (λ text. Fits text.now → ⊥)
    → MatchOption (option_map (λ s. s.now) given) (false ≡ true) (λ text. Fits text → ⊥)
bad_shown None Fits bad = absurd bad
bad_shown (Some text) Fits bad = bad

-- the text that is given is bad
pub bad_value : (given : Option (Bor Text)) (value : Option Text) (Fits : Text → Type 0) → option_map (λ s. s.now) given ≡ value
    → IsSomeAnd given (λ text. Fits text.now → ⊥) → MatchOption value (false ≡ true) (λ text. Fits text → ⊥)
bad_value given value Fits same bad = subst (λ (v : Option Text). MatchOption v (false ≡ true) (λ text. Fits text → ⊥)) same (bad_shown given Fits bad)

-- no other number can be read
pub page_is_bad : (given : Option (Bor Text)) (page : ℕ) → MatchOption given (page ≡ 1024) (λ text. number_read text.now ≡ Ok page) → is_power_of_two page ≡ false
    → IsSomeAnd given (λ text. CanBe page_bytes text.now → ⊥)
unfolding ones
page_is_bad None page usual power = (let both : true ≡ false = ap is_power_of_two (sym usual) ∙ power in cc)
page_is_bad (Some text) page reads power = λ can.
    let same : can.0 ≡ page = (let read : Ok can.0 ≡ Ok page = sym can.1 ∙ reads in cc) in
    let both : true ≡ false = sym can.2.2 ∙ ap is_power_of_two same ∙ power in
    cc
