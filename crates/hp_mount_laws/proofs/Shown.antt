-- Bytes that are shown, as an answer.
use Rattle.std.proofs.Common.{◌≡◌, ℕ, ◌-◌, ◌++◌, List, Ok, length, take, drop, replicate, ap, ◌∙◌}
use Rattle.hp_laws.proofs.Variants.{Bytes}
use Rattle.hp_model.proofs.Words.{bytes_answer, bytes_reply}
use denote.Ref.{Bor}

-- so many bytes of what is shown
pub bytes_reply_is : (bytes : Bor (List ℕ)) (offset count : ℕ) (page : List ℕ) → length bytes.now ≡ count → bytes.now ≡ take count (drop offset page)
    → bytes_reply (Ok bytes) ≡ Ok (bytes_answer offset count page)
bytes_reply_is bytes offset count page all shown =
    ap (λ n. Ok (Bytes n (bytes.now ++ replicate (256 - n) 0))) all ∙ ap (λ xs. Ok (Bytes count (xs ++ replicate (256 - count) 0))) shown
