use Rattle.std.proofs.lemmas.Grind.{common_steps}
-- Holes alone: no entries, and no pages.
use Rattle.std.proofs.Common.{◌≡◌, ℕ, ◌-◌, ◌%◌, ◌<◌, ◌^◌, ◌&&◌, true, false, not, [], None, refl, sym, ap, ◌∙◌, arith, count_by, is_some}
use Rattle.std.specs.List.{range_with_len}
use Rattle.std.proofs.lemmas.Bool.{false≢true}
use Rattle.std.proofs.lemmas.List.FromFn.{length-range_with_len}
use Rattle.hp_model.proofs.Words.{has_page, within}
use Rattle.hp_model.proofs.Counting.{count_map, count_not, count_outside}
use Rattle.hp_inode.specs.declared.form.Form.{Form}
use Rattle.hp_inode.specs.declared.form.Form.TheVariants.{Holes}
use Rattle.hp_inode.specs.Blocks.{entered_count, missing_count, entered_at, page_at}
use Rattle.hp_inode.specs.Form.{IsForm}
use Rattle.hp_inode.specs.Kept.{IsKept, cell_by, kept_cell, cells_of}
use Rattle.hp_marks.proofs.Words.{unmarked_past}

-- in the empty lists there is no mark, and no page
pub unmarked : (i : ℕ) → entered_at [] i ≡ false
unmarked i = unmarked_past [] (i % 65536) (omega arith)

pub nowhere : (i : ℕ) → entered_at [] i ≡ true → ⊥
nowhere i in' = false≢true (sym (unmarked i) ∙ in')

pub pageless : (i : ℕ) → page_at [] i ≡ None
pageless i = refl

pub none_left : (a b k : ℕ) → entered_at [] k ≡ (entered_at [] k && not (within a b k))
none_left a b k = rw (unmarked k) refl

pub none_in : (a b : ℕ) → entered_count [] a b ≡ 0
none_in a b = count_outside (entered_at []) a (b - a) (λ i low high. unmarked i)

pub all_missing : (a b : ℕ) → missing_count [] a b ≡ b - a
all_missing a b = omega (arith, count_not (entered_at []) (range_with_len a (b - a)), none_in a b, length-range_with_len a (b - a))

-- so many holes are an inode's parts
pub bare_kept : (len : ℕ) → len < 2 ^ 32 → IsKept len 0 [] []
bare_kept len small = grind (arith, common_steps, nowhere, none_in, false≢true)

pub bare_paged : (len : ℕ) → 0 ≡ count_by has_page (cells_of len [] [])
bare_paged len = sym (count_map has_page (kept_cell [] []) (range_with_len 0 len)
    ∙ count_outside (λ i. has_page (kept_cell [] [] i)) 0 len (λ i low high. ap (λ t. has_page (cell_by t (page_at [] i))) (unmarked i)))

pub none_paged : (a b : ℕ) → 0 ≡ count_by (λ i. is_some (page_at [] i)) (range_with_len a (b - a))
none_paged a b = sym (count_outside (λ i. is_some (page_at [] i)) a (b - a) (λ i low high. refl))

pub holes_kept : {form : Form} {len : ℕ} → form ≡ Holes len → IsForm form → IsKept len 0 [] []
holes_kept {form} {len} is small = bare_kept len (rw is at small)
