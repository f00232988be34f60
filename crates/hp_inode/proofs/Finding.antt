use Rattle.std.proofs.lemmas.Grind.{common_steps}
-- The first page of a table, by the bits of its words.
use Rattle.std.proofs.Common.{◌≡◌, ℕ, ◌+◌, ◌*◌, ◌/◌, ◌<◌, ◌≤◌, true, false, List, Option, None, Some, sym, refl, ◌∙◌, arith, ⊎_elim, is_some}
use Rattle.std.proofs.lemmas.Bool.{cases_lt, true≢false}
use Rattle.hp_marks.specs.Marks.{marked, FindsWithin, IsFirstFrom}
use Rattle.hp_marks.proofs.Words.{unmarked_past}
use Rattle.hp_inode.specs.EntryBlock.{IsEntries}
use Rattle.hp_inode.specs.Rows.{Rows, page_in, FindsPage, IsFirstPage, IsTable}

pub none_of : (o : Option ℕ) → is_some o ≡ false → o ≡ None
none_of None off = refl
none_of (Some page) off = absurd (true≢false off)

module _ (rows : Rows) (words marks : List ℕ) (table : IsTable rows words marks) where
  pub no_page : (i : ℕ) → marked words i ≡ false → page_in rows i ≡ None
  no_page i off = none_of (page_in rows i) (sym (table.pages i) ∙ off)

  -- the words and their marks are a set of entries
  pub table_entries : IsEntries words marks
  table_entries = grind (arith, common_steps, unmarked_past, cases_lt)

  first_page : (a i : ℕ) → a ≤ i → marked words i ≡ true → ((k : ℕ) → a ≤ k → k < i → marked words k ≡ false) → IsFirstPage (page_in rows) a i
  first_page a i from here before = record {
    from = from;
    here = sym (table.pages i) ∙ here;
    none_before = λ k low high. no_page k (before k low high);
  }

  module _ (a : ℕ) (here : (k : ℕ) → a ≤ k → k < 64 * (a / 64) + 64 → marked words k ≡ false) where
    none_to : (q : ℕ) → ((j : ℕ) → a / 64 + 1 ≤ j → j < q → marked marks j ≡ false) → (k : ℕ) → a ≤ k → k / 64 < q → marked words k ≡ false
    none_to q off k above below = ⊎_elim
        (λ (same : k < 64 * (a / 64) + 64). here k above same)
        (λ (later : 64 * (a / 64) + 64 ≤ k). table.none k (off (k / 64) (omega (arith, later)) below))
        (cases_lt k (64 * (a / 64) + 64))

    -- in a later word
    pub page_later : (q : ℕ) (found : Option ℕ) → IsFirstFrom marks (a / 64 + 1) q → FindsWithin words (64 * q) (64 * (64 * q / 64) + 64) found → FindsPage rows a found
    page_later q None next none =
        absurd (table.some q next.here (λ i chunk. none i (omega (arith, chunk)) (omega (arith, chunk))))
    page_later q (Some i) next found =
        let from = next.from in
        let low = found.first.from in
        first_page a i (omega (arith, from, low)) found.first.here (λ k above below. ⊎_elim
        (λ (early : k < 64 * q). none_to q next.none_before k above (omega (arith, early)))
        (λ (late : 64 * q ≤ k). found.first.none_before k late below)
        (cases_lt k (64 * q)))
