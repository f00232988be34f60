-- A file whose range gets pages of zeros.
use Rattle.std.proofs.lemmas.Grind.{common_steps}
use Rattle.std.proofs.Common.{◌≡◌, ⊎_elim, inl, inr, ◌⊎◌, ℕ, ◌+◌, ◌-◌, ◌<◌, ◌≤◌, true, ◌==◌, List, length, map, max, replicate, refl, sym, ap, ◌∙◌, arith, All, count_by}
use Rattle.std.proofs.lemmas.List.{length-map}
use Rattle.std.proofs.lemmas.List.Elements.{All-map}
use Rattle.hp_laws.proofs.Variants.{Cell, Hole}
use Rattle.hp_model.proofs.Words.{File, Page, at_least, cell_at, cell_in, cells_filled, file_pages, file_pages_at, file_reserves, has_page, is_hole, lacking, part, range_filled, unentered, zero_page}
use Rattle.hp_model.proofs.Words.{zeros}
use Rattle.hp_model.proofs.Counting.{count_map}
use Rattle.hp_laws.proofs.lists.Fills.{Fill, IsNew, all_there, bare, by_index, entries_are, fills, holes_lack}
use Rattle.hp_laws.proofs.lists.Looks.{same_more, same_none}
use Rattle.hp_laws.proofs.counts.OneMapMore.{cells_longer}
use Rattle.hp_laws.proofs.lists.NodesOf.{count_of}

-- a page more at each of these nodes, and the usage u more
pub record FileFills (f g : File) (nodes : List ℕ) (u : ℕ) : Type 0 where
  pub pages : file_pages g ≡ file_pages f + length nodes
  pub usage : file_pages g + file_reserves g ≡ file_pages f + file_reserves f + u
  pub each : (n : ℕ) → file_pages_at n g ≡ file_pages_at n f + count_of n nodes

module _ (size a b : ℕ) (nodes : List ℕ) (f : File) where
  abbrev longer : List (Cell Page)
  longer = at_least b f.cells

  abbrev pages : List Page
  pages = map (zero_page size) nodes

  pub length-longer : length longer ≡ max (length f.cells) b
  length-longer = grind (arith, common_steps)

  pub same_longer : (i : ℕ) → cell_in longer i ≡ cell_at f i
  same_longer i = same_more (λ c. c) Hole f.cells (replicate (b - length f.cells) Hole) (same_none (λ c. c) Hole (b - length f.cells)) i

  holes_asked : unentered a b f ≡ count_by is_hole (part a b longer)
  holes_asked = grind arith

  module _ (all : length nodes ≡ lacking a b f) where
    few : length pages ≤ bare a b longer
    few = omega (arith, all, length-map nodes (zero_page size))

    fill : Fill a b longer (cells_filled a pages longer) pages
    fill = fills a b pages longer few

    pub filled_fills : FileFills f (range_filled size a b nodes f) nodes (unentered a b f)
    filled_fills =
        let long = cells_longer b f.cells in
        let pages_of_all = length-map nodes (zero_page size) in
        let pages_more = fill.pages in
        let entries = fill.entries in
        let left = fill.left in
        let first_pages = long.pages in
        let first_waits = long.waits in
        let none = holes_lack (part a b (cells_filled a pages longer)) in
        let was = entries_are longer in
        let is = entries_are (cells_filled a pages longer) in
        record {
          pages = omega (arith, pages_more, pages_of_all, first_pages);
          usage = omega (arith, entries, left, none, was, is, pages_of_all, all, first_pages, first_waits, holes_asked);
          each = λ n. (let here = fill.each n in let first = long.each n in omega (arith, here, first, count_map (λ (p : Page). p.node == n) (zero_page size) nodes));
        }

    pub length-filled : length (range_filled size a b nodes f).cells ≡ max (length f.cells) b
    length-filled = fill.long ∙ length-longer

    -- the page at each index of the range
    pub filled_there : (i : ℕ) → a ≤ i → i < b → has_page (cell_at (range_filled size a b nodes f) i) ≡ true
    filled_there i low high = grind (arith, fill, length-map, all_there, length-filled)

    -- index by index: as it was, or a page of zeros where there was none
    pub filled_index : (i : ℕ) → (cell_at (range_filled size a b nodes f) i ≡ cell_at f i) ⊎ IsNew a b (λ p. p.bytes ≡ zeros size) f.cells (range_filled size a b nodes f).cells i
    filled_index i =
        let zero : All (λ (p : Page). p.bytes ≡ zeros size) pages = All-map (λ (p : Page). p.bytes ≡ zeros size) (zero_page size) nodes (λ k d l. refl) in
        ⊎_elim (λ (stays : cell_at (range_filled size a b nodes f) i ≡ cell_in longer i). inl (stays ∙ same_longer i))
        (λ new. inr (record {
          low = new.low;
          high = new.high;
          lacked = sym (ap has_page (same_longer i)) ∙ new.lacked;
          page = new.page;
          is = new.is;
          holds = new.holds;
        }))
        (by_index a b (λ p. p.bytes ≡ zeros size) pages longer zero few i)
