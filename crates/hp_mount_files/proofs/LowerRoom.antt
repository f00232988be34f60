use Rattle.std.proofs.lemmas.Grind.{common_steps}
-- Room is given back.
use Rattle.std.proofs.Common.{◌≡◌, ℕ, ◌+◌, ◌-◌, min, None, List, ◌++◌, length, replicate, sym, ap, ◌∙◌, arith}
use Rattle.std.proofs.lemmas.List.Sums.{sum_by-append}
use Rattle.hp_store.specs.Store.{Store, page_at}
use Rattle.hp_lookup.proofs.Words.{IsHeld, NumberedFile, files_shown, more_in}
use Rattle.hp_lookup.proofs.Lifting.{files_same}
use Rattle.hp_lookup.proofs.Cells.{free_is_fresh}
use Rattle.hp_lookup.proofs.Views.{view}
use Rattle.hp_file.proofs.Entering.{none_more, past_is_none}

module _ (s t : Store) (more count all : ℕ) (fs : List NumberedFile) (h : IsHeld s more fs) (least : min s.room (more + count) ≡ min s.room all)
    (t_is : t ≡ record s { pages = t.pages; room = min s.room all }) (pages : s.pages ≡ t.pages ++ replicate (length s.pages - length t.pages) None)
    (same : (n : ℕ) → page_at t n ≡ page_at s n) where
  shown_same : files_shown t fs ≡ files_shown s fs
  shown_same = files_same (length s.pages) s t (λ k other. same k) fs (free_is_fresh s more fs (length s.pages) h (past_is_none s.pages))

  room_is : t.room ≡ min s.room (more + count)
  room_is = ap (λ (u : Store). u.room) t_is ∙ sym least

  more_same : more_in t.pages ≡ more_in s.pages
  more_same = grind (arith, common_steps, sum_by-append, none_more)

  pub lower_view : view t more fs ≡ record (view s more fs) { room = min (s.room - more) count }
  lower_view = grind (arith, common_steps, room_is, shown_same)
