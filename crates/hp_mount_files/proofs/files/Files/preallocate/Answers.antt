use Rattle.std.proofs.lemmas.Grind.{common_steps}
use Rattle.std.proofs.Common.{◌≡◌, ℕ, ◌+◌, ◌<◌, ◌≤◌, List, length, max, slice_index_or, slice_set, ap, subst, sym, ◌∙◌, arith, count_by}
use Rattle.hp_model.proofs.Words.{at_least, cell_at, edit_range, is_entered, lacks_page, part}
use Rattle.hp_model.specs.files.File.{entered}
use Rattle.hp_store.specs.Store.{Store}
use Rattle.hp_lookup.proofs.Words.{Files, IsHeld, NumberedFile, tally_of, file_at, files_shown, label_of}
use Rattle.hp_mount_door.specs.Door.{by_node}
use Rattle.hp_file.specs.Filling.{entered_at, zeros_at}
use Rattle.hp_file.proofs.Filling.{all_filled, entries_there, lacking_there, range_held, range_view, rising_length, there}
use Rattle.hp_lookup.proofs.Keys.{files_same}
use Rattle.hp_lookup.proofs.Level.{same_level}
use Rattle.hp_lookup.proofs.Views.{files_len, view}
use Rattle.hp_mount_files.proofs.Here.{file_inside}
use Rattle.hp_mount_files.proofs.files.Files.preallocate.Given.{Over}
use Rattle.hp_mount_files.proofs.files.Files.preallocate.Goals as goal
use Rattle.hp_mount_files.proofs.files.Files.preallocate.Goals.{After-take_pages}

-- the range is entered, and there is room, as a caller sees it: x is the file that code read, and y what it left
range_entered : (s : Store) (more : ℕ) (fs : List NumberedFile) → IsHeld s more fs → (k a b : ℕ) → k < length fs → (x y : NumberedFile) → x ≡ slice_index_or fs k x
    → y ≡ record x { cells = edit_range entered a b (at_least b x.cells) } → (old : Files) (room wanted : ℕ) → view s more fs ≡ record old { room = max old.room room } → room ≡ wanted
    → view s more (slice_set fs k y) ≡ entered_at k a b (max old.room wanted) old
range_entered s more fs held k a b l x y read y_is old room wanted is same =
    range_view s more fs held k a b l x y read y_is ∙ ap (λ (v : Files). entered_at k a b v.room v) is ∙ ap (λ n. entered_at k a b (max old.room n) old) same

pub index_mut-at-requires : goal.index_mut-at-requires
index_mut-at-requires g c = grind (arith, common_steps, file_inside)

module _ (g : Over) (c : After-take_pages g)
    (is : c.take_pages.new.self ≡ record c.index_mut-at.result.now { cells = edit_range entered c.args.from c.args.to (at_least c.args.to c.index_mut-at.result.now.cells) }) where
  reserves : c.saturating_add-reserves.result ≡ c.args.share.now.held + c.args.k
  reserves = omega (arith, c.held.ensures, c.saturating_add-reserves.ensures, c.in-Ok.ensures.few)

  within : c.args.file < length c.self.inside.list.files
  within =
      let s = c.self.inside in
      let shown : c.args.file < length (files_shown s.pages.store s.list.files) = subst (λ (v : Files). c.args.file < length v.files) (sym (c.self.view_is ∙ c.in-Ok.ensures.ok)) c.requires.file in
      let same = files_len s.pages.store s.list.files in
      omega (arith, same, shown)

  now : view c.self.inside.pages.store c.self.inside.pages.more (slice_set c.self.inside.list.files c.args.file c.take_pages.new.self)
      ≡ entered_at c.args.file c.args.from c.args.to (max c.args.self.now.room (c.args.share.now.held + c.args.k)) c.args.self.now
  now =
      let s = c.self.inside in
      range_entered s.pages.store s.pages.more s.list.files c.self.invariant.held c.args.file c.args.from c.args.to within c.index_mut-at.result.now c.take_pages.new.self
      c.index_mut-at.ensures.value is c.args.self.now c.saturating_add-reserves.result _ (c.self.view_is ∙ c.in-Ok.ensures.ok) reserves

pub invariant_of-self-in_default-take_pages : goal.invariant_of-self-in_default-take_pages
invariant_of-self-in_default-take_pages g c =
    let s = c.self.inside in
    let x = c.index_mut-at.result.now in
    let y = c.take_pages.new.self in
    let is = c.in_default-take_pages.ensures.ok in
    let shown = subst (λ (v : Files). c.args.file < length v.files) (sym (c.self.view_is ∙ c.in-Ok.ensures.ok)) c.requires.file in
    files_same s.hints s.pages.store s.pages.store s.pages.more s.pages.more s.maps (tally_of s.hints) s.list.files c.args.file x y shown c.index_mut-at.ensures.value (ap label_of is)
    (same_level x.maps y.maps (ap (λ (f : NumberedFile). f.maps) is)) c.self.invariant
    (range_held s.pages.store s.pages.more s.list.files c.self.invariant.held c.args.file c.args.from c.args.to
    (within g (goal.at.invariant_of-self-in_default-take_pages g c).After-take_pages is) x y c.index_mut-at.ensures.value is)

pub put_pages-requires-clause-within : goal.put_pages-requires-clause-within
put_pages-requires-clause-within g c =
    let a = c.args in
    let e = now g (goal.at.put_pages-requires-clause-within g c).After-take_pages c.in_default-take_pages.ensures.ok in
    let room = max a.self.now.room (a.share.now.held + a.k) in
    let wide : a.to ≤ length (file_at (entered_at a.file a.from a.to room a.self.now).files a.file).cells = grind (arith, common_steps, there) in
    subst (λ (v : Files). a.to ≤ length (file_at v.files a.file).cells) (sym e) wide

pub put_pages-requires-clause-entered : goal.put_pages-requires-clause-entered
put_pages-requires-clause-entered g c i low high =
    let a = c.args in
    ap (λ (v : Files). is_entered (cell_at (file_at v.files a.file) i)) (now g (goal.at.put_pages-requires-clause-entered g c).After-take_pages c.in_default-take_pages.ensures.ok)
    ∙ entries_there g.N.Naming.page_bytes a.file a.from a.to a.self.now c.requires.file c.requires.order (max a.self.now.room (a.share.now.held + a.k)) i low high

pub put_pages-requires-clause-count : goal.put_pages-requires-clause-count
put_pages-requires-clause-count g c =
    let a = c.args in
    rising_length a.count c.take_pages.new.batch.pages c.in_default-take_pages.ensures.rising
    ∙ lacking_there g.N.Naming.page_bytes a.file a.from a.to a.self.now c.requires.file c.requires.order (max a.self.now.room (a.share.now.held + a.k)) a.count c.requires.count
    ∙ sym (ap (λ (v : Files). count_by lacks_page (part a.from a.to (file_at v.files a.file).cells))
    (now g (goal.at.put_pages-requires-clause-count g c).After-take_pages c.in_default-take_pages.ensures.ok))

pub put_pages-requires-clause-room : goal.put_pages-requires-clause-room
put_pages-requires-clause-room g c =
    let a = c.args in
    let room = ap (λ (v : Files). v.room) (now g (goal.at.put_pages-requires-clause-room g c).After-take_pages c.in_default-take_pages.ensures.ok) in
    let long = rising_length a.count c.take_pages.new.batch.pages c.in_default-take_pages.ensures.rising in
    let held = c.requires.held in
    omega (arith, room, long, held)

pub returns-clause-filled : goal.returns-clause-filled
returns-clause-filled g c =
    let a = c.args in
    let pages = c.take_pages.new.batch.pages in
    let e = now g (goal.at.returns-clause-filled g c).After-take_pages c.in_default-take_pages.ensures.ok in
    let room = max a.self.now.room (a.share.now.held + a.k) in (
      by_node pages,
      c.in_default-take_pages.ensures.taken,
      c.put_pages.ensures.put ∙ ap (zeros_at g.N.Naming.page_bytes a.file a.from pages) e
          ∙ all_filled g.N.Naming.page_bytes a.file a.from a.to a.self.now c.requires.file c.requires.order room a.count pages c.in_default-take_pages.ensures.rising c.requires.count,
    )
