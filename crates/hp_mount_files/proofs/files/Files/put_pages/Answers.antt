use Rattle.std.proofs.lemmas.Grind.{common_steps}
use Rattle.std.proofs.Common.{None, ◌≡◌, ℕ, ◌+◌, ◌-◌, ◌<◌, ◌≤◌, List, true, length, refl, ap, sym, subst, ◌∙◌, arith}
use Rattle.std.proofs.lemmas.List.{set-get_or}
use Rattle.hp_laws.proofs.Variants.{Cell}
use Rattle.hp_model.proofs.Words.{Page, cell_in, has_page, new_file, zero_page}
use Rattle.hp_lookup.proofs.Words.{Files, file_at}
use Rattle.hp_file.proofs.Zeros.{IsPutting, cells_put, files_put, putting_puts, putting_skips, putting_some, putting_stays}
use Rattle.hp_mount_files.proofs.files.Files.put_pages.Goals as goal

-- past indices that have pages
putting_to : (size a b i e : ℕ) (old now : List (Cell Page)) (all left : List Page) → IsPutting size a b i old now all left → a ≤ i → i ≤ e → e ≤ b
    → ((j : ℕ) → i ≤ j → j < e → has_page (cell_in now j) ≡ true) → IsPutting size a b e old now all left
putting_to size a b i e old now all left is low order high paged = subst (λ m. IsPutting size a b m old now all left) {x = i + (e - i)} {y = e} (omega (arith, order))
    (putting_skips size a b i old now all left (e - i) is low (omega (arith, order, high)) (λ j from below. paged j from (omega (arith, below, order))))

pub loop-index-init : goal.loop-index-init
loop-index-init g c =
    let size = g.N.Naming.page_bytes in
    let cells = (file_at c.args.self.now.files c.args.file).cells in
    let all = c.args.batch.now.pages in
    let past = c.past_paged-index.ensures in
    let begun : IsPutting size c.args.from c.args.to c.args.from cells cells all all = record {
      passed = λ j from upto. absurd (omega (arith, from, upto));
      ahead = c.requires.entered;
      long = c.requires.within;
      filled = refl;
      count = c.requires.count;
    } in
    record {
      putting = putting_to size c.args.from c.args.to c.args.from c.past_paged-index.result cells cells all all begun (omega arith) past.from past.to past.paged;
      files = sym (set-get_or c.args.self.now.files c.args.file (new_file None));
      going = refl;
      room = refl;
      low = past.from;
      high = past.to;
      fits = c.requires.room;
    }

pub put_next-requires-clause-some : goal.put_next-requires-clause-some
put_next-requires-clause-some g c = grind (arith, common_steps, putting_some)

pub put_next-requires-clause-room : goal.put_next-requires-clause-room
put_next-requires-clause-room g c = grind (arith, common_steps, putting_some)

pub loop-index-preserved-in-Entered : goal.loop-index-preserved-in-Entered
loop-index-preserved-in-Entered g c =
    let was = c.loop-index.invariant in
    let size = g.N.Naming.page_bytes in
    let a = c.args.from in
    let b = c.args.to in
    let i = c.loop-index.index in
    let k = c.args.file in
    let init = c.args.self.now in
    let now = c.loop-index.self in
    let new = c.put_next.new.self in
    let first = (file_at init.files k).cells in
    let all = c.args.batch.now.pages in
    let left = c.put_next.new.batch.pages in
    let p : Page = c.put_next.ensures.0 in
    let taken = c.put_next.ensures.1 in
    let q : Page = zero_page size p.node in
    let new_is = c.put_next.ensures.2 in
    let fewer = ap length taken in
    let spent = ap (λ (v : Files). v.room) new_is in
    record {
      putting = subst (λ cs. IsPutting size a b (i + 1) first cs all left) (sym (cells_put k i q init now new c.requires.file new_is was.files))
          (putting_puts size a b i first (file_at now.files k).cells all c.loop-index.batch.pages was.putting was.low c.loop-index-test.true c.in-Entered.ensures p q left taken refl);
      low = omega (arith, was.low);
      high = omega (arith, c.loop-index-test.true);
      files = files_put k i q init now new c.requires.file new_is was.files;
      going = ap (λ (v : Files). v.going) new_is ∙ was.going;
      room = omega (arith, was.room, was.fits, fewer, spent);
      fits = was.fits;
    }

pub loop-index-preserved : goal.loop-index-preserved
loop-index-preserved g c =
    let was = c.loop-index.invariant in
    let size = g.N.Naming.page_bytes in
    let a = c.args.from in
    let b = c.args.to in
    let i = c.loop-index.index in
    let now = (file_at c.loop-index.self.files c.args.file).cells in
    let first = (file_at c.args.self.now.files c.args.file).cells in
    let all = c.args.batch.now.pages in
    let left = c.loop-index.batch.pages in
    let next = c.past_paged-index-in_default.result in
    let past = c.past_paged-index-in_default.ensures in
    let stays = putting_stays size a b i first now all left was.putting was.low c.loop-index-test.true c.cell.result c.in_default.not-Entered c.cell.ensures in
    record {
      putting = putting_to size a b (i + 1) next first now all left stays (omega (arith, was.low)) past.from past.to past.paged;
      low = omega (arith, was.low, past.from);
      high = past.to;
      files = was.files;
      going = was.going;
      room = was.room;
      fits = was.fits;
    }
