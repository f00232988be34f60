use Rattle.std.proofs.lemmas.Grind.{common_steps}
use Rattle.std.proofs.Common.{◌≡◌, Bool, cond, ◌+◌, ◌<◌, ◌^◌, ◌≢◌, ℕ, true, false, refl, map, ap, subst, sym, ◌∙◌, arith, slice_set, filter, sum_by}
use Rattle.hp_model.proofs.Words.{Mapping, file_unmapped, is_kept, is_map, is_mapped, without_range}
use Rattle.std.proofs.lemmas.List.Sums.{get_or-le-sum_by}
use Rattle.hp_lookup.proofs.Words.{Files, IsFound, IsLeft, tally_of, file_owed, files_shown, has_key, mapping_at}
use Rattle.hp_lookup.proofs.Leaving.{files_owe}
use Rattle.hp_file.proofs.Counting.{part_held}
use Rattle.hp_mount_files.proofs.Here.{all_held}
use Rattle.hp_mount_files.proofs.Unmapping.{enough_held, few_reserves, some_maps, stays_files, stays_keeps, stays_left, went_files, went_keeps, went_left}
use Rattle.hp_mount_files.proofs.Used.{key_found}
use Rattle.hp_lookup.proofs.Views.{files_len, view}
use Rattle.hp_mount_files.proofs.files.Files.unmap.Given.{Over}
use Rattle.hp_mount_files.proofs.files.Files.unmap.Goals as goal
use Rattle.hp_mount_files.proofs.files.Files.unmap.Goals.{After-unmap-gone}

-- the map that was found, and whether something of it is left
module _ (g : Over) (c : After-unmap-gone g) where
  there : IsFound (files_shown c.self.inside.pages.store c.self.inside.list.files) c.args.task c.args.number c.args.at.file c.args.at.map
  there = subst (λ (v : Files). IsFound v.files c.args.task c.args.number c.args.at.file c.args.at.map) (sym c.self.view_is) c.requires.found

  abbrev z : Mapping ℕ
  z = without_range c.args.a c.args.b (mapping_at c.index_mut-file.result.now c.args.at.map)

  stays : c.unmap-gone.result.maps ≡ 0 → is_mapped z ≡ true
  stays none = by (is_mapped z) (sym c.unmap-gone.ensures.maps ∙ none)
    where
      by : (b : Bool) → cond {A = ℕ} b 0 1 ≡ 0 → b ≡ true
      by true e = refl
      by false e = absurd (omega (arith, e))

  goes : c.unmap-gone.result.maps ≢ 0 → is_mapped z ≡ false
  goes some = by (is_mapped z) c.unmap-gone.ensures.maps
    where
      by : (b : Bool) → c.unmap-gone.result.maps ≡ cond {A = ℕ} b 0 1 → b ≡ false
      by true e = absurd (some e)
      by false e = refl

  known : has_key c.args.task c.args.number c.self.inside.hints ≡ true
  known =
      let s = c.self.inside in
      key_found s.hints s.pages.store s.pages.more s.maps (tally_of s.hints) s.list.files c.self.invariant c.args.task c.args.number c.args.at.file c.args.at.map there

  few : sum_by file_owed c.self.inside.list.files < 2 ^ 64
  few = grind (arith, common_steps, files_owe)

pub unmap-gone-requires-clause-held : goal.unmap-gone-requires-clause-held
unmap-gone-requires-clause-held g c = grind (arith, common_steps, get_or-le-sum_by, part_held, all_held, files_len)

pub invariant_of-self : goal.invariant_of-self
invariant_of-self g c =
    let found = (goal.at.invariant_of-self g c).After-unmap-gone in
    let s = c.self.inside in
    let one = c.unmap-gone in
    let mapped = stays g found c.if-gone-eq0.true in
    stays_keeps s.hints s.hints s.pages.store one.new.pages.store s.pages.more one.new.pages.more s.maps (tally_of s.hints) s.list.files c.self.invariant c.args.task
    c.args.number c.args.a c.args.b c.args.at.file c.args.at.map (there g found) c.index_mut-file.result.now one.new.self
    c.index_mut-file.ensures.value one.ensures.file one.ensures.dropping.dropping one.result.reserves one.ensures.reserves mapped one.ensures.dropping.counted

pub returns-then-gone-eq0-clause-files : goal.returns-then-gone-eq0-clause-files
returns-then-gone-eq0-clause-files g c =
    let found = (goal.at.returns-then-gone-eq0-clause-files g c).After-unmap-gone in
    let s = c.self.inside in
    let one = c.unmap-gone in
    let mapped = stays g found c.if-gone-eq0.true in
    stays_files s.hints s.hints s.pages.store one.new.pages.store s.pages.more one.new.pages.more s.maps (tally_of s.hints) s.list.files c.self.invariant c.args.task
    c.args.number c.args.a c.args.b c.args.at.file c.args.at.map (there g found) c.index_mut-file.result.now one.new.self
    c.index_mut-file.ensures.value one.ensures.file one.ensures.dropping.dropping one.result.reserves one.ensures.reserves mapped one.ensures.dropping.counted
    ∙ ap (λ (v : Files). filter is_kept (map (file_unmapped (is_map c.args.task c.args.number) c.args.a c.args.b) v.files)) c.self.view_is

pub returns-then-gone-eq0-clause-left : goal.returns-then-gone-eq0-clause-left
returns-then-gone-eq0-clause-left g c =
    let found = (goal.at.returns-then-gone-eq0-clause-left g c).After-unmap-gone in
    let s = c.self.inside in
    let one = c.unmap-gone in
    let mapped = stays g found c.if-gone-eq0.true in
    subst (λ v. IsLeft one.result.reserves v (view one.new.pages.store one.new.pages.more (slice_set s.list.files c.args.at.file one.new.self))) c.self.view_is
    (stays_left s.hints s.hints s.pages.store one.new.pages.store s.pages.more one.new.pages.more s.maps (tally_of s.hints) s.list.files c.self.invariant c.args.task
    c.args.number c.args.a c.args.b c.args.at.file c.args.at.map (there g found) c.index_mut-file.result.now one.new.self
    c.index_mut-file.ensures.value one.ensures.file one.ensures.dropping.dropping one.result.reserves one.ensures.reserves mapped one.ensures.dropping.counted)

pub sweep_file-entries-requires-clause-held : goal.sweep_file-entries-requires-clause-held
sweep_file-entries-requires-clause-held g c = grind (arith, common_steps, enough_held)

pub overflow_sub-self : goal.overflow_sub-self
overflow_sub-self g c =
    let found = (goal.at.overflow_sub-self g c).After-unmap-gone in
    let s = c.self.inside in
    let one = c.unmap-gone in
    let mapped = goes g found c.if-gone-eq0.false in
    some_maps s.hints s.hints s.pages.store one.new.pages.store s.pages.more one.new.pages.more s.maps (tally_of s.hints) s.list.files c.self.invariant c.args.task
    c.args.number c.args.a c.args.b c.args.at.file c.args.at.map (there g found) c.index_mut-file.result.now one.new.self
    c.index_mut-file.ensures.value one.ensures.file one.ensures.dropping.dropping one.result.reserves one.ensures.reserves mapped

pub overflow_add-result : goal.overflow_add-result
overflow_add-result g c =
    let found = (goal.at.overflow_add-result g c).After-unmap-gone in
    let s = c.self.inside in
    let one = c.unmap-gone in
    let mapped = goes g found c.if-gone-eq0.false in
    let last = c.sweep_file-entries in
    let few = few_reserves s.hints c.forget_map.new.self s.pages.store one.new.pages.store s.pages.more one.new.pages.more s.maps (tally_of s.hints) s.list.files
    c.self.invariant c.args.task c.args.number c.args.a c.args.b c.args.at.file c.args.at.map (there g found) c.index_mut-file.result.now
    one.new.self c.index_mut-file.ensures.value one.ensures.file one.ensures.dropping.dropping one.result.reserves one.ensures.reserves mapped
    last.new.pages.store last.new.pages.more last.new.files.files last.ensures.files last.ensures.dropping.dropping last.ensures.dropping.counted last.result
    last.ensures.reserves (few g found) in
    omega (arith, few)

pub invariant_of-self-2 : goal.invariant_of-self-2
invariant_of-self-2 g c =
    let found = (goal.at.invariant_of-self-2 g c).After-unmap-gone in
    let s = c.self.inside in
    let one = c.unmap-gone in
    let mapped = goes g found c.if-gone-eq0.false in
    let last = c.sweep_file-entries in
    went_keeps s.hints c.forget_map.new.self s.pages.store one.new.pages.store s.pages.more one.new.pages.more s.maps (tally_of s.hints) s.list.files c.self.invariant
    c.args.task c.args.number c.args.a c.args.b c.args.at.file c.args.at.map (there g found) c.index_mut-file.result.now one.new.self
    c.index_mut-file.ensures.value one.ensures.file one.ensures.dropping.dropping one.result.reserves one.ensures.reserves mapped last.new.pages.store
    last.new.pages.more last.new.files.files last.ensures.files last.ensures.dropping.dropping last.ensures.dropping.counted last.result last.ensures.reserves
    (few g found)
    c.forget_map.ensures (tally_of c.forget_map.new.self)
    (λ q. (let one = c.forget_map.ensures.tally (known g found) q in omega (arith, one)))

pub returns-clause-files : goal.returns-clause-files
returns-clause-files g c =
    let found = (goal.at.returns-clause-files g c).After-unmap-gone in
    let s = c.self.inside in
    let one = c.unmap-gone in
    let mapped = goes g found c.if-gone-eq0.false in
    let last = c.sweep_file-entries in
    went_files s.hints c.forget_map.new.self s.pages.store one.new.pages.store s.pages.more one.new.pages.more s.maps (tally_of s.hints) s.list.files c.self.invariant
    c.args.task c.args.number c.args.a c.args.b c.args.at.file c.args.at.map (there g found) c.index_mut-file.result.now one.new.self
    c.index_mut-file.ensures.value one.ensures.file one.ensures.dropping.dropping one.result.reserves one.ensures.reserves mapped last.new.pages.store
    last.new.pages.more last.new.files.files last.ensures.files last.ensures.dropping.dropping last.ensures.dropping.counted last.result last.ensures.reserves
    (few g found)
    ∙ ap (λ (v : Files). filter is_kept (map (file_unmapped (is_map c.args.task c.args.number) c.args.a c.args.b) v.files)) c.self.view_is

pub returns-clause-left : goal.returns-clause-left
returns-clause-left g c =
    let found = (goal.at.returns-clause-left g c).After-unmap-gone in
    let s = c.self.inside in
    let one = c.unmap-gone in
    let mapped = goes g found c.if-gone-eq0.false in
    let last = c.sweep_file-entries in
    subst (λ v. IsLeft (one.result.reserves + last.result) v (view last.new.pages.store last.new.pages.more last.new.files.files)) c.self.view_is
    (went_left s.hints c.forget_map.new.self s.pages.store one.new.pages.store s.pages.more one.new.pages.more s.maps (tally_of s.hints) s.list.files c.self.invariant
    c.args.task c.args.number c.args.a c.args.b c.args.at.file c.args.at.map (there g found) c.index_mut-file.result.now one.new.self
    c.index_mut-file.ensures.value one.ensures.file one.ensures.dropping.dropping one.result.reserves one.ensures.reserves mapped last.new.pages.store
    last.new.pages.more last.new.files.files last.ensures.files last.ensures.dropping.dropping last.ensures.dropping.counted last.result last.ensures.reserves
    (few g found))
