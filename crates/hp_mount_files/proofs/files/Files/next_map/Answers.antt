use Rattle.std.proofs.Common.{◌≡◌, subst}
use Rattle.hp_model.proofs.Words.{numbers_of}
use Rattle.hp_lookup.proofs.Words.{Files, all_maps, files_shown, next_of, tally_of}
use Rattle.hp_mount_files.proofs.Used.{key_free, key_used, least_is}
use Rattle.hp_mount_files.proofs.files.Files.next_map.Goals as goal

pub returns-clause-number : goal.returns-clause-number
returns-clause-number g c =
    let s = c.self.inside in
    let task = c.args.task in
    subst (λ (v : Files). c.least_unused.result ≡ next_of task v.files) c.self.view_is
    (least_is (numbers_of task (all_maps (files_shown s.pages.store s.list.files))) c.least_unused.result c.least_unused.ensures.one
    (λ k low high. key_used s.hints s.pages.store s.pages.more s.maps (tally_of s.hints) s.list.files c.self.invariant task k (c.least_unused.ensures.used k low high))
    (key_free s.hints s.pages.store s.pages.more s.maps (tally_of s.hints) s.list.files c.self.invariant task c.least_unused.result c.least_unused.ensures.free))
