use Rattle.std.proofs.Common.{ap, refl, sym, ◌∙◌, sum_by}
use Rattle.hp_model.proofs.Words.{file_pages, file_pages_at}
use Rattle.hp_lookup.proofs.Words.{Files, in_files}
use Rattle.hp_file.proofs.Drops.{gone_nodes, gone_pages}
use Rattle.hp_lookup.proofs.Stored.{stored_at, stored_pages}
use Rattle.hp_mount_files.proofs.Here.{all_held}
use Rattle.hp_mount_files.proofs.files.Files.close.Goals as goal

pub close-requires : goal.close-requires
close-requires g c = (let s = c.self.inside in all_held s.pages.store s.pages.more s.list.files c.self.invariant.held)

pub returns-clause-pages : goal.returns-clause-pages
returns-clause-pages g c =
    let s = c.self.inside in
    gone_pages (λ n. in_files n s.list.files) (λ n. 0) s.pages.store c.close.new.pages.store c.close.ensures.dropping (λ n. refl)
    c.self.invariant.held.held (ap (λ (v : Files). v.going) c.self.view_is ∙ c.requires)
    ∙ sym (stored_pages s.pages.store s.pages.more s.list.files c.self.invariant.held) ∙ ap (λ (v : Files). sum_by file_pages v.files) c.self.view_is

pub returns-clause-nodes : goal.returns-clause-nodes
returns-clause-nodes g c n =
    let s = c.self.inside in
    gone_nodes (λ n. in_files n s.list.files) (λ n. 0) s.pages.store c.close.new.pages.store c.close.ensures.dropping (λ n. refl)
    c.self.invariant.held.held (ap (λ (v : Files). v.going) c.self.view_is ∙ c.requires) n
    ∙ sym (stored_at s.pages.store s.pages.more s.list.files c.self.invariant.held n) ∙ ap (λ (v : Files). sum_by (file_pages_at n) v.files) c.self.view_is
