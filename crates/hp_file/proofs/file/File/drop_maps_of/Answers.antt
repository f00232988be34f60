use Rattle.std.proofs.Common.{◌≡◌, ℕ, length, not, rules, sym, ◌∙◌, arith, vec_len}
use Rattle.std.proofs.lemmas.Fn.{filter_same}
use Rattle.hp_model.proofs.Words.{Mapping, is_of}
use Rattle.hp_file.proofs.Counting.{dropped_then}
use Rattle.hp_file.proofs.FileLeaves.{gone_is, gone_reserves, left_dropping, left_reserves, left_used}
use Rattle.hp_file.proofs.file.File.drop_maps_of.Goals as goal

pub returns-then-is_used-clause-file : goal.returns-then-is_used-clause-file
returns-then-is_used-clause-file g c =
    let i = c.self.inside in
    let one = c.end_maps_of-reserves in
    let few : length i.maps.items ≡ vec_len i.maps = search rules in
    let kept = filter_same _ (λ (m : Mapping ℕ). not (is_of c.args.task m)) _ (λ x b f' k. search rules) _ _ c.retain.ensures.filtered in
    left_used c.args.task c.args.self.now i.name i.inode i.maps.items c.self.view_is _ few c.deref_mut.result.now one.new.maps c.retain.new.self.items
    c.deref_mut.ensures.value one.ensures.maps kept (sym c.is_used.ensures ∙ c.if-is_used.true)

pub returns-then-is_used-clause-dropping : goal.returns-then-is_used-clause-dropping
returns-then-is_used-clause-dropping g c =
    let i = c.self.inside in
    let one = c.end_maps_of-reserves in
    let few : length i.maps.items ≡ vec_len i.maps = search rules in
    let kept = filter_same _ (λ (m : Mapping ℕ). not (is_of c.args.task m)) _ (λ x b f' k. search rules) _ _ c.retain.ensures.filtered in
    left_dropping c.args.task c.args.self.now i.name i.inode i.maps.items c.self.view_is _ few c.deref_mut.result.now one.new.maps
    c.retain.new.self.items c.deref_mut.ensures.value one.ensures.maps kept one.ensures.dropping

pub returns-then-is_used-clause-reserves : goal.returns-then-is_used-clause-reserves
returns-then-is_used-clause-reserves g c =
    let i = c.self.inside in
    let one = c.end_maps_of-reserves in
    let few : length i.maps.items ≡ vec_len i.maps = search rules in
    let kept = filter_same _ (λ (m : Mapping ℕ). not (is_of c.args.task m)) _ (λ x b f' k. search rules) _ _ c.retain.ensures.filtered in
    left_reserves c.args.task c.args.self.now i.name i.inode i.maps.items c.self.view_is _ few c.deref_mut.result.now one.new.maps
    c.retain.new.self.items c.deref_mut.ensures.value one.ensures.maps kept one.result one.ensures.reserves

pub returns-clause-file : goal.returns-clause-file
returns-clause-file g c =
    let i = c.self.inside in
    let one = c.end_maps_of-reserves in
    let few : length i.maps.items ≡ vec_len i.maps = search rules in
    let kept = filter_same _ (λ (m : Mapping ℕ). not (is_of c.args.task m)) _ (λ x b f' k. search rules) _ _ c.retain.ensures.filtered in
    gone_is c.args.task c.args.self.now i.name i.inode i.maps.items c.self.view_is _ few c.deref_mut.result.now one.new.maps c.retain.new.self.items
    c.deref_mut.ensures.value one.ensures.maps kept (sym c.is_used.ensures ∙ c.if-is_used.false) c.truncate-entries.new.self
    c.truncate-entries.ensures.file

pub returns-clause-reserves : goal.returns-clause-reserves
returns-clause-reserves g c =
    let i = c.self.inside in
    let one = c.end_maps_of-reserves in
    let few : length i.maps.items ≡ vec_len i.maps = search rules in
    let kept = filter_same _ (λ (m : Mapping ℕ). not (is_of c.args.task m)) _ (λ x b f' k. search rules) _ _ c.retain.ensures.filtered in
    gone_reserves c.args.task c.args.self.now i.name i.inode i.maps.items c.self.view_is _ few c.deref_mut.result.now one.new.maps
    c.retain.new.self.items c.deref_mut.ensures.value one.ensures.maps kept (sym c.is_used.ensures ∙ c.if-is_used.false)
    c.truncate-entries.new.self c.truncate-entries.ensures.file one.result c.truncate-entries.result one.ensures.reserves
    c.truncate-entries.ensures.entries

pub returns-clause-dropping : goal.returns-clause-dropping
returns-clause-dropping g c =
    let i = c.self.inside in
    let one = c.end_maps_of-reserves in
    let few : length i.maps.items ≡ vec_len i.maps = search rules in
    let kept = filter_same _ (λ (m : Mapping ℕ). not (is_of c.args.task m)) _ (λ x b f' k. search rules) _ _ c.retain.ensures.filtered in
    let left = left_dropping c.args.task c.args.self.now i.name i.inode i.maps.items c.self.view_is _ few c.deref_mut.result.now one.new.maps
    c.retain.new.self.items c.deref_mut.ensures.value one.ensures.maps kept one.ensures.dropping in
    dropped_then left c.truncate-entries.ensures.dropping (λ n. omega arith)
