use Rattle.std.proofs.lemmas.Grind.{common_steps}
use Rattle.std.proofs.Common.{◌≡◌, ℕ, [], ◌+◌, ◌-◌, ap, arith, rules, refl, subst, sym, ◌∙◌, sum_by}
use Rattle.std.proofs.lemmas.List.{nil_from_length}
use Rattle.hp_lookup.proofs.Words.{in_list, in_lists, joined, list_copies}
use Rattle.hp_file.specs.ForkLists.{AreFit, spread}
use Rattle.hp_file.proofs.Joining.{last_is, last_rest, last_spread, last_sum, none_joined}
use Rattle.hp_file.proofs.Sharing.{share_as, share_then}
use Rattle.hp_file.proofs.fork_lists.join_all.Goals as goal

pub loop-file-init : goal.loop-file-init
loop-file-init g c =
    record {
      fit = c.requires.fit;
      files = search rules;
      sharing = search rules;
      less = search rules;
      counted = search rules;
      more = search rules;
    }

pub join_at-requires-clause-within : goal.join_at-requires-clause-within
join_at-requires-clause-within g c =
    (last_is c.loop-file.files.files c.pop.new.self.items c.in-Some.field-0 (subst (AreFit 0 c.loop-file.files.files) c.in-Some.ensures.items c.loop-file.invariant.fit)).within

pub join_at-requires-clause-room : goal.join_at-requires-clause-room
join_at-requires-clause-room g c =
    (last_is c.loop-file.files.files c.pop.new.self.items c.in-Some.field-0 (subst (AreFit 0 c.loop-file.files.files) c.in-Some.ensures.items c.loop-file.invariant.fit)).room

pub join_at-requires-clause-held : goal.join_at-requires-clause-held
join_at-requires-clause-held g c =
    let was = c.loop-file in
    let fit = subst (AreFit 0 was.files.files) c.in-Some.ensures.items was.invariant.fit in
    let each : (n : ℕ) → in_lists n (spread was.lists.items) ≡ in_lists n (spread c.pop.new.self.items) + in_list n c.in-Some.field-0.list.items
    = λ n. ap (λ xs. in_lists n (spread xs)) c.in-Some.ensures.items ∙ last_sum was.files.files c.pop.new.self.items c.in-Some.field-0 fit (in_list n) refl in
    record {
      held = λ n. (let here = each n in let less = was.invariant.less n in let all = c.requires.held.held n in let more = was.invariant.sharing.held n in
          omega (arith, here, less, all, more));
      some = was.invariant.sharing.some;
      counted = was.invariant.counted;
    }

pub join_at-requires-clause-few : goal.join_at-requires-clause-few
join_at-requires-clause-few g c =
    let was = c.loop-file in
    let fit = subst (AreFit 0 was.files.files) c.in-Some.ensures.items was.invariant.fit in
    let copies = ap (λ xs. sum_by list_copies (spread xs)) c.in-Some.ensures.items ∙ last_sum was.files.files c.pop.new.self.items c.in-Some.field-0 fit list_copies refl in
    let more = was.invariant.more in
    let few = c.requires.few in
    omega (arith, copies, more, few)

pub loop-file-preserved : goal.loop-file-preserved
loop-file-preserved g c =
    let was = c.loop-file in
    let fs = was.files.files in
    let xs = c.pop.new.self.items in
    let x = c.in-Some.field-0 in
    let split = c.in-Some.ensures.items in
    let fit = subst (AreFit 0 fs) split was.invariant.fit in
    let each : (n : ℕ) → in_lists n (spread was.lists.items) ≡ in_lists n (spread xs) + in_list n x.list.items
    = λ n. ap (λ ys. in_lists n (spread ys)) split ∙ last_sum fs xs x fit (in_list n) refl in
    let copies = ap (λ ys. sum_by list_copies (spread ys)) split ∙ last_sum fs xs x fit list_copies refl in
    let more = was.invariant.more in
    let files_are = c.join_at.ensures.files in
    record {
      fit = subst (λ gs. AreFit 0 gs xs) (sym files_are) (last_rest fs xs x fit);
      files = ap (λ gs. joined gs (spread xs)) files_are ∙ last_spread fs xs x fit ∙ ap (λ ys. joined fs (spread ys)) (sym split) ∙ was.invariant.files;
      sharing = share_then (λ n. in_lists n (spread c.args.lists.items) - in_lists n (spread was.lists.items)) (λ n. in_list n x.list.items)
          (λ n. in_lists n (spread c.args.lists.items) - in_lists n (spread xs)) c.args.pages.now.store was.pages.store c.join_at.new.pages.store was.invariant.sharing
          c.join_at.ensures.sharing.sharing
          (λ n. (let here = each n in let less = was.invariant.less n in omega (arith, here, less)));
      less = λ n. (let here = each n in let less = was.invariant.less n in omega (arith, here, less));
      counted = c.join_at.ensures.sharing.counted;
      more = omega (arith, copies, more, c.join_at.ensures.sharing.more);
    }

pub returns : goal.returns
returns g c =
    let none : c.loop-file.lists.items ≡ [] = grind (arith, common_steps, nil_from_length) in
    let was = c.loop-file.invariant in
    let lists = ap spread none in
    let more = was.more in
    let bare = ap (sum_by list_copies) lists in
    record {
      joined = record {
        files_are = sym (none_joined c.loop-file.files.files) ∙ ap (joined c.loop-file.files.files) (sym lists) ∙ was.files;
        sharing = share_as (λ n. in_lists n (spread c.args.lists.items) - in_lists n (spread c.loop-file.lists.items)) (λ n. in_lists n (spread c.args.lists.items))
            c.args.pages.now.store c.loop-file.pages.store was.sharing (λ n. (let gone = ap (in_lists n) lists in omega (arith, gone)));
        counted = was.counted;
        more_are = omega (arith, more, bare);
      };
    }
