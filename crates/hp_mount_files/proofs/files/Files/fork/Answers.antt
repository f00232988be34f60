use Rattle.std.proofs.lemmas.Grind.{common_steps}
use Rattle.std.proofs.Common.{refl, cond, List, ℕ, [], ◌+◌, ◌-◌, ap, eq-eqb, subst, sym, ◌∙◌, arith}
use Rattle.hp_lookup.proofs.Words.{IsFiles, noted_numbers, tally_of}
use Rattle.hp_mount_files.proofs.Exiting.{maps_in}
use Rattle.hp_mount_files.proofs.Forks.{all_used, counts_copied, files_as, forked_few, forked_keeps, forked_left, forked_shows, join_few, join_held, join_room, keys_copied, set_out}
use Rattle.hp_mount_files.proofs.Here.{all_held}
use Rattle.hp_file.specs.ForkLists.{spread}
use Rattle.hp_lookup.proofs.Keys.{files_same_noted}
use Rattle.hp_lookup.proofs.Leaving.{files_owe}
use Rattle.hp_lookup.proofs.Tallies.{maps_labelled}
use Rattle.hp_mount_files.proofs.files.Files.fork.Goals as goal

pub children-requires : goal.children-requires
children-requires g c = grind (arith, common_steps, maps_labelled)

pub drop_some_maps_of-gone-requires-clause-count : goal.drop_some_maps_of-gone-requires-clause-count
drop_some_maps_of-gone-requires-clause-count g c =
    c.count.ensures ∙ c.make_room.ensures.same.tally c.args.child ∙ c.self.invariant.keyed.tallied c.args.child

pub drop_some_maps_of-gone-requires-clause-listed : goal.drop_some_maps_of-gone-requires-clause-listed
drop_some_maps_of-gone-requires-clause-listed g c =
    c.self.invariant.keyed.kept

pub drop_some_maps_of-gone-requires-clause-held : goal.drop_some_maps_of-gone-requires-clause-held
drop_some_maps_of-gone-requires-clause-held g c = grind (arith, common_steps, set_out, all_held)

pub drop_some_maps_of-gone-requires-clause-few : goal.drop_some_maps_of-gone-requires-clause-few
drop_some_maps_of-gone-requires-clause-few g c = grind (arith, common_steps, files_owe)

pub drop_some_maps_of-gone-requires-clause-few_maps : goal.drop_some_maps_of-gone-requires-clause-few_maps
drop_some_maps_of-gone-requires-clause-few_maps g c = grind (arith, common_steps, maps_in)

pub join_all-requires-clause-fit : goal.join_all-requires-clause-fit
join_all-requires-clause-fit g c =
    let set = set_out c.self.invariant c.self.view_is c.make_room.ensures.same c.in_ok-lists.ensures.ready (ap spread c.deref-2.ensures.value) c.room_for-room.ensures
    c.in_ok-make_room-2.ensures.few c.in_ok-make_room-2.ensures.ok c.in_ok-make_room-2.ensures.pages c.make_room-2.ensures.same in
    join_room set c.requires.apart c.drop_some_maps_of-gone.ensures c.forget_maps_of.ensures _ c.in_ok-lists.ensures.fit

pub join_all-requires-clause-held : goal.join_all-requires-clause-held
join_all-requires-clause-held g c =
    let set = set_out c.self.invariant c.self.view_is c.make_room.ensures.same c.in_ok-lists.ensures.ready (ap spread c.deref-2.ensures.value) c.room_for-room.ensures
    c.in_ok-make_room-2.ensures.few c.in_ok-make_room-2.ensures.ok c.in_ok-make_room-2.ensures.pages c.make_room-2.ensures.same in
    join_held set c.requires.apart c.drop_some_maps_of-gone.ensures c.forget_maps_of.ensures

pub join_all-requires-clause-few : goal.join_all-requires-clause-few
join_all-requires-clause-few g c = grind (arith, common_steps, join_few, set_out)

pub retain_some_used-requires : goal.retain_some_used-requires
retain_some_used-requires g c =
    let set = set_out c.self.invariant c.self.view_is c.make_room.ensures.same c.in_ok-lists.ensures.ready (ap spread c.deref-2.ensures.value) c.room_for-room.ensures
    c.in_ok-make_room-2.ensures.few c.in_ok-make_room-2.ensures.ok c.in_ok-make_room-2.ensures.pages c.make_room-2.ensures.same in
    all_used set c.requires.apart c.drop_some_maps_of-gone.ensures c.forget_maps_of.ensures c.join_all.ensures.joined

pub overflow_sub-self : goal.overflow_sub-self
overflow_sub-self g c = grind (arith, common_steps, maps_in)

pub overflow_add-self : goal.overflow_add-self
overflow_add-self g c =
    let set = set_out c.self.invariant c.self.view_is c.make_room.ensures.same c.in_ok-lists.ensures.ready (ap spread c.deref-2.ensures.value) c.room_for-room.ensures
    c.in_ok-make_room-2.ensures.few c.in_ok-make_room-2.ensures.ok c.in_ok-make_room-2.ensures.pages c.make_room-2.ensures.same in
    let all = forked_few set c.requires.apart c.drop_some_maps_of-gone.ensures c.forget_maps_of.ensures c.join_all.ensures.joined c.retain_some_used.ensures in
    omega (arith, all, c.count-count.ensures, c.requires.maps)

pub invariant_of-self-2 : goal.invariant_of-self-2
invariant_of-self-2 g c =
    let set = set_out c.self.invariant c.self.view_is c.make_room.ensures.same c.in_ok-lists.ensures.ready (ap spread c.deref-2.ensures.value) c.room_for-room.ensures
    c.in_ok-make_room-2.ensures.few c.in_ok-make_room-2.ensures.ok c.in_ok-make_room-2.ensures.pages c.make_room-2.ensures.same in
    let total = ap (λ n. c.self.inside.maps - c.drop_some_maps_of-gone.result.maps + n) c.count-count.ensures in
    files_as _ _ _ _ _ _ _ _ refl total
    (forked_keeps set c.requires.apart c.drop_some_maps_of-gone.ensures c.forget_maps_of.ensures c.join_all.ensures.joined c.retain_some_used.ensures _
    (counts_copied c.args.parent c.args.child c.make_room.ensures.same c.forget_maps_of.ensures c.put.ensures c.in_ok-theirs.ensures)
    c.put.ensures (keys_copied c.args.parent c.make_room.ensures.same c.in_ok-theirs.ensures))

pub returns-clause-files : goal.returns-clause-files
returns-clause-files g c =
    let set = set_out c.self.invariant c.self.view_is c.make_room.ensures.same c.in_ok-lists.ensures.ready (ap spread c.deref-2.ensures.value) c.room_for-room.ensures
    c.in_ok-make_room-2.ensures.few c.in_ok-make_room-2.ensures.ok c.in_ok-make_room-2.ensures.pages c.make_room-2.ensures.same in
    forked_shows set c.requires.apart c.drop_some_maps_of-gone.ensures c.forget_maps_of.ensures c.join_all.ensures.joined c.retain_some_used.ensures

pub returns-clause-left : goal.returns-clause-left
returns-clause-left g c =
    let set = set_out c.self.invariant c.self.view_is c.make_room.ensures.same c.in_ok-lists.ensures.ready (ap spread c.deref-2.ensures.value) c.room_for-room.ensures
    c.in_ok-make_room-2.ensures.few c.in_ok-make_room-2.ensures.ok c.in_ok-make_room-2.ensures.pages c.make_room-2.ensures.same in
    forked_left set c.requires.apart c.drop_some_maps_of-gone.ensures c.forget_maps_of.ensures c.join_all.ensures.joined c.retain_some_used.ensures

pub put-requires-clause-none : goal.put-requires-clause-none
put-requires-clause-none g c =
    c.forget_maps_of.ensures.numbers c.args.child ∙ ap (λ b. cond {A = List ℕ} b [] (noted_numbers c.args.child c.make_room.new.self)) (eq-eqb c.args.child c.args.child refl)

pub put-requires-clause-room : goal.put-requires-clause-room
put-requires-clause-room g c = (let room = c.forget_maps_of.ensures.room in let some = c.in_ok-make_room.ensures.ok in omega (arith, room, some))

pub invariant_of-self-in_err-make_room : goal.invariant_of-self-in_err-make_room
invariant_of-self-in_err-make_room g c =
    let s = c.self.inside in
    files_same_noted s.hints c.make_room.new.self s.pages.store s.pages.more s.maps s.list.files c.make_room.ensures.same c.self.invariant

pub invariant_of-self-in_err-make_room-2 : goal.invariant_of-self-in_err-make_room-2
invariant_of-self-in_err-make_room-2 g c =
    let s = c.self.inside in
    subst (λ u. IsFiles c.make_room.new.self u s.pages.more s.maps (tally_of c.make_room.new.self) s.list.files) (sym c.in_err-make_room-2.ensures.err)
    (files_same_noted s.hints c.make_room.new.self s.pages.store s.pages.more s.maps s.list.files c.make_room.ensures.same c.self.invariant)
