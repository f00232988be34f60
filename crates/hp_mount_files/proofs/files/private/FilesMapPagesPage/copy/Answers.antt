use Rattle.std.proofs.lemmas.Grind.{common_steps}
use Rattle.std.proofs.Common.{arith, ◌≡◌, ◌==◌, true, false, ap, subst, sym, ◌∙◌}
use Rattle.std.proofs.lemmas.Bool.{eq-eqb}
use Rattle.std.proofs.lemmas.Bool.Decides.{nat_tests}
use Rattle.hp_model.proofs.Words.{place_at}
use Rattle.hp_store.specs.Store.{holders_of, page_at}
use Rattle.hp_lookup.specs.declared.copy_state.CopyState.TheVariants as state
use Rattle.hp_lookup.proofs.Words.{Files, copy_shown, file_at, map_among}
use Rattle.hp_file.specs.States.{AreAgreed, IsCopyState}
use Rattle.hp_mount_files.proofs.CopyHeld.{agreed_there, copy_there, few_there, held_once}
use Rattle.hp_mount_files.proofs.Here.{file_here, map_here, file_inside, map_inside}
use Rattle.hp_mount_files.proofs.files.private.FilesMapPagesPage.copy.Goals as goal

pub index-requires : goal.index-requires
index-requires g c = grind (arith, common_steps, file_inside)

pub map-map-requires : goal.map-map-requires
map-map-requires g c = grind (arith, common_steps, map_inside)

pub returns-in_default-clause-agreed : goal.returns-in_default-clause-agreed
returns-in_default-clause-agreed g c =
    let s = c.self.inside in
    subst (λ (v : Files). AreAgreed (file_at v.files c.args.at.file)) c.self.view_is
    (agreed_there s.pages.store s.pages.more s.list.files c.self.invariant.held c.args.at.file c.args.at.map c.args.index
    (file_here c.self.view_is c.args.at.file c.requires.file) (map_here c.self.view_is c.args.at.file c.args.at.map c.requires.map)
    c.index.result.now c.index.ensures)

pub returns-then-holders-eq1-clause-agreed : goal.returns-then-holders-eq1-clause-agreed
returns-then-holders-eq1-clause-agreed g c =
    let s = c.self.inside in
    subst (λ (v : Files). AreAgreed (file_at v.files c.args.at.file)) c.self.view_is
    (agreed_there s.pages.store s.pages.more s.list.files c.self.invariant.held c.args.at.file c.args.at.map c.args.index
    (file_here c.self.view_is c.args.at.file c.requires.file) (map_here c.self.view_is c.args.at.file c.args.at.map c.requires.map)
    c.index.result.now c.index.ensures)

pub returns-else-holders-eq1-clause-agreed : goal.returns-else-holders-eq1-clause-agreed
returns-else-holders-eq1-clause-agreed g c =
    let s = c.self.inside in
    subst (λ (v : Files). AreAgreed (file_at v.files c.args.at.file)) c.self.view_is
    (agreed_there s.pages.store s.pages.more s.list.files c.self.invariant.held c.args.at.file c.args.at.map c.args.index
    (file_here c.self.view_is c.args.at.file c.requires.file) (map_here c.self.view_is c.args.at.file c.args.at.map c.requires.map)
    c.index.result.now c.index.ensures)

pub returns-then-holders-eq1-clause-state : goal.returns-then-holders-eq1-clause-state
returns-then-holders-eq1-clause-state g c =
    let s = c.self.inside in
    let n = c.in-Some.number in
    let there = sym c.copy_at.ensures ∙ c.in-Some.is in
    let once : (holders_of (page_at s.pages.store n) == 1) ≡ true = ap (λ x. x == 1) (sym c.holders.ensures.holders) ∙ eq-eqb c.holders.result 1 c.if-holders-eq1.true in
    subst (λ (v : Files). IsCopyState state.HeldOnce (file_at v.files c.args.at.file) (place_at (map_among v.files c.args.at.file c.args.at.map) c.args.index)) c.self.view_is (
      copy_shown s.pages.store n,
      copy_there s.pages.store s.pages.more s.list.files c.self.invariant.held c.args.at.file c.args.at.map c.args.index
          (file_here c.self.view_is c.args.at.file c.requires.file) (map_here c.self.view_is c.args.at.file c.args.at.map c.requires.map)
          c.index.result.now c.index.ensures c.map-map.result.now c.map-map.ensures n there,
      held_once s.pages.store s.pages.more s.list.files c.self.invariant.held
          c.args.at.file c.args.at.map c.args.index (file_here c.self.view_is c.args.at.file c.requires.file)
          (map_here c.self.view_is c.args.at.file c.args.at.map c.requires.map) c.index.result.now c.index.ensures c.map-map.result.now
          c.map-map.ensures n there true once,
    )

pub returns-else-holders-eq1-clause-state : goal.returns-else-holders-eq1-clause-state
returns-else-holders-eq1-clause-state g c =
    let s = c.self.inside in
    let n = c.in-Some.number in
    let there = sym c.copy_at.ensures ∙ c.in-Some.is in
    let once : (holders_of (page_at s.pages.store n) == 1) ≡ false = ap (λ x. x == 1) (sym c.holders.ensures.holders) ∙ grind (arith, nat_tests, c.if-holders-eq1.false) in
    subst (λ (v : Files). IsCopyState state.HeldBySeveral (file_at v.files c.args.at.file) (place_at (map_among v.files c.args.at.file c.args.at.map) c.args.index)) c.self.view_is (
      copy_shown s.pages.store n,
      copy_there s.pages.store s.pages.more s.list.files c.self.invariant.held c.args.at.file c.args.at.map c.args.index
          (file_here c.self.view_is c.args.at.file c.requires.file) (map_here c.self.view_is c.args.at.file c.args.at.map c.requires.map)
          c.index.result.now c.index.ensures c.map-map.result.now c.map-map.ensures n there,
      held_once s.pages.store s.pages.more s.list.files c.self.invariant.held
          c.args.at.file c.args.at.map c.args.index (file_here c.self.view_is c.args.at.file c.requires.file)
          (map_here c.self.view_is c.args.at.file c.args.at.map c.requires.map) c.index.result.now c.index.ensures c.map-map.result.now
          c.map-map.ensures n there false once,
    )

pub returns-else-holders-eq1-clause-few : goal.returns-else-holders-eq1-clause-few
returns-else-holders-eq1-clause-few g c several = grind (arith, common_steps, few_there, file_here, map_here)
