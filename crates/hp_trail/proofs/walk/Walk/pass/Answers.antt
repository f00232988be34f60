use Rattle.std.proofs.Common.{◌<◌, ℕ, length, refl, sym, ap, ◌∙◌, subst}
use Rattle.hp_trail.specs.Walk.{Cursors, Walking, cursor, cursor_at, lists, next_section, part_length, past, session}
use Rattle.hp_trail.proofs.Fitting.{cursor_fits}
use Rattle.hp_trail.proofs.Indexing.{get_there, lists_long}
use Rattle.hp_trail.proofs.Taking.{found, later_waits, past_sessions, taken}
use Rattle.hp_trail.proofs.walk.Walk.pass.Goals as goal

pub pass_section-requires : goal.pass_section-requires
pass_section-requires c =
    let old = c.args.self.now in
    let next = c.in_ok-part.ensures in
    let f =
    found old.trails old.cursors old.receipts c.args.session (cursor_at old.cursors.sessions c.args.session) next.0 c.in_ok-part.part c.in_ok-part.place
    c.requires.right c.requires.sections next.1 next.2 next.3
    (c.if-place-cursor.false ∙ c.cursor.ensures) in
    f.stands

pub returns-then-not-pass_section : goal.returns-then-not-pass_section
returns-then-not-pass_section c =
    let old = c.args.self.now in
    let next = c.in_ok-part.ensures in
    let f =
    found old.trails old.cursors old.receipts c.args.session (cursor_at old.cursors.sessions c.args.session) next.0 c.in_ok-part.part c.in_ok-part.place
    c.requires.right c.requires.sections next.1 next.2 next.3
    (c.if-place-cursor.false ∙ c.cursor.ensures) in
    (c.if-not-pass_section.ensures.stays refl, later_waits old.trails old.receipts c.args.session old.cursors next.0 c.in_ok-part.part f next.1 next.2 (c.if-not-pass_section.ensures.waits refl))

pub advance-requires : goal.advance-requires
advance-requires c =
    let old = c.args.self.now in
    let next = c.in_ok-part.ensures in
    let f =
    found old.trails old.cursors old.receipts c.args.session (cursor_at old.cursors.sessions c.args.session) next.0 c.in_ok-part.part c.in_ok-part.place
    c.requires.right c.requires.sections next.1 next.2 next.3
    (c.if-place-cursor.false ∙ c.cursor.ensures) in
    subst (λ (w : Walking). cursor w.cursors c.in_ok-part.part < part_length w.trails c.in_ok-part.part) (sym (c.if-not-pass_section.ensures.passed refl)) f.below

pub overflow_add-index_mut : goal.overflow_add-index_mut
overflow_add-index_mut c =
    let old = c.args.self.now in
    let next = c.in_ok-part.ensures in
    let part = c.in_ok-part.part in
    let s : ℕ = c.args.session in
    let all = c.self.view_is ∙ c.advance.ensures ∙ ap (λ (w : Walking). record w { cursors = past part w.cursors }) (c.if-not-pass_section.ensures.passed refl) in
    let receipts = ap (λ (w : Walking). w.receipts) all in
    let sessions = ap (λ (w : Walking). w.cursors.sessions) all ∙ past_sessions part (next_section old.trails old.cursors part) old.cursors in
    let below : cursor_at old.cursors.sessions s < length (session old.receipts s) = get_there (session old.receipts s) (cursor_at old.cursors.sessions s) next.0 next.1 in
    cursor_fits c.self.inside.receipts.now c.self.inside.session_cursors.items s c.index_mut.result.now c.self.invariant.1 c.index_mut.ensures.value
    (subst (λ xs. cursor_at xs s < length (session (lists c.self.inside.receipts.now) s)) (sym sessions)
    (subst (λ xss. cursor_at old.cursors.sessions s < length (session xss s)) (sym receipts) below))

pub returns : goal.returns
returns c =
    let old = c.args.self.now in
    let next = c.in_ok-part.ensures in
    let part = c.in_ok-part.part in
    let f =
    found old.trails old.cursors old.receipts c.args.session (cursor_at old.cursors.sessions c.args.session) next.0 part c.in_ok-part.place c.requires.right c.requires.sections next.1 next.2 next.3
    (c.if-place-cursor.false ∙ c.cursor.ensures) in
    let all = c.self.view_is ∙ c.advance.ensures ∙ ap (λ (w : Walking). record w { cursors = past part w.cursors }) (c.if-not-pass_section.ensures.passed refl) in
    let inside : Cursors = record {
      tasks = c.self.inside.task_cursor;
      slots = c.self.inside.slot_cursors.items;
      pool = c.self.inside.pool_cursor;
      sessions = c.self.inside.session_cursors.items;
    } in
    let trails = ap (λ (w : Walking). w.trails) all in
    let receipts = ap (λ (w : Walking). w.receipts) all in (
      trails,
      receipts,
      taken old.trails old.receipts c.args.session old.cursors next.0 part inside c.index_mut.result.now f next.1 next.2 (c.if-not-pass_section.ensures.next refl)
          (c.self.invariant.1 ∙ sym (lists_long c.self.inside.receipts.now) ∙ ap length receipts)
          (c.self.invariant.0 ∙ sym (lists_long c.self.inside.slots.now) ∙ ap (λ t. length t.slots) trails) (ap (λ (w : Walking). w.cursors) all) c.index_mut.ensures.value,
    )
