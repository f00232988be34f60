use Rattle.std.proofs.Common.{None, ◌∙◌, subst}
use Rattle.hp_model.proofs.Words.{told_reply}
use Rattle.hp_shared.specs.Slots.{IsActedOr, IsSlotEvent, SlotView}
use Rattle.hp_shared.proofs.Acting.{acted_or, acted_small, event_entered}
use Rattle.hp_shared.proofs.SlotsKept.{mount_event, unnoted_done, unnoted_stays, was_full}
use Rattle.hp_shared.proofs.locked_slot.Slot.event_unnoted.Given.{Over}
use Rattle.hp_shared.proofs.locked_slot.Slot.event_unnoted.Goals as goal
use Rattle.hp_shared.proofs.locked_slot.Slot.event_unnoted.Goals.{After-act}

module _ (g : Over) (c : After-act g) where
  acted : IsActedOr (g.D.PoolDoor.is_full c.act.new.door) g.N.Naming.page_bytes c.self.inside.number c.self.inside.mount c.args.event.now
      (told_reply c.act.new.reply) (g.D.SessionDoor.asked c.act.new.door) c.act.new.slot
  acted =
      acted_or g.D.SessionDoor.keeps g.D.SessionDoor.asked g.D.SessionDoor.mine g.D.PoolDoor.took g.D.PoolDoor.is_full g.met.D.SessionDoor.tells
      g.N.Naming.page_bytes c.self.inside.number c.self.inside.mount c.args.door.now c.args.event.now (told_reply c.act.new.reply) c.act.new.slot
      c.act.new.door (g.met.D.SessionDoor.begins c.args.door.now c.requires.ready) (c.act.ensures.done c.self.inside.number)

pub invariant_of-self : goal.invariant_of-self
invariant_of-self g c =
    let s = c.self.inside in
    unnoted_stays (g.D.PoolDoor.is_full c.act.new.door) g.N.Naming.page_bytes s.number (g.T.Trail.entries s.trail) (g.T.Trail.left s.trail)
    (g.T.Trail.extra s.trail) s.mount c.args.event.now (told_reply c.act.new.reply)
    (g.D.SessionDoor.asked c.act.new.door) c.act.new.slot (acted g (goal.at.invariant_of-self g c).After-act) (g.met.T.Trail.kept s.trail ∙ c.requires.unkept)
    (mount_event s.mount c.args.event.now c.requires.of_mount) c.self.invariant

pub returns-clause-done : goal.returns-clause-done
returns-clause-done g c =
    let s = c.self.inside in
    subst (λ (v : SlotView). IsSlotEvent (g.D.PoolDoor.is_full c.act.new.door) g.N.Naming.page_bytes v
    (record {
      number = s.number;
      mount = c.act.new.slot;
      entries = g.T.Trail.entries s.trail;
      left = g.T.Trail.left s.trail;
      extra = g.T.Trail.extra s.trail;
    })
    c.args.event.now (told_reply c.act.new.reply) (g.D.SessionDoor.asked c.act.new.door) None) c.self.view_is
    (unnoted_done (g.D.PoolDoor.is_full c.act.new.door) g.N.Naming.page_bytes s.number (g.T.Trail.entries s.trail) (g.T.Trail.left s.trail)
    (g.T.Trail.extra s.trail) s.mount c.args.event.now (told_reply c.act.new.reply)
    (g.D.SessionDoor.asked c.act.new.door) c.act.new.slot (acted g (goal.at.returns-clause-done g c).After-act) (g.met.T.Trail.kept s.trail ∙ c.requires.unkept))

pub returns-clause-entered : goal.returns-clause-entered
returns-clause-entered g c =
    event_entered g.D.SessionDoor.keeps g.D.SessionDoor.asked g.D.SessionDoor.mine g.D.PoolDoor.took g.D.PoolDoor.is_full g.met.D.SessionDoor.tells
    g.N.Naming.page_bytes c.self.inside.number c.self.inside.mount c.args.door.now c.args.event.now (told_reply c.act.new.reply) c.act.new.slot
    c.act.new.door (g.met.D.SessionDoor.begins c.args.door.now c.requires.ready) (c.act.ensures.done c.self.inside.number)

pub returns-clause-keeps : goal.returns-clause-keeps
returns-clause-keeps g c =
    let s = c.self.inside in
    λ full. was_full (g.D.PoolDoor.is_full c.act.new.door) g.N.Naming.page_bytes s.number (g.T.Trail.entries s.trail) (g.T.Trail.left s.trail)
    (g.T.Trail.extra s.trail) s.mount c.args.event.now (told_reply c.act.new.reply)
    (g.D.SessionDoor.asked c.act.new.door) c.act.new.slot (acted g (goal.at.returns-clause-keeps g c).After-act) full

pub returns-clause-limits : goal.returns-clause-limits
returns-clause-limits g c =
    acted_small (g.D.PoolDoor.is_full c.act.new.door) g.N.Naming.page_bytes c.self.inside.number c.self.inside.mount c.args.event.now
    (g.D.SessionDoor.asked c.act.new.door) c.act.new.slot (told_reply c.act.new.reply) (acted g (goal.at.returns-clause-limits g c).After-act) c.act.ensures.limits
