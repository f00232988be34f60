use Rattle.std.proofs.Common.{◌≡◌, ◌==◌, ℕ, Bool, Option, None, Some, Ok, List, sym, ap, IfSome}
use Rattle.hp_entrance.specs.Members.{MemberView, told_at}
use Rattle.hp_entrance.proofs.Handed.{handed_as, looked_told, told_before}
use Rattle.hp_history.specs.declared.held.Held.{Held}
use Rattle.hp_history.specs.History.{looked, receipts_in}
use Rattle.hp_laws.proofs.Variants.{Find, Home, Receipt, Tasks as OnTasks}
use Rattle.hp_events.specs.Answered.{IsHanded}
use Rattle.hp_entrance.proofs.member.Member.look.Goals as goal

found : (kept : Bool) (task : ℕ) (home : Option ℕ) (v : List Held) (now : List Held × List (ℕ × Unit {0})) (rest : List (ℕ × Unit {0})) → now ≡ (looked task home v, rest) →
    IfSome home (λ h. (size : ℕ) → IsHanded kept size (OnTasks (Find task)) (Ok (Home h)) (receipts_in v) (receipts_in now.0))
found kept task None v now rest is = tt
found kept task (Some h) v now rest is = λ size. looked_told kept size task h v now.0 (ap (λ m. m.0) is)

found_as : (kept : Bool) (task : ℕ) (home : Option ℕ) (was was' now now' : List Receipt) → was ≡ was' → now ≡ now' →
    IfSome home (λ h. (size : ℕ) → IsHanded kept size (OnTasks (Find task)) (Ok (Home h)) was' now') →
    IfSome home (λ h. (size : ℕ) → IsHanded kept size (OnTasks (Find task)) (Ok (Home h)) was now)
found_as kept task None was was' now now' a b h = tt
found_as kept task (Some at) was was' now now' a b h = λ size. handed_as kept size (OnTasks (Find task)) (Ok (Home at)) was was' now now' a b (h size)

pub returns-clause-found : goal.returns-clause-found
returns-clause-found g c =
    let v : List Held = c.into_seat-mine.result.me.0 in
    let w : List Held = c.look-home.new.seat.me.0 in
    found_as (g.row.K == 1) c.args.task c.look-home.result c.args.self.now.receipts (receipts_in v) (told_at c.into_badge.result.views) (receipts_in w)
    (told_before c.args.self.now c.self.inside.seat.views c.replace.result.views v (sym (ap (λ (m : MemberView). m.receipts) c.self.view_is))
    (ap (λ b. b.views) c.replace.ensures.value) c.into_seat-mine.ensures.2) (ap told_at c.into_badge.ensures.2)
    (found (g.row.K == 1) c.args.task c.look-home.result v c.look-home.new.seat.me c.into_seat-mine.result.me.1 c.look-home.ensures.view)
